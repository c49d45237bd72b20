use Rattle.std.proofs.Common.{◌≤◌, ℕ, sym, subst, ◌∙◌}
use Rattle.walker_state.specs.Position.{outer_calls}
use Rattle.repl_walker.specs.Waits.{WentOn}
use Rattle.repl_walker.specs.Positions.{walk_position, IsOuterProgress, IsSettled}
use Rattle.repl_walker.specs.declared.waiting.Progress.{Progress}
use Rattle.repl_walker.proofs.Leading.{went-nowhere, went-on, left-further}
use Rattle.repl_walker.proofs.Turns.{settled_less, settled_calls}
use Rattle.repl_walker.proofs.run.until_a_call.Goals as goal

pub loop-further-init : goal.loop-further-init
loop-further-init g c = record { goes_on = c.requires; came = went-nowhere c.args.walk _; calls = sym c.most_calls-calls.ensures }

pub loop-further-smaller : goal.loop-further-smaller
loop-further-smaller g c =
    let old = walk_position c.loop-further.walk in
    let new = walk_position c.in-Asks.later in
    let P : Progress → Type 0 = λ p. IsOuterProgress p old in
    let outer : P (Progress.Asks c.in-Asks.later) = subst P c.in-Asks.is c.in-Ok.ensures.outer in
    let settled : IsSettled (Progress.Asks c.in-Asks.later) = subst IsSettled c.in-Asks.is c.in-Ok.ensures.settled in
    let Q : ℕ → Type 0 = λ n. n ≤ outer_calls new in
    let as_many : Q (outer_calls old) = subst Q (sym c.loop-further.invariant.calls) (subst (λ n. c.most_calls-calls.result ≤ n) c.most_calls.ensures c.if-most_calls-calls.false) in
    settled_less new old settled outer as_many

pub loop-further-preserved : goal.loop-further-preserved
loop-further-preserved g c =
    let old = walk_position c.loop-further.walk in
    let new = walk_position c.in-Asks.later in
    let e = c.in-Ok.ensures in
    let P : Progress → Type 0 = λ p. IsOuterProgress p old in
    let outer : P (Progress.Asks c.in-Asks.later) = subst P c.in-Asks.is e.outer in
    let R : Progress → Type 0 = λ p. WentOn c.loop-further.walk (g.R.Refs.heard c.loop-further.refs).trace (g.R.Refs.heard c.out_of_transaction.new.refs).trace p in
    let came : R (Progress.Asks c.in-Asks.later) = subst R c.in-Asks.is e.meaning in
    let Q : ℕ → Type 0 = λ n. n ≤ outer_calls new in
    let as_many : Q (outer_calls old) = subst Q (sym c.loop-further.invariant.calls) (subst (λ n. c.most_calls-calls.result ≤ n) c.most_calls.ensures c.if-most_calls-calls.false) in
    record {
      goes_on = e.ok;
      came = went-on c.args.walk c.loop-further.walk _ _ _ (Progress.Asks c.in-Asks.later) c.loop-further.invariant.came came;
      calls = settled_calls new old outer as_many ∙ c.loop-further.invariant.calls;
    }

pub returns-in-Ends-clause-meaning : goal.returns-in-Ends-clause-meaning
returns-in-Ends-clause-meaning g c =
    let R : Progress → Type 0 = λ p. WentOn c.loop-further.walk (g.R.Refs.heard c.loop-further.refs).trace (g.R.Refs.heard c.out_of_transaction.new.refs).trace p in
    went-on c.args.walk c.loop-further.walk _ _ _ (Progress.Ends c.in-Ends.ending) c.loop-further.invariant.came (subst R c.in-Ends.is c.in-Ok.ensures.meaning)

pub returns-then-most_calls-calls-clause-meaning : goal.returns-then-most_calls-calls-clause-meaning
returns-then-most_calls-calls-clause-meaning g c =
    let R : Progress → Type 0 = λ p. WentOn c.loop-further.walk (g.R.Refs.heard c.loop-further.refs).trace (g.R.Refs.heard c.out_of_transaction.new.refs).trace p in
    went-on c.args.walk c.loop-further.walk _ _ _ (Progress.Asks c.in-Asks.later) c.loop-further.invariant.came (subst R c.in-Asks.is c.in-Ok.ensures.meaning)

pub returns-in-Err-clause-left_at : goal.returns-in-Err-clause-left_at
returns-in-Err-clause-left_at g c =
    let old = (g.R.Refs.heard c.args.refs.now).trace in
    let now = (g.R.Refs.heard c.loop-further.refs).trace in
    let new = (g.R.Refs.heard c.out_of_transaction.new.refs).trace in
    left-further c.args.walk c.loop-further.walk old now new _ c.loop-further.invariant.came c.in-Err.ensures.left_at
