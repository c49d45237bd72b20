use Rattle.std.proofs.Common.{sym, subst, ◌∙◌}
use Rattle.repl_walker.specs.Waits.{WentOn}
use Rattle.repl_walker.specs.Positions.{walk_position, IsOuterProgress}
use Rattle.repl_walker.specs.declared.waiting.Progress.{Progress}
use Rattle.repl_walker.proofs.Leading.{went-on, left-further}
use Rattle.repl_walker.proofs.Turns.{outer_after, outer_behind}
use Rattle.repl_walker.proofs.run.out_of_transaction.Goals as goal

pub loop-progress-init : goal.loop-progress-init
loop-progress-init g c = record { goes_on = c.in_ok-progress.ensures.ok; came = c.in_ok-progress.ensures.meaning; outer = outer_after c.in_ok-progress.progress _ c.in_ok-progress.ensures.later }

pub loop-progress-preserved : goal.loop-progress-preserved
loop-progress-preserved g c =
    let w = c.in-Asks.walk in
    let e = c.in-Ok.ensures in
    let P : Progress → Type 0 = λ p. IsOuterProgress p (walk_position c.args.walk) in
    let before : P (Progress.Asks w) = subst P c.in-Asks.is c.loop-progress.invariant.outer in
    let R : Progress → Type 0 = λ p. WentOn c.args.walk (g.R.Refs.heard c.args.refs.now).trace (g.R.Refs.heard c.loop-progress.refs).trace p in
    let came : R (Progress.Asks w) = subst R c.in-Asks.is c.loop-progress.invariant.came in
    record {
      goes_on = e.ok;
      came = went-on c.args.walk w _ _ _ c.in-Ok.later came e.meaning;
      outer = outer_behind c.in-Ok.later (walk_position w) (walk_position c.args.walk) (sym c.is_inside.ensures ∙ c.if-not-is_inside.false) before e.outer;
    }

pub returns-in-Ends-clause-meaning : goal.returns-in-Ends-clause-meaning
returns-in-Ends-clause-meaning g c =
    let R : Progress → Type 0 = λ p. WentOn c.args.walk (g.R.Refs.heard c.args.refs.now).trace (g.R.Refs.heard c.loop-progress.refs).trace p in
    subst R c.in-Ends.is c.loop-progress.invariant.came

pub returns-then-not-is_inside-clause-meaning : goal.returns-then-not-is_inside-clause-meaning
returns-then-not-is_inside-clause-meaning g c =
    let R : Progress → Type 0 = λ p. WentOn c.args.walk (g.R.Refs.heard c.args.refs.now).trace (g.R.Refs.heard c.loop-progress.refs).trace p in
    subst R c.in-Asks.is c.loop-progress.invariant.came

pub returns-then-not-is_inside-clause-outer : goal.returns-then-not-is_inside-clause-outer
returns-then-not-is_inside-clause-outer g c =
    let P : Progress → Type 0 = λ p. IsOuterProgress p (walk_position c.args.walk) in
    subst P c.in-Asks.is c.loop-progress.invariant.outer

pub returns-in-Err-clause-left_at : goal.returns-in-Err-clause-left_at
returns-in-Err-clause-left_at g c =
    let w = c.in-Asks.walk in
    let old = (g.R.Refs.heard c.args.refs.now).trace in
    let now = (g.R.Refs.heard c.loop-progress.refs).trace in
    let new = (g.R.Refs.heard c.until_a_turn.new.refs).trace in
    let R : Progress → Type 0 = λ p. WentOn c.args.walk old now p in
    let came : R (Progress.Asks w) = subst R c.in-Asks.is c.loop-progress.invariant.came in
    left-further c.args.walk w old now new _ came c.in-Err.ensures.left_at
