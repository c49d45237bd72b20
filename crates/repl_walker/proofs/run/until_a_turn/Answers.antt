use Rattle.std.proofs.Common.{◌<◌, ◌≤◌, ℕ, sym, subst, ◌∙◌, arith}
use Rattle.repl_walker.specs.Waits.{WentOn}
use Rattle.repl_walker.specs.Positions.{rank, walk_position, IsLaterProgress}
use Rattle.repl_walker.specs.declared.waiting.Progress.{Progress}
use Rattle.repl_walker.proofs.Leading.{went-nowhere, went-on, left-further}
use Rattle.repl_walker.proofs.Turns.{outer_itself, outer_later, outer_on, turn_less, turn_falls, calls_fall, rank_same}
use Rattle.repl_walker.proofs.run.until_a_turn.Goals as goal

pub loop-further-init : goal.loop-further-init
loop-further-init g c = record {
  goes_on = c.requires.goes_on;
  came = went-nowhere c.args.walk _;
  inside = c.requires.inside;
  turn = sym c.turn-turn.ensures.value;
  calls = sym c.calls-calls.ensures;
  outer = outer_itself _ c.requires.inside;
}

pub loop-further-smaller : goal.loop-further-smaller
loop-further-smaller g c =
    let old = walk_position c.loop-further.walk in
    let new = walk_position c.in-Asks.later in
    let P : Progress → Type 0 = λ p. IsLaterProgress p old in
    let later : P (Progress.Asks c.in-Asks.later) = subst P c.in-Asks.is c.in-Ok.ensures.later in
    let i = c.loop-further.invariant in
    let turn : old.transaction.turn ≤ new.transaction.turn = omega (arith, i.turn, c.if-turn.false, c.turn.ensures.value) in
    let calls : old.calls ≤ new.calls = omega (arith, i.calls, c.if-calls_left-calls.false, c.calls-calls_left.ensures) in
    let less = turn_less new old (sym c.is_inside.ensures ∙ c.if-not-is_inside.false) i.inside later turn calls in
    less.2

pub loop-further-preserved : goal.loop-further-preserved
loop-further-preserved g c =
    let old = walk_position c.loop-further.walk in
    let new = walk_position c.in-Asks.later in
    let e = c.in-Ok.ensures in
    let i = c.loop-further.invariant in
    let P : Progress → Type 0 = λ p. IsLaterProgress p old in
    let later : P (Progress.Asks c.in-Asks.later) = subst P c.in-Asks.is e.later in
    let R : Progress → Type 0 = λ p. WentOn c.loop-further.walk (g.R.Refs.heard c.loop-further.refs).trace (g.R.Refs.heard c.one_further.new.refs).trace p in
    let came : R (Progress.Asks c.in-Asks.later) = subst R c.in-Asks.is e.meaning in
    let inside = sym c.is_inside.ensures ∙ c.if-not-is_inside.false in
    let turn : old.transaction.turn ≤ new.transaction.turn = omega (arith, i.turn, c.if-turn.false, c.turn.ensures.value) in
    let calls : old.calls ≤ new.calls = omega (arith, i.calls, c.if-calls_left-calls.false, c.calls-calls_left.ensures) in
    let less = turn_less new old inside i.inside later turn calls in
    record {
      goes_on = e.ok;
      came = went-on c.args.walk c.loop-further.walk _ _ _ (Progress.Asks c.in-Asks.later) i.came came;
      inside = inside;
      turn = less.0 ∙ i.turn;
      calls = less.1 ∙ i.calls;
      outer = outer_on _ _ _ i.inside i.outer (outer_later _ _ later);
    }

pub returns-in-Ends-clause-meaning : goal.returns-in-Ends-clause-meaning
returns-in-Ends-clause-meaning g c =
    let R : Progress → Type 0 = λ p. WentOn c.loop-further.walk (g.R.Refs.heard c.loop-further.refs).trace (g.R.Refs.heard c.one_further.new.refs).trace p in
    went-on c.args.walk c.loop-further.walk _ _ _ (Progress.Ends c.in-Ends.ending) c.loop-further.invariant.came (subst R c.in-Ends.is c.in-Ok.ensures.meaning)

pub returns-then-not-is_inside-clause-meaning : goal.returns-then-not-is_inside-clause-meaning
returns-then-not-is_inside-clause-meaning g c =
    let R : Progress → Type 0 = λ p. WentOn c.loop-further.walk (g.R.Refs.heard c.loop-further.refs).trace (g.R.Refs.heard c.one_further.new.refs).trace p in
    went-on c.args.walk c.loop-further.walk _ _ _ (Progress.Asks c.in-Asks.later) c.loop-further.invariant.came (subst R c.in-Asks.is c.in-Ok.ensures.meaning)

pub returns-then-not-is_inside-clause-outer : goal.returns-then-not-is_inside-clause-outer
returns-then-not-is_inside-clause-outer g c =
    let P : Progress → Type 0 = λ p. IsLaterProgress p (walk_position c.loop-further.walk) in
    let later : P (Progress.Asks c.in-Asks.later) = subst P c.in-Asks.is c.in-Ok.ensures.later in
    outer_on _ _ _ c.loop-further.invariant.inside c.loop-further.invariant.outer (outer_later _ _ later)

pub returns-then-turn-clause-meaning : goal.returns-then-turn-clause-meaning
returns-then-turn-clause-meaning g c =
    let R : Progress → Type 0 = λ p. WentOn c.loop-further.walk (g.R.Refs.heard c.loop-further.refs).trace (g.R.Refs.heard c.one_further.new.refs).trace p in
    went-on c.args.walk c.loop-further.walk _ _ _ (Progress.Asks c.in-Asks.later) c.loop-further.invariant.came (subst R c.in-Asks.is c.in-Ok.ensures.meaning)

pub returns-then-turn-clause-outer : goal.returns-then-turn-clause-outer
returns-then-turn-clause-outer g c =
    let P : Progress → Type 0 = λ p. IsLaterProgress p (walk_position c.loop-further.walk) in
    let later : P (Progress.Asks c.in-Asks.later) = subst P c.in-Asks.is c.in-Ok.ensures.later in
    outer_on _ _ _ c.loop-further.invariant.inside c.loop-further.invariant.outer (outer_later _ _ later)

pub returns-then-turn-clause-turned : goal.returns-then-turn-clause-turned
returns-then-turn-clause-turned g c = λ runs.
    turn_falls (walk_position c.in-Asks.later) (walk_position c.args.walk) (omega (arith, c.turn-turn.ensures.value, c.turn.ensures.value, c.if-turn.true))
    (omega (arith, c.calls-calls_left.ensures, c.calls-calls_left.type_inv))

pub returns-then-calls_left-calls-clause-meaning : goal.returns-then-calls_left-calls-clause-meaning
returns-then-calls_left-calls-clause-meaning g c =
    let R : Progress → Type 0 = λ p. WentOn c.loop-further.walk (g.R.Refs.heard c.loop-further.refs).trace (g.R.Refs.heard c.one_further.new.refs).trace p in
    went-on c.args.walk c.loop-further.walk _ _ _ (Progress.Asks c.in-Asks.later) c.loop-further.invariant.came (subst R c.in-Asks.is c.in-Ok.ensures.meaning)

pub returns-then-calls_left-calls-clause-outer : goal.returns-then-calls_left-calls-clause-outer
returns-then-calls_left-calls-clause-outer g c =
    let P : Progress → Type 0 = λ p. IsLaterProgress p (walk_position c.loop-further.walk) in
    let later : P (Progress.Asks c.in-Asks.later) = subst P c.in-Asks.is c.in-Ok.ensures.later in
    outer_on _ _ _ c.loop-further.invariant.inside c.loop-further.invariant.outer (outer_later _ _ later)

pub returns-then-calls_left-calls-clause-turned : goal.returns-then-calls_left-calls-clause-turned
returns-then-calls_left-calls-clause-turned g c =
    let old = walk_position c.loop-further.walk in
    let new = walk_position c.in-Asks.later in
    let i = c.loop-further.invariant in
    let P : Progress → Type 0 = λ p. IsLaterProgress p old in
    let later : P (Progress.Asks c.in-Asks.later) = subst P c.in-Asks.is c.in-Ok.ensures.later in
    let turn : old.transaction.turn ≤ new.transaction.turn = omega (arith, i.turn, c.if-turn.false, c.turn.ensures.value) in
    let calls : new.calls < old.calls = omega (arith, i.calls, c.if-calls_left-calls.true, c.calls-calls_left.ensures) in
    let same = rank_same old (walk_position c.args.walk) (i.turn ∙ c.turn-turn.ensures.value) (i.calls ∙ c.calls-calls.ensures) in
    λ runs. subst (λ (n : ℕ). rank new < n) same (calls_fall new old runs i.inside later turn calls)

pub returns-in-Err-clause-left_at : goal.returns-in-Err-clause-left_at
returns-in-Err-clause-left_at g c =
    let old = (g.R.Refs.heard c.args.refs.now).trace in
    let now = (g.R.Refs.heard c.loop-further.refs).trace in
    let new = (g.R.Refs.heard c.one_further.new.refs).trace in
    left-further c.args.walk c.loop-further.walk old now new _ c.loop-further.invariant.came c.in-Err.ensures.left_at
