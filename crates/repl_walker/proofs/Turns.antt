-- Answers in a row, for the proof that a walk ends.
use Rattle.std.proofs.Common.{◌≡◌, ℕ, ◌<◌, ◌≤◌, ◌^◌, ◌⊎◌, Bool, true, false, refl, sym}
use Rattle.std.proofs.Common.{subst, inl, inr, arith}
use Rattle.walker_state.specs.Position.{Position, outer_calls, outer_size, IsLess, LaterIn, IsLater}
use Rattle.repl_walker.specs.Positions.{rank, IsOuter, OuterIn, walk_position, calls_left}
use Rattle.repl_walker.specs.Positions.{IsLaterProgress, IsOuterProgress, HasFewerCalls}
use Rattle.repl_walker.specs.declared.waiting.Walk.{Walk}
use Rattle.repl_walker.specs.declared.waiting.Progress.{Progress}

pub outer_itself : (p : Position) → p.transaction.runs ≡ true → IsOuter p p
unfolding IsOuter
outer_itself p runs = (omega arith, subst (λ (b : Bool). OuterIn b p p) (sym runs) (omega arith))

-- one answer
pub outer_later : (new old : Position) → IsLater new old → IsOuter new old
unfolding IsLater IsOuter
outer_later new old h = (h.0, by_runs new.transaction.runs h.1)
  where
    by_runs : (b : Bool) → LaterIn b new old → OuterIn b new old
    by_runs true k = k.0
    by_runs false k = k

below_below : (a b c d e f : ℕ) → a ≤ b → c ≤ d → (e < a) ⊎ (f < c) → (e < b) ⊎ (f < d)
below_below a b c d e f h k (inl l) = inl (omega arith)
below_below a b c d e f h k (inr l) = inr (omega arith)

-- from within a transaction
pub outer_on : (new middle old : Position) → middle.transaction.runs ≡ true → IsOuter middle old → IsOuter new middle → IsOuter new old
unfolding IsOuter
outer_on new middle old runs first second =
    let inside : OuterIn true middle old = subst (λ (b : Bool). OuterIn b middle old) runs first.1 in
    (omega (arith, first.0, second.0), by_runs inside new.transaction.runs second.1)
  where
    by_runs : OuterIn true middle old → (b : Bool) → OuterIn b new middle → OuterIn b new old
    by_runs inside true k = omega (arith, inside, k)
    by_runs inside false k = below_below _ _ _ _ _ _ first.0 inside k

abbrev LaterTurn : Position → Position → Type 0
LaterTurn new old = (new.transaction.turn < old.transaction.turn) ⊎ (new.transaction.turn ≤ old.transaction.turn) × IsLess new old

within : (new old : Position) → new.transaction.runs ≡ true → old.transaction.runs ≡ true → IsLater new old → LaterTurn new old
unfolding IsLater
within new old runs ran later =
    let inside : LaterIn true new old = subst (λ (b : Bool). LaterIn b new old) runs later.1 in inside.1 ran

-- not at a later attempt, and with as many calls: less is to be done
pub turn_less : (new old : Position) → new.transaction.runs ≡ true → old.transaction.runs ≡ true → IsLater new old
    → old.transaction.turn ≤ new.transaction.turn → old.calls ≤ new.calls
    → (new.transaction.turn ≡ old.transaction.turn) × (new.calls ≡ old.calls) × (new.size < old.size)
turn_less new old runs ran later no_later no_fewer = by_turn (within new old runs ran later)
  where
    by_less : new.transaction.turn ≤ old.transaction.turn → IsLess new old
        → (new.transaction.turn ≡ old.transaction.turn) × (new.calls ≡ old.calls) × (new.size < old.size)
    by_less turn (inl fewer) = absurd (omega arith)
    by_less turn (inr smaller) = (omega (arith, turn), omega (arith, smaller.0), smaller.1)

    by_turn : LaterTurn new old → (new.transaction.turn ≡ old.transaction.turn) × (new.calls ≡ old.calls) × (new.size < old.size)
    by_turn (inl turn) = absurd (omega arith)
    by_turn (inr less) = by_less less.0 less.1

-- at a later attempt, or with fewer calls
pub turn_falls : (new old : Position) → new.transaction.turn < old.transaction.turn → new.calls < 2 ^ 32 → rank new < rank old
unfolding rank
turn_falls new old turn small = omega arith

pub calls_fall : (new old : Position) → new.transaction.runs ≡ true → old.transaction.runs ≡ true → IsLater new old
    → old.transaction.turn ≤ new.transaction.turn → new.calls < old.calls → rank new < rank old
unfolding rank
calls_fall new old runs ran later no_later fewer = by_turn (within new old runs ran later)
  where
    by_turn : LaterTurn new old → rank new < rank old
    by_turn (inl turn) = absurd (omega arith)
    by_turn (inr less) = omega (arith, less.0)

-- two places with as many attempts and calls
pub rank_same : (a b : Position) → a.transaction.turn ≡ b.transaction.turn → a.calls ≡ b.calls → rank a ≡ rank b
unfolding rank
rank_same a b turn calls = rw (turn, calls) refl

-- out of a transaction
pub settled_less : (new old : Position) → new.transaction.runs ≡ false → IsOuter new old → outer_calls old ≤ outer_calls new → outer_size new < outer_size old
unfolding IsOuter
settled_less new old settled outer not_fewer =
    let outside : OuterIn false new old = subst (λ (b : Bool). OuterIn b new old) settled outer.1 in by_less outside
  where
    by_less : OuterIn false new old → outer_size new < outer_size old
    by_less (inl fewer) = absurd (omega arith)
    by_less (inr smaller) = smaller

pub settled_calls : (new old : Position) → IsOuter new old → outer_calls old ≤ outer_calls new → outer_calls new ≡ outer_calls old
unfolding IsOuter
settled_calls new old outer not_fewer = omega (arith, outer.0)

pub outer_after : (p : Progress) (old : Position) → IsLaterProgress p old → IsOuterProgress p old
outer_after (Progress.Asks w) old h = outer_later (walk_position w) old h
outer_after (Progress.Ends e) old h = tt

pub outer_behind : (p : Progress) (middle old : Position) → middle.transaction.runs ≡ true → IsOuter middle old → IsOuterProgress p middle → IsOuterProgress p old
outer_behind (Progress.Asks w) middle old runs first second = outer_on (walk_position w) middle old runs first second
outer_behind (Progress.Ends e) middle old runs first second = tt

-- fewer calls are left behind a walk than at it
pub fewer_less : (p : Progress) (w : Walk) → HasFewerCalls p (walk_position w) → calls_left p < calls_left (Progress.Asks w)
fewer_less (Progress.Asks v) w h = omega (arith, h)
fewer_less (Progress.Ends e) w h = omega arith
