-- Sums over the entries of a heap.
use Rattle.std.proofs.Common.{◌≡◌, ℕ, ◌+◌, ◌<◌, ◌≤◌, List, [], ◌∷◌, length, refl}
use Rattle.std.proofs.Common.{Option, Some, None, option_map, arith, IfSome}
use Rattle.std.proofs.lemmas.List.Sums.{sum_by-cons}
use Rattle.private_cells.specs.Agents.{AgentData, ActionTurn}
use Rattle.private_cells.specs.Inside.Turns.{HeapTurn, turn_at, turn_weight, heap_sum, HasTurns}
use Rattle.private_cells.specs.Inside.Changes.{OpensAt}
use Rattle.private_cells.proofs.Keeping.{turns_bounded}

pub heap_count : (es : List HeapTurn) → heap_sum (λ _. 1) es ≡ length es
heap_count [] = refl
heap_count (e ∷ es) =
    let more = sum_by-cons (λ (e : HeapTurn). 1) e es in
    let behind = heap_count es in
    omega (arith, more, behind)

room_by : (number : Option ℕ) (place len more room : ℕ)
    → turn_weight (λ _. 1) (option_map (turn_at place) number) + len ≤ more → more ≤ room
    → IfSome number (λ _. len < room)
room_by None place len more room h r = tt
room_by (Some n) place len more room h r = omega arith

-- where one agent gets a turn there is room for it
pub room_to_open : (es : List HeapTurn) (old new : List AgentData) (place len room : ℕ)
    (number : Option ℕ) → HasTurns es old → OpensAt place number old new → len ≡ length es
    → length new ≤ room → IfSome number (λ _. len < room)
room_to_open es old new place len room number h o l r =
    let all = o (λ _. 1) in
    let there = h (λ _. 1) in
    let many = turns_bounded 0 new in
    let counted = heap_count es in
    room_by number place len (length new) room (omega (arith, all, there, many, counted)) r

-- and then the heap has the turns again
pub turns_opened : (es fs : List HeapTurn) (old new : List AgentData) (place : ℕ) (number : Option ℕ)
    → HasTurns es old → OpensAt place number old new
    → ((f : ActionTurn → ℕ) → heap_sum f fs
    ≡ turn_weight f (option_map (turn_at place) number) + heap_sum f es)
    → HasTurns fs new
turns_opened es fs old new place number h o p = λ f.
    let opened = o f in
    let there = h f in
    let pushed = p f in
    omega (arith, opened, there, pushed)
