-- Turns of agents of which one is changed.
use Rattle.std.proofs.Common.{◌≡◌, ℕ, zero, suc, ◌+◌, ◌<◌, ◌≤◌, List, [], ◌∷◌, map, length, refl}
use Rattle.std.proofs.Common.{ap, sym}
use Rattle.std.proofs.Common.{◌∙◌, Option, Some, None, option_map, arith, slice_set, slice_index_or}
use Rattle.std.specs.Prelude.{slice_get}
use Rattle.repl_values.specs.Failure.{Failure}
use Rattle.private_cells.specs.Agents.{AgentData, SentAction, ActionTurn, with_begun, begun}
use Rattle.private_cells.specs.Inside.Turns.{turn_at, open_turn, open_by, turn_weight, open_sum, Opens}

-- what is seen at a place
pub seen_at : {A B : Type 0} (g : A → B) (n : ℕ) (x : A) (xs : List A) → n < length xs
    → x ≡ slice_index_or xs n x → slice_get (map g xs) n ≡ Some (g x)
seen_at g n x [] l h = absurd (omega arith)
seen_at g zero x (y ∷ ys) l h = ap (λ w. Some (g w)) (sym h)
seen_at g (suc n) x (y ∷ ys) l h = seen_at g n x ys (omega arith) h

-- behind the end nothing is seen
pub seen_none : {A B : Type 0} (g : A → B) (n : ℕ) (xs : List A) → length xs ≤ n
    → slice_get (map g xs) n ≡ None
seen_none g n [] l = refl
seen_none g zero (y ∷ ys) l = absurd (omega arith)
seen_none g (suc n) (y ∷ ys) l = seen_none g n ys (omega arith)

-- one agent's turn gives way to another in the sum
pub set_sum : {A : Type 0} (g : A → AgentData) (f : ActionTurn → ℕ) (p n q : ℕ) (x y : A)
    (xs : List A)
    → n < length xs → x ≡ slice_index_or xs n x → q ≡ p + n
    → open_sum f p (map g (slice_set xs n y)) + turn_weight f (open_turn q (g x))
    ≡ turn_weight f (open_turn q (g y)) + open_sum f p (map g xs)
set_sum g f p n q x y [] l h e = absurd (omega arith)
set_sum g f p zero q x y (z ∷ zs) l h e =
    let at : q ≡ p = omega arith in
    let same : turn_weight f (open_turn q (g x)) ≡ turn_weight f (open_turn p (g z)) =
    ap (λ r. turn_weight f (open_turn r (g x))) at ∙ ap (λ w. turn_weight f (open_turn p (g w))) h in
    let new : turn_weight f (open_turn q (g y)) ≡ turn_weight f (open_turn p (g y)) =
    ap (λ r. turn_weight f (open_turn r (g y))) at in
    omega (arith, same, new)
set_sum g f p (suc n) q x y (z ∷ zs) l h e =
    let behind = set_sum g f (suc p) n q x y zs (omega arith) h (omega arith) in
    omega (arith, behind)

pub opens_set : {A : Type 0} (g : A → AgentData) (number : Option ℕ) (n : ℕ) (x y : A) (xs : List A)
    → n < length xs → x ≡ slice_index_or xs n x → Opens number (g x) (g y) → (f : ActionTurn → ℕ)
    → open_sum f 0 (map g (slice_set xs n y))
    ≡ turn_weight f (option_map (turn_at n) number) + open_sum f 0 (map g xs)
opens_set g number n x y xs l h o f =
    let sums = set_sum g f 0 n n x y xs l h (omega arith) in
    let here = o n f in
    omega (arith, sums, here)

begun_by : (p : ℕ) (t : ActionTurn) (running : Option SentAction) (fault : Option Failure)
    (xs : List SentAction) (a : AgentData) → open_by p running fault xs ≡ Some t
    → open_turn p (begun xs a) ≡ None
begun_by p t (Some x) fault xs a h = absurd (let no : ⊥ = cc in no)
begun_by p t None (Some f) xs a h = absurd (let no : ⊥ = cc in no)
begun_by p t None None [] a h = absurd (let no : ⊥ = cc in no)
begun_by p t None None (x ∷ xs) a h = refl

-- an agent that begins its turn has none
pub begun_closes : (p : ℕ) (t : ActionTurn) (a : AgentData) → open_turn p a ≡ Some t
    → open_turn p (with_begun a) ≡ None
begun_closes p t a h = begun_by p t a.running a.fault a.waiting a h
