-- The entry that comes first in the heap is the next turn.
use Rattle.std.proofs.Common.{◌≡◌, ℕ, zero, suc, ◌+◌, ◌<◌, ◌≤◌, ◌==◌, List, [], ◌∷◌}
use Rattle.std.proofs.Common.{refl, ap, sym, ◌∙◌, subst, Option, Some, None, arith, cond}
use Rattle.std.proofs.Common.{Bool, true, false, nat_eq, nat_lt, if◌then◌else◌}
use Rattle.std.specs.Prelude.{slice_get, ◌⊎◌, ◌||◌, is_some}
use Rattle.std.specs.List.{list_any}
use Rattle.std.specs.Ordering.{nat_cmp, ordering_then, is_lt}
use Rattle.std.specs.declared.cmp.Ordering.TheVariants.{Less, Equal, Greater}
use Rattle.std.proofs.lemmas.Bool.{eqb-true, eq-eqb, ltb-true, ltb-false, lt-ltb}
use Rattle.std.proofs.lemmas.List.Sums.{sum_by-cons}
use Rattle.std.proofs.lemmas.Bool.Decides.{eqb_tells}
use mathlib.Core.Logic.{inl, inr, ◌≢◌}
use Rattle.repl_values.specs.Failure.{Failure}
use Rattle.private_cells.specs.Agents.{AgentData, AgentsData, SentAction, ActionTurn, turn_by}
use Rattle.private_cells.specs.Agents.{action_turn}
use Rattle.private_cells.specs.Agents.{earlier, earliest, runs_action, next_turn}
use Rattle.private_cells.specs.Inside.Turns.{HeapTurn, turn_in, turn_at, turn_weight, open_sum, heap_sum}
use Rattle.private_cells.specs.Inside.Turns.{HasTurns, IsFirst, IsThere, open_turn, open_by}
use Rattle.private_cells.specs.Inside.Turns.{open_turn_of}
use Rattle.private_cells.specs.Inside.Turns.{open_at}
use Rattle.private_cells.specs.Inside.Kept.{runs_at}

-- ---- one turn

-- one for this very turn, and nothing for others
abbrev pub one_for : ActionTurn → ActionTurn → ℕ
one_for u w = cond (nat_eq u.number w.number) (cond (nat_eq u.agent w.agent) 1 0) 0

both_true : (a b : Bool) → 1 ≤ cond a (cond b 1 0) 0 → (a ≡ true) × (b ≡ true)
both_true true true h = (refl, refl)
both_true true false h = absurd (omega arith)
both_true false b h = absurd (omega arith)

one_for_itself : (u : ActionTurn) → one_for u u ≡ 1
one_for_itself u =
    ap (λ b. cond b (cond (nat_eq u.agent u.agent) 1 0) 0) (eq-eqb u.number u.number refl)
    ∙ ap (λ b. cond b 1 0) (eq-eqb u.agent u.agent refl)

one_for_same : (u w : ActionTurn) → 1 ≤ one_for u w → u ≡ w
one_for_same u w h =
    let both = both_true (nat_eq u.number w.number) (nat_eq u.agent w.agent) h in
    let numbers : u.number ≡ w.number = eqb-true u.number w.number both.0 in
    let agents : u.agent ≡ w.agent = eqb-true u.agent w.agent both.1 in
    ap (λ n. turn_at u.agent n) numbers ∙ ap (λ a. turn_at a w.number) agents

weighed : (u : ActionTurn) (o : Option ActionTurn) → 1 ≤ turn_weight (one_for u) o → o ≡ Some u
weighed u None h = absurd (omega arith)
weighed u (Some x) h = ap (λ t. Some t) (sym (one_for_same u x h))

weighs_one : (u : ActionTurn) (o : Option ActionTurn) → o ≡ Some u → turn_weight (one_for u) o ≡ 1
weighs_one u o h = ap (turn_weight (one_for u)) h ∙ one_for_itself u

one_of : (m n : ℕ) → 1 ≤ m + n → (1 ≤ m) ⊎ (1 ≤ n)
one_of zero n h = inr (omega arith)
one_of (suc m) n h = inl (omega arith)

-- u does not come before t
pub record NotBehind (t u : ActionTurn) : Type 0 where
  pub number : t.number ≤ u.number
  pub agent : t.number ≡ u.number → t.agent ≤ u.agent

unordered : (l e m d : Bool)
    → is_lt (ordering_then (cond l Less (cond e Equal Greater))
    (cond m Less (cond d Equal Greater)))
    ≡ false → (l ≡ false) × (e ≡ true → m ≡ false)
unordered true e m d h = absurd (let no : ⊥ = cc in no)
unordered false true true d h = absurd (let no : ⊥ = cc in no)
unordered false true false d h = (refl, λ _. refl)
unordered false false m d h = (refl, λ no. absurd (let none : ⊥ = cc in none))

by_order : (t u : ActionTurn)
    → is_lt (ordering_then (nat_cmp u.number t.number) (nat_cmp u.agent t.agent)) ≡ false
    → NotBehind t u
by_order t u h =
    let tests = unordered (nat_lt u.number t.number) (u.number == t.number)
    (nat_lt u.agent t.agent) (u.agent == t.agent) h in
    record {
      number = ltb-false u.number t.number tests.0;
      agent = λ same. ltb-false u.agent t.agent (tests.1 (eq-eqb u.number t.number (sym same)));
    }

-- what is in a heap comes behind what is first there
in_heap : (t : ℕ × ℕ) (u : ActionTurn) (es : List HeapTurn) → IsFirst t es
    → 1 ≤ heap_sum (one_for u) es → NotBehind (turn_at t.1 t.0) u
in_heap t u [] first h = absurd (omega arith)
in_heap t u (e ∷ es) first h =
    let sums = sum_by-cons (λ (e : HeapTurn). one_for u (turn_in e)) e es in
    let one = one_of (one_for u (turn_in e)) (heap_sum (one_for u) es) (omega (arith, sums, h)) in
    heap_step t u e one (by_order (turn_at t.1 t.0) (turn_in e) first.0)
    (λ rest. in_heap t u es first.1 rest)
  where
    heap_step : (t : ℕ × ℕ) (u : ActionTurn) (e : HeapTurn) {m : ℕ}
        → (1 ≤ one_for u (turn_in e)) ⊎ (1 ≤ m) → NotBehind (turn_at t.1 t.0) (turn_in e)
        → (1 ≤ m → NotBehind (turn_at t.1 t.0) u) → NotBehind (turn_at t.1 t.0) u
    heap_step t u e (inl here) now behind =
        subst (NotBehind (turn_at t.1 t.0)) (sym (one_for_same u (turn_in e) here)) now
    heap_step t u e (inr rest) now behind = behind rest

-- ---- turns of agents

agent_by : (p : ℕ) (r : Option SentAction) (f : Option Failure) (xs : List SentAction)
    (x : ActionTurn)
    → open_by p r f xs ≡ Some x → x.agent ≡ p
agent_by p (Some r) f xs x h = absurd (let no : ⊥ = cc in no)
agent_by p None (Some f) xs x h = absurd (let no : ⊥ = cc in no)
agent_by p None None [] x h = absurd (let no : ⊥ = cc in no)
agent_by p None None (y ∷ ys) x h =
    let same : turn_at p y.number ≡ x = cc in
    ap (λ (t : ActionTurn). t.agent) (sym same)

still : (p : ℕ) (r : Option SentAction) (f : Option Failure) (xs : List SentAction)
    → is_some r ≡ false → open_by p r f xs ≡ turn_by p f xs
still p None f xs h = refl
still p (Some r) f xs h = absurd (let no : ⊥ = cc in no)

-- where a turn stands
pub record Stands (t : ActionTurn) (p : ℕ) (xs : List AgentData) : Type 0 where
  pub place : ℕ
  pub is : t.agent ≡ p + place
  pub there : open_turn_of t.agent (slice_get xs place) ≡ Some t

stands_by : (t : ActionTurn) (p : ℕ) (a : AgentData) (xs : List AgentData) {m : ℕ}
    → (1 ≤ turn_weight (one_for t) (open_turn p a)) ⊎ (1 ≤ m) → (1 ≤ m → Stands t (suc p) xs)
    → Stands t p (a ∷ xs)
stands_by t p a xs (inl here) behind =
    let it = weighed t (open_turn p a) here in
    let agent = agent_by p a.running a.fault a.waiting t it in
    record {
      place = 0;
      is = omega (arith, agent);
      there = ap (λ q. open_turn q a) agent ∙ it;
    }
stands_by t p a xs (inr rest) behind =
    let it = behind rest in
    record { place = suc it.place; is = omega (arith, it.is); there = it.there }

pub stands : (t : ActionTurn) (p : ℕ) (xs : List AgentData) → 1 ≤ open_sum (one_for t) p xs
    → Stands t p xs
stands t p [] h = absurd (omega arith)
stands t p (a ∷ xs) h =
    stands_by t p a xs (one_of (turn_weight (one_for t) (open_turn p a))
    (open_sum (one_for t) (suc p) xs) h)
    (λ rest. stands t (suc p) xs rest)

-- ---- the earliest

of_two : (b : Bool) (x y z : ActionTurn) → (if b then Some z else Some x) ≡ Some y
    → (Some x ≡ Some y) ⊎ (Some z ≡ Some y)
of_two true x y z h = inr h
of_two false x y z h = inl h

pub earlier_one : (o e : Option ActionTurn) (y : ActionTurn) → earlier o e ≡ Some y
    → (o ≡ Some y) ⊎ (e ≡ Some y)
earlier_one None e y h = inr h
earlier_one (Some x) None y h = inl h
earlier_one (Some x) (Some z) y h = of_two (nat_lt z.number x.number) x y z h

occurs_by : (p : ℕ) (a : AgentData) (y : ActionTurn) (m : ℕ) (e : Option ActionTurn)
    → open_turn p a ≡ action_turn p a → (action_turn p a ≡ Some y) ⊎ (e ≡ Some y)
    → (e ≡ Some y → 1 ≤ m) → 1 ≤ turn_weight (one_for y) (open_turn p a) + m
occurs_by p a y m e same (inl here) behind =
    let one = weighs_one y (open_turn p a) (same ∙ here) in
    omega (arith, one)
occurs_by p a y m e same (inr rest) behind =
    let one = behind rest in
    omega (arith, one)

occurs : (p : ℕ) (xs : List AgentData) (y : ActionTurn) → ((j : ℕ) → runs_at j xs ≡ false)
    → earliest p xs ≡ Some y → 1 ≤ open_sum (one_for y) p xs
occurs p [] y k h = absurd (let no : ⊥ = cc in no)
occurs p (a ∷ xs) y k h =
    occurs_by p a y (open_sum (one_for y) (suc p) xs) (earliest (suc p) xs)
    (still p a.running a.fault a.waiting (k 0))
    (earlier_one (action_turn p a) (earliest (suc p) xs) y h)
    (λ rest. occurs (suc p) xs y (λ j. k (suc j)) rest)

from_tail : (o : Option ActionTurn) (t : ActionTurn)
    → ((x : ActionTurn) → o ≡ Some x → t.number < x.number)
    → earlier o (Some t) ≡ Some t
from_tail None t h = refl
from_tail (Some x) t h =
    ap (λ b. if b then Some t else Some x) (lt-ltb t.number x.number (h x refl))

pub not_less : (a b : ℕ) (c : Bool) → nat_lt a b ≡ c → b ≤ a → nat_lt a b ≡ false
not_less a b false e l = e
not_less a b true e l = absurd (omega (arith, ltb-true a b e))

from_head : (t : ActionTurn) (e : Option ActionTurn)
    → ((y : ActionTurn) → e ≡ Some y → t.number ≤ y.number)
    → earlier (Some t) e ≡ Some t
from_head t None h = refl
from_head t (Some y) h =
    ap (λ b. if b then Some y else Some t)
    (not_less y.number t.number (nat_lt y.number t.number) refl (h y refl))

strictly_by : (a b c d : ℕ) → ((nat_eq a b ≡ true) × (a ≡ b)) ⊎ ((nat_eq a b ≡ false) × (a ≢ b))
    → a ≤ b → (a ≡ b → c ≤ d) → d < c → a < b
strictly_by a b c d (inl e) l i m =
    let no_later = i e.1 in
    absurd (omega (arith, no_later))
strictly_by a b c d (inr e) l i m =
    let apart = e.1 in
    omega (arith, apart)

earliest_by : (p : ℕ) (a : AgentData) (xs : List AgentData) (t : ActionTurn)
    → ((j : ℕ) → runs_at j (a ∷ xs) ≡ false)
    → ((u : ActionTurn) → 1 ≤ open_sum (one_for u) p (a ∷ xs) → NotBehind t u)
    → (1 ≤ turn_weight (one_for t) (open_turn p a)) ⊎ (1 ≤ open_sum (one_for t) (suc p) xs)
    → (1 ≤ open_sum (one_for t) (suc p) xs → earliest (suc p) xs ≡ Some t)
    → earliest p (a ∷ xs) ≡ Some t
earliest_by p a xs t k least (inl here) behind =
    let same = still p a.running a.fault a.waiting (k 0) in
    let it = sym same ∙ weighed t (open_turn p a) here in
    ap (λ o. earlier o (earliest (suc p) xs)) it ∙ from_head t (earliest (suc p) xs)
    (λ y e.
    let there = occurs (suc p) xs y (λ j. k (suc j)) e in
    (least y (omega (arith, there))).number)
earliest_by p a xs t k least (inr rest) behind =
    let same = still p a.running a.fault a.waiting (k 0) in
    let it = stands t (suc p) xs rest in
    ap (earlier (action_turn p a)) (behind rest) ∙ from_tail (action_turn p a) t
    (λ x e.
    let one = weighs_one x (open_turn p a) (same ∙ e) in
    let agent = agent_by p a.running a.fault a.waiting x (same ∙ e) in
    let order = least x (omega (arith, one)) in
    strictly_by t.number x.number t.agent x.agent (eqb_tells t.number x.number) order.number
    order.agent (omega (arith, agent, it.is)))

pub first_is_earliest : (p : ℕ) (xs : List AgentData) (t : ActionTurn)
    → ((j : ℕ) → runs_at j xs ≡ false) → 1 ≤ open_sum (one_for t) p xs
    → ((u : ActionTurn) → 1 ≤ open_sum (one_for u) p xs → NotBehind t u) → earliest p xs ≡ Some t
first_is_earliest p [] t k h least = absurd (omega arith)
first_is_earliest p (a ∷ xs) t k h least =
    earliest_by p a xs t k least
    (one_of (turn_weight (one_for t) (open_turn p a)) (open_sum (one_for t) (suc p) xs) h)
    (λ rest. first_is_earliest (suc p) xs t (λ j. k (suc j)) rest
    (λ u more. least u (omega (arith, more))))

-- ---- the next

pub none_running : (xs : List AgentData) → ((j : ℕ) → runs_at j xs ≡ false)
    → list_any runs_action xs ≡ false
none_running [] k = refl
none_running (a ∷ xs) k =
    ap (λ b. b || list_any runs_action xs) (k 0) ∙ none_running xs (λ j. k (suc j))

either : (b : Bool) → (b || true) ≡ true
either true = refl
either false = refl

pub some_running : (n : ℕ) (xs : List AgentData) → runs_at n xs ≡ true
    → list_any runs_action xs ≡ true
some_running n [] h = absurd (let no : ⊥ = cc in no)
some_running zero (a ∷ xs) h = ap (λ b. b || list_any runs_action xs) h
some_running (suc n) (a ∷ xs) h =
    ap (λ b. runs_action a || b) (some_running n xs h) ∙ either (runs_action a)

-- what comes first in the heap, while no action runs
pub next_is : (es : List HeapTurn) (s : AgentsData) (t : ℕ × ℕ) → HasTurns es s.agents
    → ((j : ℕ) → runs_at j s.agents ≡ false) → IsThere t es → IsFirst t es
    → next_turn s ≡ Some (turn_at t.1 t.0)
next_is es s t h k there first =
    let turn = turn_at t.1 t.0 in
    let itself = one_for_itself turn in
    let held = there (one_for turn) in
    let same = h (one_for turn) in
    ap (λ b. if b then None else earliest 0 s.agents) (none_running s.agents k)
    ∙ first_is_earliest 0 s.agents turn k (omega (arith, itself, held, same))
    (λ u more. let all = h (one_for u) in in_heap t u es first (omega (arith, more, all)))

-- the agent whose turn it is may begin
pub next_open : (es : List HeapTurn) (xs : List AgentData) (t : ℕ × ℕ) → HasTurns es xs
    → IsThere t es → open_at t.1 xs ≡ Some (turn_at t.1 t.0)
next_open es xs t h there =
    let turn = turn_at t.1 t.0 in
    let itself = one_for_itself turn in
    let held = there (one_for turn) in
    let same = h (one_for turn) in
    let it = stands turn 0 xs (omega (arith, itself, held, same)) in
    let place : it.place ≡ t.1 = omega (arith, it.is) in
    ap (λ i. open_turn_of t.1 (slice_get xs i)) (sym place) ∙ it.there

none_earliest : (o : Option ActionTurn) → ((y : ActionTurn) → o ≡ Some y → ⊥) → o ≡ None
none_earliest None h = refl
none_earliest (Some y) h = absurd (h y refl)

-- where the heap is empty there is no next turn
pub next_none : (es : List HeapTurn) (s : AgentsData) → HasTurns es s.agents
    → ((j : ℕ) → runs_at j s.agents ≡ false) → es ≡ [] → next_turn s ≡ None
next_none es s h k e =
    ap (λ b. if b then None else earliest 0 s.agents) (none_running s.agents k)
    ∙ none_earliest (earliest 0 s.agents)
    (λ y there.
    let one = occurs 0 s.agents y k there in
    let all = h (one_for y) in
    let nothing : heap_sum (one_for y) es ≡ 0 = ap (heap_sum (one_for y)) e in
    omega (arith, one, all, nothing))
