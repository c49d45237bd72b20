-- What the laws say, step by step.
use Rattle.std.proofs.Common.{◌≡◌, ℕ, zero, suc, ◌+◌, ◌≤◌, ◌==◌, List, [], ◌∷◌, ◌++◌, map, refl, ap}
use Rattle.std.proofs.Common.{sym, ◌∙◌, subst, Option, Some, None, option_map, arith, Bool, true}
use Rattle.std.proofs.Common.{false}
use Rattle.std.proofs.Common.{if◌then◌else◌, nat_lt}
use Rattle.std.specs.Prelude.{slice_get, is_some, ◌||◌, ◌⊎◌, IfSome}
use Rattle.std.specs.List.{list_any}
use Rattle.std.proofs.lemmas.Bool.{eqb-true, ltb-true, ltb-false}
use mathlib.Core.Logic.{inl, inr}
use Rattle.value_data.specs.Datum.{Datum}
use Rattle.repl_values.specs.Failure.{Failure}
use Rattle.repl_values.specs.Places.{changed_at}
use Rattle.private_cells.specs.Atoms.{AtomsData, atom_value, equals, is_unchanged, with_atom_value}
use Rattle.private_cells.specs.Atoms.{with_try}
use Rattle.private_cells.specs.Agents.{AgentData, AgentsData, SentAction, ActionTurn, turn_by}
use Rattle.private_cells.specs.Agents.{action_turn}
use Rattle.private_cells.specs.Agents.{earlier}
use Rattle.private_cells.specs.Agents.{earliest, runs_action, next_turn, with_begun, begun}
use Rattle.private_cells.specs.Agents.{with_turn_taken}
use Rattle.private_cells.specs.Agents.{with_next_begun, over_with, restarted, agent_fault_in}
use Rattle.private_cells.specs.Agents.{first_in}
use Rattle.private_cells.specs.Agents.{agent_running_in, with_waiting, is_failed, is_busy_for}
use Rattle.private_cells.specs.Agents.{agent_at, awaited}
use Rattle.private_cells.specs.Numbers.{RiseBelow}
use Rattle.private_cells.specs.Inside.Kept.{waiting_at}
use Rattle.private_cells.specs.declared.awaiting.Await.{Await}
use Rattle.private_cells.proofs.Next.{earlier_one}

-- ---- places

pub at_changed : {A : Type 0} (f : A → A) (n : ℕ) (xs : List A)
    → slice_get (changed_at n f xs) n ≡ option_map f (slice_get xs n)
at_changed f n [] = refl
at_changed f zero (x ∷ xs) = refl
at_changed f (suc n) (x ∷ xs) = at_changed f n xs

-- ---- atoms

kept_by : (n : ℕ) (seen next : Datum) (vs : List Datum) (o : Option Datum) → slice_get vs n ≡ o
    → equals seen o ≡ true → slice_get (changed_at n (λ _. next) vs) n ≡ Some next
kept_by n seen next vs None h e = absurd (let no : ⊥ = cc in no)
kept_by n seen next vs (Some v) h e =
    at_changed (λ _. next) n vs ∙ ap (option_map (λ _. next)) h

pub try_kept : (s : AtomsData) (n : ℕ) (seen next : Datum) → is_unchanged n seen s ≡ true
    → atom_value n (with_try n seen next s) ≡ Some next
try_kept s n seen next h =
    ap (λ b. atom_value n (if b then with_atom_value n next s else s)) h
    ∙ kept_by n seen next s.values (atom_value n s) refl h

pub try_failed : (s : AtomsData) (n : ℕ) (seen next : Datum) → is_unchanged n seen s ≡ false
    → with_try n seen next s ≡ s
try_failed s n seen next h = ap (λ b. if b then with_atom_value n next s else s) h

-- ---- the next turn

of_next : (b : Bool) (e : Option ActionTurn) (t : ActionTurn)
    → (if b then None else e) ≡ Some t → e ≡ Some t
of_next true e t h = absurd (let no : ⊥ = cc in no)
of_next false e t h = h

turn_in : ℕ → Option AgentData → Option ActionTurn
turn_in q None = None
turn_in q (Some a) = action_turn q a

turn_agent : (p : ℕ) (f : Option Failure) (xs : List SentAction) (t : ActionTurn)
    → turn_by p f xs ≡ Some t → t.agent ≡ p
turn_agent p (Some f) xs t h = absurd (let no : ⊥ = cc in no)
turn_agent p None [] t h = absurd (let no : ⊥ = cc in no)
turn_agent p None (x ∷ xs) t h = ap (λ o. agent_or p o) (sym h)
  where
    agent_or : ℕ → Option ActionTurn → ℕ
    agent_or p None = p
    agent_or p (Some t) = t.agent

record Found (t : ActionTurn) (p : ℕ) (xs : List AgentData) : Type 0 where
  place : ℕ
  is : t.agent ≡ p + place
  there : turn_in t.agent (slice_get xs place) ≡ Some t

found_by : (t : ActionTurn) (p : ℕ) (a : AgentData) (xs : List AgentData) (e : Option ActionTurn)
    → (action_turn p a ≡ Some t) ⊎ (e ≡ Some t) → (e ≡ Some t → Found t (suc p) xs)
    → Found t p (a ∷ xs)
unfolding turn_in
found_by t p a xs e (inl here) behind =
    let agent = turn_agent p a.fault a.waiting t here in
    record { place = 0; is = omega (arith, agent); there = ap (λ q. action_turn q a) agent ∙ here }
found_by t p a xs e (inr rest) behind =
    let it = behind rest in
    record { place = suc it.place; is = omega (arith, it.is); there = it.there }

found : (t : ActionTurn) (p : ℕ) (xs : List AgentData) → earliest p xs ≡ Some t → Found t p xs
found t p [] h = absurd (let no : ⊥ = cc in no)
found t p (a ∷ xs) h =
    found_by t p a xs (earliest (suc p) xs)
    (earlier_one (action_turn p a) (earliest (suc p) xs) t h)
    (λ rest. found t (suc p) xs rest)

its_turn : (s : AgentsData) (t : ActionTurn) → next_turn s ≡ Some t
    → turn_in t.agent (slice_get s.agents t.agent) ≡ Some t
its_turn s t h =
    let it = found t 0 s.agents
    (of_next (list_any runs_action s.agents) (earliest 0 s.agents) t h) in
    let place : it.place ≡ t.agent = omega (arith, it.is) in
    ap (λ i. turn_in t.agent (slice_get s.agents i)) (sym place) ∙ it.there

turn_facts : (p : ℕ) (f : Option Failure) (xs : List SentAction) (t : ActionTurn)
    → turn_by p f xs ≡ Some t
    → (option_map (λ (x : SentAction). x.number) (slice_get xs 0) ≡ Some t.number) × (f ≡ None)
turn_facts p (Some f) xs t h = absurd (let no : ⊥ = cc in no)
turn_facts p None [] t h = absurd (let no : ⊥ = cc in no)
turn_facts p None (x ∷ xs) t h = (ap (option_map (λ (u : ActionTurn). u.number)) h, refl)

facts_in : (q : ℕ) (o : Option AgentData) (t : ActionTurn) → turn_in q o ≡ Some t
    → (option_map (λ (x : SentAction). x.number) (first_in o) ≡ Some t.number)
    × (agent_fault_in o ≡ None)
unfolding turn_in
facts_in q None t h = absurd (let no : ⊥ = cc in no)
facts_in q (Some a) t h = turn_facts q a.fault a.waiting t h

pub waits_first : (s : AgentsData) (t : ActionTurn) → next_turn s ≡ Some t
    → (option_map (λ (x : SentAction). x.number) (first_in (agent_at t.agent s)) ≡ Some t.number)
    × (agent_fault_in (agent_at t.agent s) ≡ None)
waits_first s t h = facts_in t.agent (agent_at t.agent s) t (its_turn s t h)

-- the option has a turn of a number that is no greater
bound : Option ActionTurn → ActionTurn → Type 0
bound None u = ⊥
bound (Some t) u = t.number ≤ u.number

bound_two : (x y : ActionTurn) (b : Bool) → nat_lt y.number x.number ≡ b
    → bound (if b then Some y else Some x) x
unfolding bound
bound_two x y true h = let less = ltb-true y.number x.number h in omega (arith, less)
bound_two x y false h = omega arith

bound_left : (x : ActionTurn) (e : Option ActionTurn) → bound (earlier (Some x) e) x
unfolding bound
bound_left x None = omega arith
bound_left x (Some y) = bound_two x y (nat_lt y.number x.number) refl

bound_other : (x y u : ActionTurn) (b : Bool) → nat_lt y.number x.number ≡ b → y.number ≤ u.number
    → bound (if b then Some y else Some x) u
unfolding bound
bound_other x y u true h l = l
bound_other x y u false h l = let least = ltb-false y.number x.number h in omega (arith, least)

bound_right : (o e : Option ActionTurn) (u : ActionTurn) → bound e u → bound (earlier o e) u
unfolding bound
bound_right None e u h = h
bound_right (Some x) None u h = absurd h
bound_right (Some x) (Some y) u h = bound_other x y u (nat_lt y.number x.number) refl h

head_bound : (o e : Option ActionTurn) → IfSome o (λ u. bound (earlier o e) u)
head_bound None e = tt
head_bound (Some x) e = bound_left x e

tail_bound : (o e r : Option ActionTurn) → IfSome r (λ u. bound e u)
    → IfSome r (λ u. bound (earlier o e) u)
tail_bound o e None h = tt
tail_bound o e (Some u) h = bound_right o e u h

all_bound : (p i q : ℕ) (xs : List AgentData) (a : AgentData) → slice_get xs i ≡ Some a
    → q ≡ p + i → IfSome (action_turn q a) (λ u. bound (earliest p xs) u)
all_bound p i q [] a h e = absurd (let no : ⊥ = cc in no)
all_bound p zero q (x ∷ xs) a h e =
    let at : p ≡ q = omega (arith, e) in
    let same : x ≡ a = cc in
    subst (λ r. IfSome (action_turn r a) (λ u. bound (earliest p (x ∷ xs)) u)) at
    (subst (λ y. IfSome (action_turn p y) (λ u. bound (earliest p (x ∷ xs)) u)) same
    (head_bound (action_turn p x) (earliest (suc p) xs)))
all_bound p (suc i) q (x ∷ xs) a h e =
    tail_bound (action_turn p x) (earliest (suc p) xs) (action_turn q a)
    (all_bound (suc p) i q xs a h (omega (arith, e)))

unbound : (o : Option ActionTurn) (e : Option ActionTurn) (t : ActionTurn) → e ≡ Some t
    → IfSome o (λ u. bound e u) → IfSome o (λ u. t.number ≤ u.number)
unfolding bound
unbound None e t h b = tt
unbound (Some u) e t h b = subst (λ f. bound f u) h b

pub has_least : (s : AgentsData) (t : ActionTurn) (n : ℕ) (a : AgentData) → next_turn s ≡ Some t
    → agent_at n s ≡ Some a → IfSome (action_turn n a) (λ u. t.number ≤ u.number)
has_least s t n a h there =
    unbound (action_turn n a) (earliest 0 s.agents) t
    (of_next (list_any runs_action s.agents) (earliest 0 s.agents) t h)
    (all_bound 0 n n s.agents a there (omega arith))

begun_runs : (p : ℕ) (f : Option Failure) (xs : List SentAction) (t : ActionTurn) (a : AgentData)
    → turn_by p f xs ≡ Some t → (begun xs a).running ≡ slice_get xs 0
begun_runs p (Some f) xs t a h = absurd (let no : ⊥ = cc in no)
begun_runs p None [] t a h = absurd (let no : ⊥ = cc in no)
begun_runs p None (x ∷ xs) t a h = refl

runs_in : (q : ℕ) (o : Option AgentData) (t : ActionTurn) → turn_in q o ≡ Some t
    → agent_running_in (option_map with_begun o) ≡ first_in o
unfolding turn_in
runs_in q None t h = absurd (let no : ⊥ = cc in no)
runs_in q (Some a) t h = begun_runs q a.fault a.waiting t a h

pub runs_first : (s : AgentsData) (t : ActionTurn) → next_turn s ≡ Some t
    → agent_running_in (agent_at t.agent (with_next_begun s)) ≡ first_in (agent_at t.agent s)
runs_first s t h =
    ap (λ o. agent_running_in (agent_at t.agent (with_turn_taken o s))) h
    ∙ ap agent_running_in (at_changed with_begun t.agent s.agents)
    ∙ runs_in t.agent (agent_at t.agent s) t (its_turn s t h)

-- ---- what waits

pub over_waiting : (b : Bool) (f : AgentData → AgentData)
    → ((a : AgentData) → (f a).waiting ≡ a.waiting) → (a : AgentData)
    → (if b then f (record a { running = None }) else a).waiting ≡ a.waiting
over_waiting true f k a = k (record a { running = None })
over_waiting false f k a = refl

pub map_waiting : (f : AgentData → AgentData) → ((a : AgentData) → (f a).waiting ≡ a.waiting)
    → (n : ℕ) (xs : List AgentData) → waiting_at n (map f xs) ≡ waiting_at n xs
map_waiting f k n [] = refl
map_waiting f k zero (x ∷ xs) = k x
map_waiting f k (suc n) (x ∷ xs) = map_waiting f k n xs

-- the end of an action leaves what waits
pub end_waiting : (f : AgentData → AgentData) → ((a : AgentData) → (f a).waiting ≡ a.waiting)
    → (n : ℕ) (xs : List AgentData) → waiting_at n (map (over_with f) xs) ≡ waiting_at n xs
end_waiting f k = map_waiting (over_with f) (λ a. over_waiting (runs_action a) f k a)

restart_fault : (f : Option Failure) (d : Datum) (a : AgentData) → is_some f ≡ true
    → (if is_some f then record a { state = d; fault = None } else a).fault ≡ None
restart_fault f d a h = ap (λ (b : Bool). (if b then record a { state = d; fault = None } else
    a).fault) h

restart_state : (f : Option Failure) (d : Datum) (a : AgentData) → is_some f ≡ true
    → (if is_some f then record a { state = d; fault = None } else a).state ≡ d
restart_state f d a h = ap (λ (b : Bool). (if b then record a { state = d; fault = None } else
    a).state) h

restart_in : (d : Datum) (o : Option AgentData) → is_some (agent_fault_in o) ≡ true
    → (agent_fault_in (option_map (restarted d) o) ≡ None)
    × (option_map (λ (a : AgentData). a.state) (option_map (restarted d) o) ≡ Some d)
restart_in d None h = absurd (let no : ⊥ = cc in no)
restart_in d (Some a) h = (
  restart_fault a.fault d a h,
  ap (λ v. Some v)
      (restart_state a.fault d a h),
)

pub restart_goes_on : (s : AgentsData) (n : ℕ) (d : Datum) → is_failed n s ≡ true
    → (agent_fault_in (slice_get (changed_at n (restarted d) s.agents) n) ≡ None)
    × (option_map (λ (a : AgentData). a.state)
    (slice_get (changed_at n (restarted d) s.agents) n) ≡ Some d)
restart_goes_on s n d h =
    let at = at_changed (restarted d) n s.agents in
    let it = restart_in d (agent_at n s) h in
    (ap agent_fault_in at ∙ it.0, ap (option_map (λ (a : AgentData). a.state)) at ∙ it.1)

-- ---- awaiting

met_by : (b c : Bool) → (if b then Await.Failed else if c then Await.Waits else Await.Met) ≡
    Await.Met
    → (b ≡ false) × (c ≡ false)
met_by true c h = absurd (let no : ⊥ = cc in no)
met_by false true h = absurd (let no : ⊥ = cc in no)
met_by false false h = (refl, refl)

no_either : (b c : Bool) → (b || c) ≡ false → (b ≡ false) × (c ≡ false)
no_either true c h = absurd (let no : ⊥ = cc in no)
no_either false c h = (refl, h)

none_by : (p : ℕ → Bool) (m n : ℕ) (b r : Bool) → (m == n) ≡ b → (b || r) ≡ true → p m ≡ false
    → (r ≡ true → p n ≡ false) → p n ≡ false
none_by p m n true r e h miss rest = ap p (sym (eqb-true m n e)) ∙ miss
none_by p m n false r e h miss rest = rest h

none_passes : (p : ℕ → Bool) (n : ℕ) (ms : List ℕ) → list_any p ms ≡ false
    → list_any (λ m. m == n) ms ≡ true → p n ≡ false
none_passes p n [] h there = absurd (let no : ⊥ = cc in no)
none_passes p n (m ∷ ms) h there =
    let both = no_either (p m) (list_any p ms) h in
    none_by p m n (m == n) (list_any (λ m. m == n) ms) refl there both.0
    (λ rest. none_passes p n ms both.1 rest)

pub met : (s : AgentsData) (numbers : List ℕ) (session : Option ℕ) (n : ℕ)
    → awaited numbers session s ≡ Await.Met → list_any (λ m. m == n) numbers ≡ true
    → (is_failed n s ≡ false) × (is_busy_for session (agent_at n s) ≡ false)
met s numbers session n h there =
    let both = met_by (list_any (λ m. is_failed m s) numbers)
    (list_any (λ m. is_busy_for session (agent_at m s)) numbers) h in (
      none_passes (λ m. is_failed m s) n numbers both.0 there,
      none_passes (λ m. is_busy_for session (agent_at m s)) n numbers both.1 there,
    )

-- ---- numbers

rise_pushed : (sent : ℕ) (x : SentAction) (ys : List SentAction) → x.number ≡ sent
    → RiseBelow sent ys → RiseBelow (sent + 1) (ys ++ x ∷ [])
rise_pushed sent x [] e h = (omega (arith, e), tt)
rise_pushed sent x (y ∷ []) e h = (omega (arith, e, h.0), (omega (arith, e), tt))
rise_pushed sent x (y ∷ (z ∷ zs)) e h = (h.0, rise_pushed sent x (z ∷ zs) e h.1)

rise_more : (sent : ℕ) (ys : List SentAction) → RiseBelow sent ys → RiseBelow (sent + 1) ys
rise_more sent [] h = tt
rise_more sent (y ∷ []) h = (omega (arith, h.0), tt)
rise_more sent (y ∷ (z ∷ zs)) h = (h.0, rise_more sent (z ∷ zs) h.1)

pub rise_sent : (sent : ℕ) (x : SentAction) → x.number ≡ sent → (n m : ℕ) (xs : List AgentData)
    → RiseBelow sent (waiting_at m xs)
    → RiseBelow (sent + 1) (waiting_at m (changed_at n (with_waiting x) xs))
rise_sent sent x e n m [] h = tt
rise_sent sent x e zero zero (a ∷ xs) h = rise_pushed sent x a.waiting e h
rise_sent sent x e zero (suc m) (a ∷ xs) h = rise_more sent (waiting_at m xs) h
rise_sent sent x e (suc n) zero (a ∷ xs) h = rise_more sent a.waiting h
rise_sent sent x e (suc n) (suc m) (a ∷ xs) h = rise_sent sent x e n m xs h

rise_rest : (sent : ℕ) (ys : List SentAction) (a : AgentData) → a.waiting ≡ ys
    → RiseBelow sent ys → RiseBelow sent (begun ys a).waiting
rise_rest sent [] a e h = subst (RiseBelow sent) (sym e) h
rise_rest sent (y ∷ ys) a e h = h.1

rise_begun : (sent n m : ℕ) (xs : List AgentData) → RiseBelow sent (waiting_at m xs)
    → RiseBelow sent (waiting_at m (changed_at n with_begun xs))
rise_begun sent n m [] h = h
rise_begun sent zero zero (a ∷ xs) h = rise_rest sent a.waiting a refl h
rise_begun sent zero (suc m) (a ∷ xs) h = h
rise_begun sent (suc n) zero (a ∷ xs) h = h
rise_begun sent (suc n) (suc m) (a ∷ xs) h = rise_begun sent n m xs h

pub rise_next : (t : Option ActionTurn) (s : AgentsData) (m : ℕ)
    → RiseBelow s.sent (waiting_at m s.agents)
    → RiseBelow (with_turn_taken t s).sent (waiting_at m (with_turn_taken t s).agents)
rise_next None s m h = h
rise_next (Some t) s m h = rise_begun s.sent t.agent m s.agents h
