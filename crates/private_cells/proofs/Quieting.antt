-- What runs, and what waits, while actions begin and end.
use Rattle.std.proofs.Common.{◌≡◌, ℕ, ◌+◌, ◌==◌, List, [], ◌∷◌, refl, ap}
use Rattle.std.proofs.Common.{◌∙◌, Option, Some, None, arith, cond, Bool, true, false}
use Rattle.std.proofs.Common.{if◌then◌else◌, nat_lt}
use Rattle.std.specs.Prelude.{slice_get, is_some, ◌||◌}
use Rattle.std.specs.List.{list_any}
use Rattle.std.proofs.lemmas.Bool.{eq-eqb, lt-ltb}
use Rattle.value_data.specs.Datum.{Datum}
use Rattle.repl_values.specs.Failure.{Failure}
use Rattle.private_cells.specs.Actions.{is_of}
use Rattle.private_cells.specs.Agents.{AgentData, AgentsData, SentAction, ActionTurn, next_turn}
use Rattle.private_cells.specs.Agents.{earliest, restarted}
use Rattle.private_cells.specs.Inside.Turns.{open_by, open_turn_of, open_at}
use Rattle.private_cells.specs.Inside.Kept.{waiting_in, waiting_at, count_from, runs_at, is_place}
use Rattle.private_cells.specs.Inside.Kept.{RunsAlone}
use Rattle.private_cells.proofs.Next.{some_running}

-- where the number is none, no agent runs an action
pub none_alone : (r : Option ℕ) (xs : List AgentData) → RunsAlone r xs → r ≡ None
    → (j : ℕ) → runs_at j xs ≡ false
none_alone r xs k e = λ j. k j ∙ ap (λ o. is_place o j) e

pub quiet : (r : Option ℕ) (xs : List AgentData) → RunsAlone r xs → is_some r ≡ false
    → (j : ℕ) → runs_at j xs ≡ false
quiet None xs k e = k
quiet (Some n) xs k e = absurd (let no : ⊥ = cc in no)

-- where there is one, that agent alone runs one
pub one_alone : (r : Option ℕ) (n : ℕ) (xs : List AgentData) → RunsAlone r xs → r ≡ Some n
    → (j : ℕ) → runs_at j xs ≡ (n == j)
one_alone r n xs k e = λ j. k j ∙ ap (λ o. is_place o j) e

pub next_while_running : (r : Option ℕ) (s : AgentsData) → RunsAlone r s.agents
    → is_some r ≡ true → next_turn s ≡ None
next_while_running None s k e = absurd (let no : ⊥ = cc in no)
next_while_running (Some n) s k e =
    ap (λ b. if b then None else earliest 0 s.agents)
    (some_running n s.agents (k n ∙ eq-eqb n n refl))

-- something waits
pub record FirstWaits (xs : List SentAction) : Type 0 where
  pub first : SentAction
  pub rest : List SentAction
  pub is : xs ≡ first ∷ rest

waits_by : (p : ℕ) (r : Option SentAction) (f : Option Failure) (xs : List SentAction)
    (t : ActionTurn)
    → open_by p r f xs ≡ Some t → FirstWaits xs
waits_by p (Some r) f xs t h = absurd (let no : ⊥ = cc in no)
waits_by p None (Some f) xs t h = absurd (let no : ⊥ = cc in no)
waits_by p None None [] t h = absurd (let no : ⊥ = cc in no)
waits_by p None None (x ∷ xs) t h = record { first = x; rest = xs; is = refl }

waits_in : (p : ℕ) (o : Option AgentData) (t : ActionTurn) → open_turn_of p o ≡ Some t
    → FirstWaits (waiting_in o)
waits_in p None t h = absurd (let no : ⊥ = cc in no)
waits_in p (Some a) t h = waits_by p a.running a.fault a.waiting t h

-- for the agent whose turn it is
pub open_waits : (n : ℕ) (xs : List AgentData) (t : ActionTurn) → open_at n xs ≡ Some t
    → FirstWaits (waiting_at n xs)
open_waits n xs t h = waits_in n (slice_get xs n) t h

-- a restart leaves what waits and what runs
restart_waiting : (b : Bool) (d : Datum) (a : AgentData)
    → (if b then record a { state = d; fault = None } else a).waiting ≡ a.waiting
restart_waiting true d a = refl
restart_waiting false d a = refl

pub restarted_waiting : (d : Datum) (a : AgentData) → (restarted d a).waiting ≡ a.waiting
restarted_waiting d a = restart_waiting (is_some a.fault) d a

restart_running : (b : Bool) (d : Datum) (a : AgentData)
    → (if b then record a { state = d; fault = None } else a).running ≡ a.running
restart_running true d a = refl
restart_running false d a = refl

pub restarted_running : (d : Datum) (a : AgentData) → (restarted d a).running ≡ a.running
restarted_running d a = restart_running (is_some a.fault) d a

more_than_none : (n : ℕ) → nat_lt 0 (1 + n) ≡ true
more_than_none n = lt-ltb 0 (1 + n) (omega arith)

any_by : (b : Bool) (n : ℕ) (c : Bool) → nat_lt 0 n ≡ c
    → nat_lt 0 (cond b 1 0 + n) ≡ (b || c)
any_by true n c h = more_than_none n
any_by false n c h = ap (nat_lt 0) (let e : 0 + n ≡ n = omega arith in e) ∙ h

-- a session has an action that waits where it is counted
pub any_counted : (s : Option ℕ) (xs : List SentAction)
    → nat_lt 0 (count_from s xs) ≡ list_any (λ x. is_of s x.action) xs
any_counted s [] = refl
any_counted s (x ∷ xs) = any_by (is_of s x.action) (count_from s xs) _ (any_counted s xs)
