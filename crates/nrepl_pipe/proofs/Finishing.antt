-- What the asks and the end of an actor's form come to.
use Rattle.std.proofs.Common.{◌≡◌, ℕ, Bool, true, false, ◌&&◌, if◌then◌else◌, Option, None, Some}
use Rattle.std.proofs.Common.{refl}
use Rattle.repl_asks.specs.Exchange.{AskData, AnswerData}
use Rattle.server_rules.specs.Ground.{Ground}
use Rattle.server_rules.specs.Request.{WorkInHand, Run}
use Rattle.server_rules.specs.Tenant.{ActorData, seat_of, TenantState, is_held, actor_state}
use Rattle.ref_table.specs.Calls.{gives_up}
use Rattle.server_rules.specs.Plan.{Outcome, refuses, leaves, form_finished, Plan}
use Rattle.repl_asks.specs.Job.{EndingData}
use Rattle.server_rules.specs.Plan.{quietly, with_step_spent}
use Rattle.server_rules.specs.Moves.{Move, form_ended}
use Rattle.server_rules.specs.Starting.{interrupted_in, after_move}
use Rattle.server_rules.specs.Asking.{may_ask, is_allowed, session_number, ask_outcome, answer_outcome}
use Rattle.server_rules.specs.Asking.{asked_allowed, asked_running, asked_of, call_of, when_told}
use Rattle.server_rules.specs.Cells.{must_wait}
use Rattle.server_rules.specs.Ending.{with_cells_ended, with_left_attempt, end_compared, end_checked, end_running}
use Rattle.server_rules.specs.Ending.{end_of}
use Rattle.server_rules.specs.declared.actor.Actor.{Actor}
use Rattle.server_rules.specs.declared.refusal.Refusal.{Refusal}
use Rattle.nrepl_pipe.proofs.Starting.{GoesSo, PlansSo, with-stays, without-stays}

-- Asking

told-so : (a : Actor) (q : TenantState) (told : Option AnswerData) (next : AnswerData → Outcome)
    → ((answer : AnswerData) → GoesSo a q (next answer)) → GoesSo a q (when_told told next)
told-so a q None next so = λ e. cc
told-so a q (Some answer) next so = so answer

allowed-so : (g : Ground) (a : Actor) (actor : ActorData) (h : WorkInHand) (run : Run) (ask : AskData)
    (q : TenantState) → PlansSo a q (asked_allowed g a actor h run ask q)
allowed-so g a actor h run ask q told = by actor.is_closed where
  waits-so : (o : Outcome) (waits : Bool) → GoesSo a q o
      → GoesSo a q (if waits then refuses Refusal.Waiting else o)
  waits-so o true so = λ e. cc
  waits-so o false so = so

  by : (closed : Bool) → GoesSo a q (let p : Plan = (if closed
      then record {
        call = gives_up (seat_of a) (call_of (seat_of a) ask);
        next = λ told. when_told told (λ _. interrupted_in a h q);
      }
      else record {
        call = call_of (seat_of a) ask;
        next = λ told. when_told told (answer_outcome g a actor h run ask q);
      }) in p.next told)
  by true = told-so a q told (λ _. interrupted_in a h q) (λ _. (refl, refl, refl, without-stays a q))
  by false = told-so a q told (answer_outcome g a actor h run ask q)
      (λ answer. waits-so (ask_outcome g a actor h run ask q answer)
      (must_wait (session_number a) ask q.cells) (refl, refl, refl, with-stays a _ q))

asking-so : (g : Ground) (a : Actor) (actor : ActorData) (h : WorkInHand) (ask : AskData) (q : TenantState)
    (run : Option Run) → PlansSo a q (asked_running g a actor h ask q run)
asking-so g a actor h ask q None told = λ e. cc
asking-so g a actor h ask q (Some run) told = by (may_ask a ask && is_allowed ask q.cells) where
  by : (allowed : Bool) → GoesSo a q (let p : Plan = (if allowed
      then asked_allowed g a actor h run ask q
      else quietly (refuses Refusal.Idle)) in p.next told)
  by true = allowed-so g a actor h run ask q told
  by false = λ e. cc

pub asked-so : (g : Ground) (a : Actor) (actor : ActorData) (ask : AskData) (q : TenantState)
    (h : Option WorkInHand) → PlansSo a q (asked_of g a actor ask q h)
asked-so g a actor ask q None told = λ e. cc
asked-so g a actor ask q (Some h) told = asking-so g a actor h ask q h.running told

-- Ending

accepted-so : (a : Actor) (actor : ActorData) (m : Move) (q : TenantState) (told : Option AnswerData)
    → GoesSo a q ((with_left_attempt a (leaves (with_step_spent (after_move a actor m q)) form_finished)).next told)
accepted-so Actor.Agents actor m q told =
    (refl, refl, refl, with-stays Actor.Agents (record actor { hand = m.hand }) q)
accepted-so Actor.Bare actor m q told =
    (refl, refl, refl, with-stays Actor.Bare (record actor { hand = m.hand }) q)
accepted-so (Actor.Session n) actor m q told =
    (refl, refl, refl, with-stays (Actor.Session n) (record actor { hand = m.hand }) q)

compared-so : (a : Actor) (actor : ActorData) (h : WorkInHand) (run : Run) (e : EndingData) (q : TenantState)
    (same : Bool) (difference : Option ℕ)
    → PlansSo a q (end_compared a actor h run e q same difference)
compared-so a actor h run e q false difference told = λ e. cc
compared-so a actor h run e q true (Some place) told = λ e. cc
compared-so a actor h run e q true None told =
    accepted-so a actor (form_ended h e.end (actor_state a q)) (with_cells_ended a h run e q) told

held_end-so : (a : Actor) (q : TenantState) (p : Plan) (held : Bool) → is_held q ≡ held → PlansSo a q p
    → PlansSo a q (if held then quietly (refuses Refusal.Held) else p)
held_end-so a q p true is so told = λ _. is
held_end-so a q p false is so told = so told

ending-so : (g : Ground) (a : Actor) (actor : ActorData) (h : WorkInHand) (e : EndingData) (q : TenantState)
    (run : Option Run) → PlansSo a q (end_running g a actor h e q run)
ending-so g a actor h e q None told = λ e. cc
ending-so g a actor h e q (Some run) told = by actor.is_closed where
  by : (closed : Bool) → GoesSo a q (let p : Plan = (if closed
      then with_left_attempt a (interrupted_in a h q)
      else if is_held q then quietly (refuses Refusal.Held)
      else end_checked g a actor h run e q) in p.next told)
  by true = (refl, refl, refl, without-stays a q)
  by false = held_end-so a q (end_checked g a actor h run e q) (is_held q) refl
      (compared-so a actor h run e q
      (g.comparisons.is_same_job e.job run.job) (g.comparisons.difference e.trace run.trace)) told

pub ended-so : (g : Ground) (a : Actor) (actor : ActorData) (e : EndingData) (q : TenantState)
    (h : Option WorkInHand) → PlansSo a q (end_of g a actor e q h)
ended-so g a actor e q None told = λ e. cc
ended-so g a actor e q (Some h) told = ending-so g a actor h e q h.running told
