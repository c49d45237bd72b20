-- What a form asks, and what becomes of its answer.
use Rattle.std.specs.Prelude.{◌≡◌, ℕ, Bool, true, false, Some, [], ◌∷◌, ◌++◌, option_map}
use Rattle.std.specs.Prelude.{if◌then◌else◌}
use Rattle.repl_asks.specs.Exchange as exchange
use Rattle.repl_asks.specs.Exchange.{AskData, AnswerData, Exchanged}
use Rattle.ref_table.specs.Performed.{Performed}
use Rattle.ref_table.specs.Store.{Store}
use Rattle.server_rules.specs.Cells.{SenderData}
use Rattle.server_rules.specs.Ground.{Ground}
use Rattle.server_rules.specs.Request.{WorkInHand, Run}
use Rattle.server_rules.specs.Tenant.{ActorData, TenantState, seat_of}
use Rattle.server_rules.specs.Asking.{answer_to, state_after, ask_outcome, call_of, when_told}
use Rattle.server_rules.specs.Plan.{Plan}
use Rattle.server_rules.specs.declared.actor.Actor.{Actor}
use Rattle.server_rules.specs.declared.refusal.Refusal.{Refusal}
use Rattle.ref_table.specs.Refs.{TableRefs, refs_after}
use Rattle.tenant_asks.specs.Memories.{Remembers}
use Rattle.tenant_parts.specs.Serving.{RingRefTable, ServesWithAttempts}
use Rattle.tenant_parts.specs.declared.attempts.Attempts.{Attempts}
use Rattle.tenant_asks.specs.declared.memory.Remembered.{Remembered}

-- the ask is one of names
abbrev pub is_of_names : AskData → Bool
is_of_names (exchange.resolve namespace symbol) = true
is_of_names (exchange.define namespace name binding) = true
is_of_names (exchange.enter name) = true
is_of_names _ = false

-- the ask is one of atoms or agents
abbrev pub is_of_cells : AskData → Bool
is_of_cells (exchange.new_atom d) = true
is_of_cells (exchange.read_atom n) = true
is_of_cells (exchange.set_atom n d) = true
is_of_cells (exchange.try_atom n seen next) = true
is_of_cells (exchange.new_agent d) = true
is_of_cells (exchange.read_agent n) = true
is_of_cells (exchange.agent_fault n) = true
is_of_cells (exchange.restart_agent n d) = true
is_of_cells (exchange.send s) = true
is_of_cells (exchange.may_send s) = true
is_of_cells (exchange.await ns) = true
is_of_cells _ = false

-- the plan of an ask that breaks no rule of its own and has not to wait, of a session that is open
abbrev pub answered_plan : Ground → Actor → ActorData → WorkInHand → Run → AskData → TenantState → Plan
answered_plan g a actor h run ask q = record {
  call = call_of (seat_of a) ask;
  next = λ told. when_told told (ask_outcome g a actor h run ask q);
}

-- why an await is refused that is not met: it may stand where it does, or not
abbrev pub why_waiting : Bool → Refusal
why_waiting told = if told then Refusal.Waiting else Refusal.Idle

-- the refs told something, of which this answer is made, and all is as the rules leave it
pub record Answers (g : Ground) (t : ℕ) (a : Actor) (sender : SenderData) (q : TenantState) (ask : AskData)
    (p : Performed Store) (m : Remembered) (table : RingRefTable) (attempts : Attempts) (r : TableRefs)
    (answer : AnswerData) : Type 0 where
  pub told : AnswerData
  pub is_told : p.told ≡ Some told
  pub is : answer ≡ answer_to g a q ask told
  pub remembers : Remembers g t m (state_after sender ask answer q)
  pub holds : ServesWithAttempts table attempts p.store (refs_after p.store r)

abbrev pub exchange_from : AskData → AnswerData → Exchanged
exchange_from ask answer = record { ask = ask; answer = answer }

abbrev pub run_with : Exchanged → Run → Run
run_with x run = record run { trace = run.trace ++ x ∷ [] }

abbrev pub hand_with : Exchanged → WorkInHand → WorkInHand
hand_with x h = record h { running = option_map (run_with x) h.running }

-- an ask with its answer more in the trace of the form that runs
abbrev pub with_exchange : Exchanged → ActorData → ActorData
with_exchange x actor = record actor { hand = option_map (hand_with x) actor.hand }
