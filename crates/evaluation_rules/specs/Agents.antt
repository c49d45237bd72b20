-- Sending to agents (the Clojure reference, Agents and Asynchronous Actions).
use Rattle.std.specs.Prelude.{List, [], ◌∷◌, Bool, true, false, Result, Ok, Err, ℕ}
use Rattle.value_data.specs.Datum.{Datum, agent}
use Rattle.repl_values.specs.Failure as failures
use Rattle.repl_values.specs.Failure.{Failure}
use Rattle.core_functions.specs.StoreNames.{store_name_of}
use Rattle.repl_asks.specs.Sends.{NamedFunctionData, SendingData}
use Rattle.repl_asks.specs.Exchange.{AskData, send, may_send, PermissionData, granted, denied}
use Rattle.repl_asks.specs.Exchange.{permission_in}
use Rattle.repl_asks.specs.Accesses.{sent}
use Rattle.evaluation_rules.specs.Arguments.{agent_in}
use Rattle.evaluation_rules.specs.Calling.{dispatching}
use Rattle.evaluation_rules.specs.declared.sending.Dispatch.{Dispatch}
use Rattle.evaluation_rules.specs.declared.occasion.Occasion.{Occasion}
use Rattle.evaluation_rules.specs.Doing.{failed, left, asking, noting, Part, fails}

-- In a transaction what is sent is held until the commit, and in an action until its end.
abbrev pub send_ask : Bool → Occasion → SendingData → AskData
send_ask true occasion s = may_send s
send_ask false Occasion.Action s = may_send s
send_ask false occasion s = send s

-- the value is the agent; an attempt notes what it sends
abbrev pub permitted_send : SendingData → PermissionData → Part Datum
permitted_send s granted next kept = noting (sent s) (next (agent s.agent) kept)
permitted_send s (denied f) next kept = left (failed f) kept

abbrev pub sent_value : SendingData → Part Datum
sent_value s next kept = asking (send_ask kept.running kept.occasion s)
    (λ answer. permitted_send s (permission_in answer) next kept)

abbrev pub sent_to : NamedFunctionData → List Datum → Result ℕ Failure → Part Datum
sent_to f args (Ok n) =
    sent_value (record { agent = n; task = record { function = f; arguments = args } })
sent_to f args (Err refused) = fails refused

-- the call of `send` or `send-off`, whose function is called in an action
unfoldable pub send_call : Dispatch → NamedFunctionData → List Datum → Part Datum
send_call by f [] = fails (failures.wrong_arity (store_name_of (dispatching by)) 1)
send_call by f (d ∷ args) = sent_to f args (agent_in (dispatching by) d)
