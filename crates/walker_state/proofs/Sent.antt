-- `send` and `send-off`.
use Rattle.std.proofs.Common.{◌≡◌, ℕ, List, [], ◌∷◌, Result, Ok, Err, sym, ◌∙◌}
use Rattle.std.specs.Prelude.{string_bytes}
use Rattle.value_data.specs.Datum.{Datum}
use Rattle.value_data.specs.declared.value.Value.{Value}
use Rattle.repl_values.specs.Failure.{Failure, wrong_arity}
use Rattle.core_functions.specs.StoreNames.{store_name_of}
use Rattle.repl_asks.specs.Sends.{NamedFunctionData, SendingData}
use Rattle.repl_asks.specs.Exchange.{AskData, permission_in}
use Rattle.repl_asks.specs.InteractionTree.{asks}
use Rattle.value_data.specs.Inside.View.{views}
use Rattle.evaluation_rules.specs.Arguments.{agent_in}
use Rattle.evaluation_rules.specs.Calling.{dispatching}
use Rattle.evaluation_rules.specs.Inside.View.{addressed_view}
use Rattle.evaluation_rules.specs.declared.outcome.Addressed.{Addressed}
use Rattle.evaluation_rules.specs.declared.sending.Dispatch.{Dispatch}
use Rattle.evaluation_rules.specs.Tree.{ends}
use Rattle.evaluation_rules.specs.Agents.{permitted_send, send_ask, send_call}
use Rattle.walker_state.specs.Pending.{from_state, kept_of, next_of}
use Rattle.walker_state.specs.UnderWay.{is_running}
use Rattle.walker_state.specs.declared.frames.State.{State}
use Rattle.walker_state.proofs.Stepping.{fails-at}
use Rattle.walker_state.proofs.Swapping.{asked-at}

pub send_call-empty : (by : Dispatch) (f : NamedFunctionData) (vs : List Value) (told : Failure) (s : State) → vs ≡ []
    → told ≡ wrong_arity (store_name_of (dispatching by)) 1
    → ends (Err told) (string_bytes s.text) (kept_of s) ≡ from_state (send_call by f (views vs)) s
unfolding send_call
send_call-empty by f vs told s none is =
    rw (none, is) (sym (fails-at (wrong_arity (store_name_of (dispatching by)) 1) s))

pub send_call-refused : (by : Dispatch) (f : NamedFunctionData) (d : Datum) (ds : List Datum) (vs : List Value) (told : Failure) (s : State)
    → views vs ≡ d ∷ ds → agent_in (dispatching by) d ≡ Err told
    → ends (Err told) (string_bytes s.text) (kept_of s) ≡ from_state (send_call by f (views vs)) s
unfolding send_call
send_call-refused by f d ds vs told s given refused = rw (given, refused) (sym (fails-at told s))

-- it is asked whether this may be sent
pub send_call-asks : (by : Dispatch) (f : NamedFunctionData) (d : Datum) (ds : List Datum) (n : ℕ) (ask : AskData) (x y : SendingData)
    (vs : List Value) (s : State)
    → views vs ≡ d ∷ ds → agent_in (dispatching by) d ≡ Ok n
    → x ≡ record { agent = n; task = record { function = f; arguments = ds } } → y ≡ x
    → ask ≡ send_ask (is_running s.transaction) s.setting.occasion x
    → asks ask (λ answer. from_state (permitted_send y (permission_in answer)) s)
    ≡ from_state (send_call by f (views vs)) s
unfolding send_call
send_call-asks by f d ds n ask x y vs s given is sends same asked =
    rw (asked, same, sends, given, is) (asked-at s
    (send_ask (is_running s.transaction) s.setting.occasion
    (record { agent = n; task = record { function = f; arguments = ds } }))
    (λ answer. permitted_send (record { agent = n; task = record { function = f; arguments = ds } })
    (permission_in answer) (next_of s) (kept_of s)))

-- the agent to which something is sent, or why there is none
pub addressed-told : (a : Addressed) (r : Result ℕ Failure) (by : Dispatch) (d : Datum)
    → addressed_view a ≡ agent_in (dispatching by) d → addressed_view a ≡ r → agent_in (dispatching by) d ≡ r
addressed-told a r by d told is = sym told ∙ is
