-- What becomes of a request in hand where a form of it ended (the nREPL manual, "Supported nREPL
-- operations", `eval` and `load-file`).
use Rattle.std.specs.Prelude.{List, [], ◌∷◌, ◌++◌, Option, None, Some, Result, Ok, Err}
use Rattle.value_data.specs.Datum.{Datum, Items, no_items, item}
use Rattle.repl_values.specs.Failure.{Failure}
use Rattle.repl_asks.specs.Job.{EndData}
use Rattle.repl_sessions.specs.State.{StateData, after_value, after_fault, in_namespace}
use Rattle.repl_replies.specs.Replies.{OriginData, done, ReplyData}
use Rattle.server_rules.specs.Request.{Manner, each_form, each_form_elsewhere, last_form, of_action}
use Rattle.server_rules.specs.Request.{WorkInHand}
use Rattle.server_rules.specs.Replying.{reply, fault_replies, output_replies, value_reply}

pub record Move : Type 0 where
  -- what of the request is still to do; none where it is done
  pub hand : Option WorkInHand
  pub replies : List ReplyData
  -- what the session then remembers
  pub state : StateData

abbrev pub over_move : List ReplyData → StateData → Move
over_move replies state = record { hand = None; replies = replies; state = state }

abbrev pub in_hand : WorkInHand → StateData → Move
in_hand h state = record { hand = Some h; replies = []; state = state }

abbrev pub preceded_by : List ReplyData → Move → Move
preceded_by replies m = record m { replies = replies ++ m.replies }

abbrev pub fault_noted : Failure → StateData → StateData
fault_noted f state = after_fault f.class f.text state

-- a fault is answered, and the request is done
abbrev pub over_by : OriginData → Failure → StateData → Move
over_by origin f state = over_move (fault_replies origin f ++ reply origin done ∷ [])
    (fault_noted f state)

-- behind the last form: the fault of the text, if it has one, and last that the request is done
abbrev pub closing_move : OriginData → Manner → Option Failure → StateData → Move
closing_move origin manner (Some f) state = over_by origin f state
closing_move origin (last_form d) None state =
    over_move (value_reply origin state.namespace d ∷ reply origin done ∷ []) (after_value d state)
closing_move origin _ None state = over_move (reply origin done ∷ []) state

-- behind a form that ended: the request waits for its next form, or is done
abbrev pub going_on : WorkInHand → Items → StateData → Move
going_on h no_items state = closing_move h.origin h.manner h.fault state
going_on h (item d ds) state = in_hand (record h { running = None; forms = item d ds }) state

abbrev pub result_replies : OriginData → EndData → Result Datum Failure → List ReplyData
result_replies origin e (Ok d) = value_reply origin e.namespace d ∷ []
result_replies origin e (Err f) = fault_replies origin f

abbrev pub result_noted : Result Datum Failure → StateData → StateData
result_noted (Ok d) state = after_value d state
result_noted (Err f) state = fault_noted f state

-- first what the form printed, and then its value or its fault
abbrev pub end_replies : OriginData → EndData → List ReplyData
end_replies origin e = output_replies origin e.text ++ result_replies origin e e.result

-- of a file only the last value is told, and its first fault ends it
abbrev pub form_loaded : WorkInHand → EndData → Result Datum Failure → StateData → Move
form_loaded h e (Ok d) state = preceded_by (output_replies h.origin e.text)
    (going_on (record h { manner = last_form d; namespace = e.namespace }) h.forms state)
form_loaded h e (Err f) state =
    preceded_by (output_replies h.origin e.text) (over_by h.origin f state)

abbrev pub form_ended_as : WorkInHand → EndData → StateData → Manner → Move
form_ended_as h e state each_form = preceded_by (end_replies h.origin e)
    (going_on (record h { namespace = e.namespace }) h.forms
    (in_namespace e.namespace (result_noted e.result state)))
form_ended_as h e state each_form_elsewhere = preceded_by (end_replies h.origin e)
    (going_on (record h { namespace = e.namespace }) h.forms (result_noted e.result state))
form_ended_as h e state (last_form d) = form_loaded h e e.result state
form_ended_as h e state (of_action session) = over_move (output_replies h.origin e.text) state

unfoldable pub form_ended : WorkInHand → EndData → StateData → Move
form_ended h e state = form_ended_as h e state h.manner
