-- What an actor of the code, and its requests, are seen as.
use Rattle.std.specs.Prelude.{List, map, option_map, string_bytes, Box}
use Rattle.std.specs.Arc.{arc_value, arc_str_bytes}
use Rattle.std.specs.Global.{Global}
use Rattle.value_data.specs.Inside.View.{view, items_view}
use Rattle.repl_values.specs.Inside.FaultView.{failure_of}
use Rattle.repl_asks.specs.Exchange.{Exchanged}
use Rattle.repl_asks.specs.Inside.View.{exchange_view}
use Rattle.repl_asks.specs.Inside.Jobs.{job_view}
use Rattle.repl_asks.specs.declared.exchange.Exchange.{Exchange}
use Rattle.repl_replies.specs.Inside.View.{field_view, origin_view}
use Rattle.ref_table.specs.Numbered.{Entry, entry}
use Rattle.server_rules.specs.Request as rules
use Rattle.server_rules.specs.Tenant.{ActorData, seat_of}
use Rattle.server_rules.specs.declared.actor.Actor.{Actor}
use Rattle.tenant_parts.specs.declared.request.ProgramText.{ProgramText}
use Rattle.tenant_parts.specs.declared.request.Waiting.{Waiting}
use Rattle.tenant_parts.specs.declared.request.Manner.{Manner}
use Rattle.tenant_parts.specs.declared.request.Run.{Run}
use Rattle.tenant_parts.specs.declared.request.WorkInHand.{WorkInHand}
use Rattle.tenant_parts.specs.declared.actor.ActorState.{ActorState}

abbrev pub text_view : ProgramText → rules.ProgramText
text_view (ProgramText.Code text ns) = rules.code (string_bytes text) (field_view ns)
text_view (ProgramText.File text) = rules.file (string_bytes text)

abbrev pub waiting_view : Waiting → rules.Waiting
waiting_view w = record { origin = origin_view (arc_value w.origin); text = text_view w.text }

abbrev pub manner_view : Manner → rules.Manner
manner_view Manner.EachForm = rules.each_form
manner_view Manner.EachFormElsewhere = rules.each_form_elsewhere
manner_view (Manner.LastForm v) = rules.last_form (view v)
manner_view (Manner.OfAction session) = rules.of_action session

abbrev pub kept_trace : List (Box Exchange Global) → List Exchanged
kept_trace = map (λ kept. exchange_view kept.value)

abbrev pub run_view : Run → rules.Run
run_view r = record { job = job_view r.job; trace = kept_trace r.trace.items }

abbrev pub hand_view : WorkInHand → rules.WorkInHand
hand_view h = record {
  origin = origin_view (arc_value h.origin);
  manner = manner_view h.manner;
  namespace = arc_str_bytes h.namespace;
  running = option_map run_view h.running;
  forms = items_view h.forms.items;
  fault = option_map failure_of h.fault;
}

abbrev pub actor_view : ActorState → ActorData
actor_view a = record {
  waiting = map waiting_view a.waiting.items;
  hand = option_map hand_view a.hand;
  is_closed = a.is_closed;
}

abbrev pub actor_entry_view : Actor × ActorState → Entry ActorData
actor_entry_view e = entry (seat_of e.0) (actor_view e.1)
