-- The data that asks, answers and a trace stand for.
use Rattle.std.specs.Prelude.{List, map}
use Rattle.std.specs.Arc.{arc_str_bytes, arc_value}
use Rattle.value_data.specs.Inside.View.{owner_view, view, views}
use Rattle.value_data.specs.declared.value.RefName.{RefName}
use Rattle.repl_values.specs.Inside.FaultView.{failure_of}
use Rattle.special_forms.specs.Inside.Seen.{function_view}
use Rattle.repl_asks.specs.Transactions.{RefNameData, ChangeData, CommuteData, CommutedData}
use Rattle.repl_asks.specs.Transactions.{IntentData}
use Rattle.repl_asks.specs.Exchange.{BindingData, bound_value, bound_function, AskData, resolve}
use Rattle.repl_asks.specs.Exchange.{define, enter, new_ref, begin, read, history, min_history}
use Rattle.repl_asks.specs.Exchange.{max_history, commit, new_atom, read_atom, set_atom, try_atom}
use Rattle.repl_asks.specs.Exchange.{new_agent, read_agent, agent_fault, restart_agent, send}
use Rattle.repl_asks.specs.Exchange.{may_send, await}
use Rattle.repl_asks.specs.Sends.{NamedFunctionData, core_function, store_function}
use Rattle.repl_asks.specs.Sends.{program_function, TaskData, SendingData}
use Rattle.repl_asks.specs.Exchange.{ResolutionData, names_value}
use Rattle.repl_asks.specs.Exchange.{names_function, names_nothing, ReadingData, found, retry}
use Rattle.repl_asks.specs.Exchange.{VerdictData, committed, conflict, faulted, PermissionData}
use Rattle.repl_asks.specs.Exchange.{granted, denied, AnswerData, resolution, done, value, reading}
use Rattle.repl_asks.specs.Exchange.{verdict, permission, Exchanged}
use Rattle.repl_asks.specs.declared.intent.Change.{Change}
use Rattle.repl_asks.specs.declared.intent.Commute.{Commute}
use Rattle.repl_asks.specs.declared.intent.Commuted.{Commuted}
use Rattle.repl_asks.specs.declared.intent.Intent.{Intent}
use Rattle.repl_asks.specs.declared.sends.Task.{Task}
use Rattle.repl_asks.specs.declared.sends.Sending.{Sending}
use Rattle.repl_asks.specs.declared.answer.Reading.{Reading}
use Rattle.repl_asks.specs.declared.answer.Verdict.{Verdict}
use Rattle.repl_asks.specs.declared.answer.Permission.{Permission}
use Rattle.repl_asks.specs.declared.ask.Ask.{Ask}
use Rattle.repl_asks.specs.declared.ask.Binding.{Binding}
use Rattle.repl_asks.specs.declared.answer.NamedFunction.{NamedFunction}
use Rattle.repl_asks.specs.declared.answer.Resolution.{Resolution}
use Rattle.repl_asks.specs.declared.answer.Answer.{Answer}
use Rattle.repl_asks.specs.declared.exchange.Exchange.{Exchange}

abbrev pub binding_view : Binding → BindingData
binding_view (Binding.Value v) = bound_value (view v)
binding_view (Binding.Function f) = bound_function (function_view (arc_value f))

abbrev pub name_view : RefName → RefNameData
name_view r = record { owner = owner_view r.owner; number = r.number }

abbrev pub named_view : NamedFunction → NamedFunctionData
named_view (NamedFunction.Core f) = core_function f
named_view (NamedFunction.Store f) = store_function f
named_view (NamedFunction.Program f) = program_function (function_view (arc_value f))

abbrev pub task_view : Task → TaskData
task_view t = record { function = named_view t.function; arguments = views t.arguments.items }

abbrev pub sending_view : Sending → SendingData
sending_view s = record { agent = s.agent; task = task_view (arc_value s.task) }

abbrev pub change_view : Change → ChangeData
change_view c = record { name = name_view c.name; now = view c.now }

abbrev pub commute_view : Commute → CommuteData
commute_view c = record { function = c.function; arguments = views c.arguments.items }

abbrev pub commuted_view : Commuted → CommutedData
commuted_view c = record { name = name_view c.name; commutes = map commute_view c.commutes.items }

abbrev pub intent_view : Intent → IntentData
intent_view i = record {
  sets = map change_view i.sets.items;
  ensured = map name_view i.ensured.items;
  commuted = map commuted_view i.commuted.items;
  sends = map sending_view i.sends.items;
}

abbrev pub ask_view : Ask → AskData
ask_view (Ask.Resolve namespace symbol) = resolve (arc_str_bytes namespace) (arc_str_bytes symbol)
ask_view (Ask.Define namespace name b) =
    define (arc_str_bytes namespace) (arc_str_bytes name) (binding_view b)
ask_view (Ask.Enter name) = enter (arc_str_bytes name)
ask_view (Ask.NewRef v least most) = new_ref (view v) least most
ask_view Ask.Begin = begin
ask_view (Ask.Read name) = read (name_view name)
ask_view (Ask.History name) = history (name_view name)
ask_view (Ask.MinHistory name set) = min_history (name_view name) set
ask_view (Ask.MaxHistory name set) = max_history (name_view name) set
ask_view (Ask.Commit intent) = commit (intent_view (arc_value intent))
ask_view (Ask.NewAtom v) = new_atom (view v)
ask_view (Ask.ReadAtom n) = read_atom n
ask_view (Ask.SetAtom n v) = set_atom n (view v)
ask_view (Ask.TryAtom n seen next) = try_atom n (view seen) (view next)
ask_view (Ask.NewAgent v) = new_agent (view v)
ask_view (Ask.ReadAgent n) = read_agent n
ask_view (Ask.AgentFault n) = agent_fault n
ask_view (Ask.RestartAgent n v) = restart_agent n (view v)
ask_view (Ask.Send s) = send (sending_view s)
ask_view (Ask.MaySend s) = may_send (sending_view s)
ask_view (Ask.Await ns) = await (arc_value ns).items

abbrev pub resolution_view : Resolution → ResolutionData
resolution_view (Resolution.Value v) = names_value (view v)
resolution_view (Resolution.Function f) = names_function (named_view f)
resolution_view (Resolution.Nothing f) = names_nothing (failure_of f)

abbrev pub reading_view : Reading → ReadingData
reading_view (Reading.Found v) = found (view v)
reading_view Reading.Retry = retry

abbrev pub verdict_view : Verdict → VerdictData
verdict_view Verdict.Committed = committed
verdict_view Verdict.Conflict = conflict
verdict_view (Verdict.Faulted f) = faulted (failure_of f)

abbrev pub permission_view : Permission → PermissionData
permission_view Permission.Granted = granted
permission_view (Permission.Denied f) = denied (failure_of f)

abbrev pub answer_view : Answer → AnswerData
answer_view (Answer.Resolution r) = resolution (resolution_view r)
answer_view Answer.Done = done
answer_view (Answer.Value v) = value (view v)
answer_view (Answer.Reading r) = reading (reading_view r)
answer_view (Answer.Verdict v) = verdict (verdict_view v)
answer_view (Answer.Permission p) = permission (permission_view p)

abbrev pub exchange_view : Exchange → Exchanged
exchange_view e = record { ask = ask_view e.ask; answer = answer_view e.answer }

abbrev pub trace_view : List Exchange → List Exchanged
trace_view = map exchange_view
