-- What a call of a function that asks the store comes to, before anybody is asked (the Clojure
-- reference, Refs and Transactions, Atoms, and Agents). The number of arguments is looked at first,
-- then the kinds of all of them, from the left; then whether a transaction runs; then what is
-- forbidden for a ref that all tenants share. Of atoms and agents a call asks the same within
-- transactions and outside, but that nothing is awaited there.
use Rattle.std.specs.Prelude.{ℕ, List, [], ◌∷◌, Bool, ◌||◌, not, Some, None, Result, Ok, Err}
use Rattle.std.specs.Prelude.{if◌then◌else◌, length}
use Rattle.value_data.specs.Datum.{Datum, nil, atom, agent}
use Rattle.value_data.specs.Measures.{is_plain}
use Rattle.repl_values.specs.Failure.{Failure, ◌>>=◌, wrong_argument, wrong_arity, broken_rule}
use Rattle.repl_values.specs.declared.rule.Rule.{Rule}
use Rattle.core_functions.specs.StoreNames.{store_name_of, store_fits}
use Rattle.core_functions.specs.declared.store.StoreFunction.{StoreFunction}
use Rattle.repl_asks.specs.Transactions.{RefNameData, may_hold}
use Rattle.repl_asks.specs.Exchange.{AskData, new_ref, history, new_atom, read_atom, set_atom}
use Rattle.repl_asks.specs.Exchange.{try_atom, new_agent, read_agent, agent_fault, restart_agent}
use Rattle.repl_asks.specs.Exchange.{await}
use Rattle.evaluation_rules.specs.declared.altering.Alteration.{Alteration}
use Rattle.evaluation_rules.specs.declared.bounds.HistoryBound.{HistoryBound}
use Rattle.evaluation_rules.specs.declared.sending.Dispatch.{Dispatch}
use Rattle.evaluation_rules.specs.declared.updating.Update.{Update}
use Rattle.evaluation_rules.specs.Arguments.{ref_in, atom_in, agent_in, count_in, is_shared, kept_to}
use Rattle.evaluation_rules.specs.Arguments.{usual_bounds, bounds_in, function_of, ask_for}

pub data CallData : Type 0 where
  refused : Failure → CallData
  -- the value of a ref is read
  reads : RefNameData → CallData
  -- a ref gets a value, in the attempt alone
  puts : RefNameData → Datum → CallData
  -- nobody else is to change a ref until the attempt is committed
  ensures : RefNameData → CallData
  -- the answer to an ask is the value
  asks_value : AskData → CallData
  -- this is the value, if what is asked is granted
  asks_permission : AskData → Datum → CallData

-- Calls

-- `(ref value option number ..)`
abbrev pub ref_call : List Datum → Result CallData Failure
ref_call [] = Err (wrong_arity (store_name_of StoreFunction.Ref) 0)
ref_call (d ∷ ds) =
    bounds_in usual_bounds ds >>= λ bounds. Ok (asks_value (new_ref d bounds.least bounds.most))

-- `(deref ref)`, `(deref atom)`, `(deref agent)`
abbrev pub deref_call : Datum → Result CallData Failure
deref_call (atom n) = Ok (asks_value (read_atom n))
deref_call (agent n) = Ok (asks_value (read_agent n))
deref_call d = ref_in StoreFunction.Deref d >>= λ name. Ok (reads name)

-- `(ref-set ref value)`
abbrev pub ref_set_call : Bool → Datum → Datum → Result CallData Failure
ref_set_call running d e =
    ref_in StoreFunction.RefSet d >>= λ name. (kept_to Rule.ATransactionRuns running
    >>= λ _. (kept_to Rule.SharedRefsArePlain (may_hold name.owner e) >>= λ _. Ok (puts name e)))

-- `(ref-history-count ref)`; in a transaction a shared ref's history is not told
abbrev pub history_count_call : Bool → Datum → Result CallData Failure
history_count_call running d =
    ref_in StoreFunction.HistoryCount d
    >>= λ name. (kept_to Rule.SharedHistoryIsHidden (not running || not (is_shared name.owner))
    >>= λ _. Ok (asks_value (history name)))

-- `(ref-min-history ref)`, `(ref-max-history ref)`
abbrev pub tell_bound_call : HistoryBound → Datum → Result CallData Failure
tell_bound_call bound d = ref_in (function_of bound) d
    >>= λ name. Ok (asks_value (ask_for bound name None))

-- `(ref-min-history ref number)`, `(ref-max-history ref number)`; not for a shared ref
abbrev pub set_bound_call : HistoryBound → Datum → Datum → Result CallData Failure
set_bound_call bound d e =
    ref_in (function_of bound) d >>= λ name. (count_in (function_of bound) e
    >>= λ n. (kept_to Rule.SharedBoundsStay (not (is_shared name.owner))
    >>= λ _. Ok (asks_value (ask_for bound name (Some n)))))

-- `(ensure ref)`
abbrev pub ensure_call : Bool → Datum → Result CallData Failure
ensure_call running d =
    ref_in StoreFunction.Ensure d >>= λ name.
    (kept_to Rule.ATransactionRuns running >>= λ _. Ok (ensures name))

abbrev pub altering : Alteration → StoreFunction
altering Alteration.Alter = StoreFunction.Alter
altering Alteration.Commute = StoreFunction.Commute

-- The ref that `(alter ref function argument ..)` alters, or that is commuted: a transaction has to
-- run.
abbrev pub altered_in : Alteration → Bool → Datum → Result RefNameData Failure
altered_in by running d =
    ref_in (altering by) d >>= λ name. (kept_to Rule.ATransactionRuns running >>= λ _. Ok name)

-- either of them where its function is a value: functions are none, so the first wrong argument is
-- that, or the ref
abbrev pub alter_by_value : Alteration → Datum → Datum → Result CallData Failure
alter_by_value by d e =
    ref_in (altering by) d >>= λ _. Err (wrong_argument (store_name_of (altering by)) e)

-- `(atom value)`
abbrev pub atom_call : Datum → Result CallData Failure
atom_call d = Ok (asks_value (new_atom d))

-- `(reset! atom value)`
abbrev pub reset_call : Datum → Datum → Result CallData Failure
reset_call d e = atom_in StoreFunction.Reset d >>= λ n. Ok (asks_value (set_atom n e))

-- `(compare-and-set! atom seen next)`
abbrev pub compare_and_set_call : Datum → Datum → Datum → Result CallData Failure
compare_and_set_call d seen next =
    atom_in StoreFunction.CompareAndSet d >>= λ n. Ok (asks_value (try_atom n seen next))

-- `swap!` where its function is a value, likewise
abbrev pub swap_by_value : Datum → Datum → Result CallData Failure
swap_by_value d e = atom_in StoreFunction.Swap d
    >>= λ _. Err (wrong_argument (store_name_of StoreFunction.Swap) e)

-- `(agent state)`
abbrev pub agent_call : Datum → Result CallData Failure
agent_call d = Ok (asks_value (new_agent d))

-- `(agent-error agent)`
abbrev pub agent_error_call : Datum → Result CallData Failure
agent_error_call d = agent_in StoreFunction.AgentError d >>= λ n. Ok (asks_value (agent_fault n))

-- `(restart-agent agent state)`
abbrev pub restart_agent_call : Datum → Datum → Result CallData Failure
restart_agent_call d e =
    agent_in StoreFunction.RestartAgent d >>= λ n. Ok (asks_permission (restart_agent n e) e)

abbrev pub agents_in : List Datum → Result (List ℕ) Failure
agents_in [] = Ok []
agents_in (d ∷ ds) =
    agent_in StoreFunction.Await d >>= λ n. (agents_in ds >>= λ ns. Ok (n ∷ ns))

-- `(await agent ..)`; not in a transaction
abbrev pub await_call : Bool → List Datum → Result CallData Failure
await_call running ds = agents_in ds
    >>= λ ns. (kept_to Rule.NoAwaitInTransaction (not running)
    >>= λ _. Ok (asks_permission (await ns) nil))

abbrev pub dispatching : Dispatch → StoreFunction
dispatching Dispatch.Send = StoreFunction.Send
dispatching Dispatch.SendOff = StoreFunction.SendOff

-- `send` or `send-off` where its function is a value, likewise
abbrev pub send_by_value : Dispatch → Datum → Datum → Result CallData Failure
send_by_value by d e = agent_in (dispatching by) d
    >>= λ _. Err (wrong_argument (store_name_of (dispatching by)) e)

-- the function that updates so
abbrev pub updating : Update → StoreFunction
updating (Update.Ref by) = altering by
updating Update.Atom = StoreFunction.Swap
updating (Update.Agent by) = dispatching by

abbrev pub call_with : StoreFunction → Bool → List Datum → Result CallData Failure
call_with StoreFunction.Ref running ds = ref_call ds
call_with StoreFunction.Deref running (d ∷ []) = deref_call d
call_with StoreFunction.RefSet running (d ∷ e ∷ []) = ref_set_call running d e
call_with StoreFunction.Alter running (d ∷ e ∷ ds) = alter_by_value Alteration.Alter d e
call_with StoreFunction.Commute running (d ∷ e ∷ ds) = alter_by_value Alteration.Commute d e
call_with StoreFunction.Ensure running (d ∷ []) = ensure_call running d
call_with StoreFunction.HistoryCount running (d ∷ []) = history_count_call running d
call_with StoreFunction.MinHistory running (d ∷ []) = tell_bound_call HistoryBound.Least d
call_with StoreFunction.MinHistory running (d ∷ e ∷ []) = set_bound_call HistoryBound.Least d e
call_with StoreFunction.MaxHistory running (d ∷ []) = tell_bound_call HistoryBound.Greatest d
call_with StoreFunction.MaxHistory running (d ∷ e ∷ []) = set_bound_call HistoryBound.Greatest d e
call_with StoreFunction.Atom running (d ∷ []) = atom_call d
call_with StoreFunction.Swap running (d ∷ e ∷ ds) = swap_by_value d e
call_with StoreFunction.Reset running (d ∷ e ∷ []) = reset_call d e
call_with StoreFunction.CompareAndSet running (d ∷ seen ∷ next ∷ []) =
    compare_and_set_call d seen next
call_with StoreFunction.Agent running (d ∷ []) = agent_call d
call_with StoreFunction.AgentError running (d ∷ []) = agent_error_call d
call_with StoreFunction.RestartAgent running (d ∷ e ∷ []) = restart_agent_call d e
call_with StoreFunction.Send running (d ∷ e ∷ ds) = send_by_value Dispatch.Send d e
call_with StoreFunction.SendOff running (d ∷ e ∷ ds) = send_by_value Dispatch.SendOff d e
call_with StoreFunction.Await running ds = await_call running ds
call_with f running ds = Err (wrong_arity (store_name_of f) (length ds))

abbrev pub called_for : Result CallData Failure → CallData
called_for (Ok call) = call
called_for (Err f) = refused f

-- a call of the function with these values, while a transaction runs or none does
unfoldable pub call_data_of : StoreFunction → Bool → List Datum → CallData
call_data_of f running ds =
    if store_fits f (length ds) then called_for (call_with f running ds)
    else refused (wrong_arity (store_name_of f) (length ds))

-- In an action of an agent nothing is awaited

abbrev pub unless_awaited : CallData → CallData
unless_awaited (asks_permission (await ns) d) = refused (broken_rule Rule.NoAwaitInAction)
unless_awaited call = call

-- a call of the function with these values in an action
unfoldable pub action_call_data_of : StoreFunction → Bool → List Datum → CallData
action_call_data_of f running ds = unless_awaited (call_data_of f running ds)

-- In the text of the namespace that all tenants share

-- `(ref value)` there
abbrev pub plain_ref_call : Datum → Result CallData Failure
plain_ref_call d = kept_to Rule.SharedRefsArePlain (is_plain d) >>= λ _. ref_call (d ∷ [])

-- A ref is made of plain data, without options, and its value is read. All else is refused before
-- the kinds of the arguments are looked at.
abbrev pub shared_call_with : StoreFunction → List Datum → Result CallData Failure
shared_call_with StoreFunction.Ref (d ∷ []) = plain_ref_call d
shared_call_with StoreFunction.Deref (d ∷ []) = deref_call d
shared_call_with f ds = Err (broken_rule Rule.SharedTextDefinesAlone)

-- a call of the function with these values in that text
unfoldable pub shared_call_data_of : StoreFunction → List Datum → CallData
shared_call_data_of f ds =
    if store_fits f (length ds) then called_for (shared_call_with f ds)
    else refused (wrong_arity (store_name_of f) (length ds))
