-- No call of a function that asks the store reads a ref by its ask.
use Rattle.std.proofs.Common.{ℕ, List, [], ◌∷◌, Bool, true, false, Some, Result, Ok, Err}
use Rattle.std.proofs.Common.{if◌then◌else◌, length}
use Rattle.std.specs.Prelude.{⊤, not, ◌||◌}
use Rattle.value_data.specs.Datum.{Datum, atom, agent}
use Rattle.value_data.specs.Measures.{is_plain}
use Rattle.repl_values.specs.Failure.{Failure, ◌>>=◌, wrong_arity}
use Rattle.repl_values.specs.declared.rule.Rule.{Rule}
use Rattle.core_functions.specs.StoreNames.{store_name_of, store_fits}
use Rattle.core_functions.specs.declared.store.StoreFunction.{StoreFunction}
use Rattle.repl_asks.specs.Transactions.{RefNameData, may_hold}
use Rattle.repl_asks.specs.Exchange.{AskData, read, min_history, max_history, await}
use Rattle.evaluation_rules.specs.declared.altering.Alteration.{Alteration}
use Rattle.evaluation_rules.specs.declared.sending.Dispatch.{Dispatch}
use Rattle.evaluation_rules.specs.Arguments.{ref_in, atom_in, agent_in, count_in, is_shared, kept_to}
use Rattle.evaluation_rules.specs.Arguments.{usual_bounds, bounds_in}
use Rattle.evaluation_rules.specs.Calling.{CallData, refused, reads, puts, ensures, asks_value}
use Rattle.evaluation_rules.specs.Calling.{asks_permission, agents_in, dispatching, unless_awaited}
use Rattle.evaluation_rules.specs.Calling.{action_call_data_of}
use Rattle.evaluation_rules.specs.Calling.{altering, deref_call, call_with, called_for, call_data_of}
use Rattle.evaluation_rules.specs.Calling.{shared_call_with, shared_call_data_of}
use Rattle.evaluation_rules.specs.Refs.{call_data_at}
use Rattle.evaluation_rules.specs.declared.occasion.Occasion.{Occasion}

abbrev pub IsNoRead : AskData → Type 0
IsNoRead (read name) = ⊥
IsNoRead ask = ⊤

abbrev pub AsksNoRead : CallData → Type 0
AsksNoRead (asks_value ask) = IsNoRead ask
AsksNoRead (asks_permission ask d) = IsNoRead ask
AsksNoRead call = ⊤

abbrev GivesNoRead : Result CallData Failure → Type 0
GivesNoRead (Ok call) = AsksNoRead call
GivesNoRead (Err f) = ⊤

gives-then : {A : Type 0} (r : Result A Failure) (behind : A → Result CallData Failure)
    → ((a : A) → GivesNoRead (behind a)) → GivesNoRead (r >>= behind)
gives-then (Ok a) behind gives = gives a
gives-then (Err f) behind gives = tt

no-read-bound : (f : StoreFunction) (d : Datum) (e : Datum)
    (behind : RefNameData → ℕ → Result CallData Failure)
    → ((name : RefNameData) (n : ℕ) → GivesNoRead (behind name n))
    → GivesNoRead (ref_in f d >>= λ name. (count_in f e
    >>= λ n. (kept_to Rule.SharedBoundsStay (not (is_shared name.owner)) >>= λ _. behind name n)))
no-read-bound f d e behind gives =
    gives-then (ref_in f d) _ (λ name. gives-then (count_in f e) _ (λ n.
    gives-then (kept_to Rule.SharedBoundsStay (not (is_shared name.owner))) _ (λ holds.
    gives name n)))

no-read-deref : (d : Datum) → GivesNoRead (deref_call d)
no-read-deref (atom n) = tt
no-read-deref (agent n) = tt
no-read-deref d = gives-then (ref_in StoreFunction.Deref d) (λ name. Ok (reads name)) (λ name. tt)

no-read : (f : StoreFunction) (running : Bool) (ds : List Datum)
    → GivesNoRead (call_with f running ds)
no-read StoreFunction.Ref running [] = tt
no-read StoreFunction.Ref running (d ∷ ds) = gives-then (bounds_in usual_bounds ds) _ (λ bounds. tt)
no-read StoreFunction.Deref running (d ∷ []) = no-read-deref d
no-read StoreFunction.RefSet running (d ∷ e ∷ []) =
    gives-then (ref_in StoreFunction.RefSet d) _ (λ name.
    gives-then (kept_to Rule.ATransactionRuns running) _ (λ runs.
    gives-then (kept_to Rule.SharedRefsArePlain (may_hold name.owner e)) _ (λ holds. tt)))
no-read StoreFunction.Alter running (d ∷ e ∷ ds) =
    gives-then (ref_in (altering Alteration.Alter) d) _ (λ name. tt)
no-read StoreFunction.Commute running (d ∷ e ∷ ds) =
    gives-then (ref_in (altering Alteration.Commute) d) _ (λ name. tt)
no-read StoreFunction.Ensure running (d ∷ []) =
    gives-then (ref_in StoreFunction.Ensure d) _ (λ name.
    gives-then (kept_to Rule.ATransactionRuns running) _ (λ runs. tt))
no-read StoreFunction.HistoryCount running (d ∷ []) =
    gives-then (ref_in StoreFunction.HistoryCount d) _ (λ name.
    gives-then (kept_to Rule.SharedHistoryIsHidden (not running || not (is_shared name.owner))) _
    (λ holds. tt))
no-read StoreFunction.MinHistory running (d ∷ []) =
    gives-then (ref_in StoreFunction.MinHistory d) _ (λ name. tt)
no-read StoreFunction.MinHistory running (d ∷ e ∷ []) =
    no-read-bound StoreFunction.MinHistory d e
    (λ name n. Ok (asks_value (min_history name (Some n)))) (λ name n. tt)
no-read StoreFunction.MaxHistory running (d ∷ []) =
    gives-then (ref_in StoreFunction.MaxHistory d) _ (λ name. tt)
no-read StoreFunction.MaxHistory running (d ∷ e ∷ []) =
    no-read-bound StoreFunction.MaxHistory d e
    (λ name n. Ok (asks_value (max_history name (Some n)))) (λ name n. tt)
no-read StoreFunction.Atom running (d ∷ []) = tt
no-read StoreFunction.Swap running (d ∷ e ∷ ds) =
    gives-then (atom_in StoreFunction.Swap d) _ (λ n. tt)
no-read StoreFunction.Reset running (d ∷ e ∷ []) =
    gives-then (atom_in StoreFunction.Reset d) _ (λ n. tt)
no-read StoreFunction.CompareAndSet running (d ∷ seen ∷ next ∷ []) =
    gives-then (atom_in StoreFunction.CompareAndSet d) _ (λ n. tt)
no-read StoreFunction.Agent running (d ∷ []) = tt
no-read StoreFunction.AgentError running (d ∷ []) =
    gives-then (agent_in StoreFunction.AgentError d) _ (λ n. tt)
no-read StoreFunction.RestartAgent running (d ∷ e ∷ []) =
    gives-then (agent_in StoreFunction.RestartAgent d) _ (λ n. tt)
no-read StoreFunction.Send running (d ∷ e ∷ ds) =
    gives-then (agent_in (dispatching Dispatch.Send) d) _ (λ n. tt)
no-read StoreFunction.SendOff running (d ∷ e ∷ ds) =
    gives-then (agent_in (dispatching Dispatch.SendOff) d) _ (λ n. tt)
no-read StoreFunction.Await running ds =
    gives-then (agents_in ds) _ (λ ns.
    gives-then (kept_to Rule.NoAwaitInTransaction (not running)) _ (λ holds. tt))
no-read f running ds = tt

called : (r : Result CallData Failure) → GivesNoRead r → AsksNoRead (called_for r)
called (Ok call) gives = gives
called (Err f) gives = tt

outside-no-read : (f : StoreFunction) (running : Bool) (ds : List Datum)
    → AsksNoRead (call_data_of f running ds)
unfolding call_data_of
outside-no-read f running ds = at (store_fits f (length ds))
  where
    at : (b : Bool) → AsksNoRead (if b then called_for (call_with f running ds)
        else refused (wrong_arity (store_name_of f) (length ds)))
    at true = called (call_with f running ds) (no-read f running ds)
    at false = tt

-- the text of the shared namespace reads by no ask either
no-shared-read : (f : StoreFunction) (ds : List Datum) → GivesNoRead (shared_call_with f ds)
no-shared-read StoreFunction.Ref (d ∷ []) =
    gives-then (kept_to Rule.SharedRefsArePlain (is_plain d)) _ (λ holds. tt)
no-shared-read StoreFunction.Deref (d ∷ []) = no-read-deref d
no-shared-read f ds = tt

shared-no-read : (f : StoreFunction) (ds : List Datum) → AsksNoRead (shared_call_data_of f ds)
unfolding shared_call_data_of
shared-no-read f ds = at (store_fits f (length ds))
  where
    at : (b : Bool) → AsksNoRead (if b then called_for (shared_call_with f ds)
        else refused (wrong_arity (store_name_of f) (length ds)))
    at true = called (shared_call_with f ds) (no-shared-read f ds)
    at false = tt

awaited-no-read : (call : CallData) → AsksNoRead call → AsksNoRead (unless_awaited call)
awaited-no-read (asks_permission (await ns) d) apart = tt
awaited-no-read (asks_permission ask d) apart = apart
awaited-no-read (refused f) apart = tt
awaited-no-read (reads name) apart = tt
awaited-no-read (puts name d) apart = tt
awaited-no-read (ensures name) apart = tt
awaited-no-read (asks_value ask) apart = apart

action-no-read : (f : StoreFunction) (running : Bool) (ds : List Datum)
    → AsksNoRead (action_call_data_of f running ds)
unfolding action_call_data_of
action-no-read f running ds =
    awaited-no-read (call_data_of f running ds) (outside-no-read f running ds)

pub calls-no-read : (occasion : Occasion) (f : StoreFunction) (running : Bool) (ds : List Datum)
    → AsksNoRead (call_data_at occasion f running ds)
calls-no-read Occasion.Form f running ds = outside-no-read f running ds
calls-no-read Occasion.SharedText f running ds = shared-no-read f ds
calls-no-read Occasion.Action f running ds = action-no-read f running ds
