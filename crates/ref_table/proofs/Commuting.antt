-- What is commuted, made again one after the other.
use Rattle.std.proofs.Common.{◌≡◌, ℕ, ◌+◌, ◌<◌, List, [], ◌∷◌, ◌++◌, length, drop, get_or, true}
use Rattle.std.proofs.Common.{Option, map, refl, sym, ap, ◌∙◌, subst, append_assoc}
use Rattle.std.specs.Prelude.{Result, Ok, Err}
use Rattle.std.specs.List.{list_all}
use Rattle.std.specs.Result.{IsErrAnd}
use Rattle.std.proofs.lemmas.List.{map-append}
use Rattle.value_data.specs.Datum.{Datum}
use Rattle.value_data.specs.Inside.View.{view}
use Rattle.value_data.specs.declared.value.Value.{Value}
use Rattle.repl_values.specs.Failure.{Failure, ◌>>=◌}
use Rattle.repl_values.specs.Inside.FaultView.{Fails, Gives}
use Rattle.repl_values.specs.declared.error.ApplyError.{ApplyError}
use Rattle.repl_values.specs.declared.error.ApplyError.TheVariants as errors
use Rattle.core_scalars.specs.declared.text_function.PrintFunction.{PrintFunction}
use Rattle.core_functions.specs.ApplyOutcome.{ApplyOutcome, bounded_outcome}
use Rattle.core_functions.specs.Meaning.{meaning}
use Rattle.core_functions.specs.Inside.View.{FailsIn}
use Rattle.core_functions.proofs.Outcomes.{bounded_outcome-apply_outcome}
use Rattle.core_functions.specs.declared.function.CoreFunction.{CoreFunction}
use Rattle.repl_asks.specs.Transactions.{RefNameData, ChangeData, CommutedData}
use Rattle.repl_asks.specs.Inside.View.{name_view, change_view, commuted_view}
use Rattle.repl_asks.specs.declared.intent.Change.{Change}
use Rattle.repl_asks.specs.declared.intent.Commuted.{Commuted}
use Rattle.ref_table.specs.Commit.{takes_its_arguments, all_take, result_of, folded_from}
use Rattle.ref_table.specs.Commit.{all_folded}
use Rattle.ref_table.proofs.Distinct.{drop-item}
use Rattle.ref_table.proofs.Once.{both_true}

-- a function that does not print prints nothing
unprinted : (f : CoreFunction) (args : List Datum)
    → ((p : PrintFunction) → f ≡ CoreFunction.Print p → ⊥)
    → bounded_outcome (meaning f args) ≡ meaning f args
unprinted (CoreFunction.Integer f) args none = bounded_outcome-apply_outcome _
unprinted (CoreFunction.Predicate f) args none = bounded_outcome-apply_outcome _
unprinted (CoreFunction.Text f) args none = bounded_outcome-apply_outcome _
unprinted (CoreFunction.Sequence f) args none = bounded_outcome-apply_outcome _
unprinted (CoreFunction.Map f) args none = bounded_outcome-apply_outcome _
unprinted (CoreFunction.Print f) args none = absurd (none f refl)

fails-so : (o : ApplyOutcome) (e : ApplyError) → FailsIn o e → Fails e (result_of o)
fails-so o errors.NoMemory h = tt
fails-so o (errors.Fault f) h = ap result_of h

-- the fault of a function is that of its commute
pub applied-fails : (f : CoreFunction) (args : List Datum) (e : ApplyError)
    → ((p : PrintFunction) → f ≡ CoreFunction.Print p → ⊥)
    → FailsIn (bounded_outcome (meaning f args)) e → Fails e (result_of (meaning f args))
applied-fails f args e none h =
    fails-so (meaning f args) e (subst (λ o. FailsIn o e) (unprinted f args none) h)

-- an error that is handed on
pub given-err : {X Y : Type 0} (see : X → Y) (r : Result X ApplyError) (e : ApplyError)
    (q : Result Y Failure) → IsErrAnd r (λ x. x ≡ e) → Fails e q → Gives see r q
given-err see (Ok x) e q is h = absurd is
given-err see (Err x) e q is h = subst (λ e. Fails e q) (sym is) h

-- a fault of the first is one of both
pub failed-then : {X Y : Type 0} (e : ApplyError) (first : Result X Failure)
    (f : X → Result Y Failure) → Fails e first → Fails e (first >>= f)
failed-then errors.NoMemory first f h = tt
failed-then (errors.Fault fault) first f h = ap (λ first. first >>= f) h

-- One ref after another

-- what was folded, in front of the rest
abbrev pub before
    : List ChangeData → Result (List ChangeData) Failure → Result (List ChangeData) Failure
before ds rest = rest >>= λ cs. Ok (ds ++ cs)

pub folded-step
    : (value : RefNameData → Option Datum) (c : CommutedData) (cs : List CommutedData)
    (ds : List ChangeData) (d : Datum) → folded_from c (value c.name) ≡ Ok d
    → before ds (all_folded value (c ∷ cs))
    ≡ before (ds ++ record { name = c.name; now = d } ∷ []) (all_folded value cs)
folded-step value c cs ds d is =
    ap (λ first. before ds (first >>= λ d. (all_folded value cs >>= λ changes.
    Ok (record { name = c.name; now = d } ∷ changes)))) is
    ∙ by (all_folded value cs) where
      by : (rest : Result (List ChangeData) Failure)
          → before ds (rest >>= λ changes. Ok (record { name = c.name; now = d } ∷ changes))
          ≡ before (ds ++ record { name = c.name; now = d } ∷ []) rest
      by (Err f) = refl
      by (Ok rest) = ap Ok (sym (append_assoc ds (record { name = c.name; now = d } ∷ []) rest))

pub folded-failed
    : (value : RefNameData → Option Datum) (c : CommutedData) (cs : List CommutedData)
    (ds : List ChangeData) (e : ApplyError) → Fails e (folded_from c (value c.name))
    → Fails e (before ds (all_folded value (c ∷ cs)))
folded-failed value c cs ds e h =
    failed-then e (all_folded value (c ∷ cs)) (λ cs. Ok (ds ++ cs))
    (failed-then e (folded_from c (value c.name)) (λ d. (all_folded value cs >>= λ changes.
    Ok (record { name = c.name; now = d } ∷ changes))) h)

-- what is folded from here is folded from the next on
pub folded-next
    : (value : RefNameData → Option Datum) (all : Result (List ChangeData) Failure)
    (cs : List Commuted) (i : ℕ) (c : Commuted) (now : Value) (done more : List Change)
    → i < length cs → c ≡ get_or cs i c
    → all ≡ before (map change_view done) (all_folded value (map commuted_view (drop i cs)))
    → folded_from (commuted_view c) (value (name_view c.name)) ≡ Ok (view now)
    → more ≡ done ++ record { name = c.name; now = now } ∷ []
    → all ≡ before (map change_view more) (all_folded value (map commuted_view (drop (i + 1) cs)))
folded-next value all cs i c now done more below here from gives adds =
    from
    ∙ ap (λ cs. before (map change_view done) (all_folded value (map commuted_view cs)))
    (drop-item cs i c below here)
    ∙ folded-step value (commuted_view c) (map commuted_view (drop (i + 1) cs))
    (map change_view done) (view now) gives
    ∙ ap (λ ds. before ds (all_folded value (map commuted_view (drop (i + 1) cs))))
    (sym (ap (map change_view) adds
    ∙ map-append change_view done (record { name = c.name; now = now } ∷ [])))

-- commutes that all take their arguments, one by one
pub take-first : (c : CommutedData) (cs : List CommutedData) → all_take (c ∷ cs) ≡ true
    → (list_all takes_its_arguments c.commutes ≡ true) × (all_take cs ≡ true)
take-first c cs e = both_true (list_all takes_its_arguments c.commutes) (all_take cs) e
