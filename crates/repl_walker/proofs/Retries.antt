-- Each read in a body, in whatever form it stands, leaves the body where it is to be made again.
use Rattle.std.proofs.Common.{◌≡◌, ℕ, zero, suc, List, [], ◌∷◌, Bool, true, false, Option}
use Rattle.std.proofs.Common.{Some, None, Result, Ok, Err, if◌then◌else◌, length, ◌++◌, refl, sym}
use Rattle.std.proofs.Common.{subst}
use Rattle.std.specs.Prelude.{⊤, ◌==◌, ◌||◌, codes, zip}
use Rattle.value_data.specs.Datum.{Datum, nil, keyword, symbol, list, vector, map, var, fault}
use Rattle.value_data.specs.Datum.{no_items, item, agent}
use Rattle.value_data.specs.Listed.{listed, items_of, pairs_of}
use Rattle.repl_values.specs.Failure as failures
use Rattle.repl_values.specs.Failure.{Failure}
use Rattle.repl_values.specs.declared.rule.Rule.{Rule}
use Rattle.core_scalars.specs.TextMeaning.{shown_text}
use Rattle.core_functions.specs.Names.{name_of, fits}
use Rattle.core_functions.specs.StoreNames.{store_name_of, store_fits}
use Rattle.core_functions.specs.declared.function.CoreFunction.{CoreFunction}
use Rattle.core_functions.specs.declared.store.StoreFunction.{StoreFunction}
use Rattle.core_functions.specs.ApplyOutcome as outcomes
use Rattle.core_functions.specs.ApplyOutcome.{ApplyOutcome, limited_outcome}
use Rattle.core_functions.specs.Meaning.{meaning}
use Rattle.repl_asks.specs.Namespaces.{is_fixed}
use Rattle.repl_asks.specs.Transactions.{RefNameData, CommuteData, may_hold}
use Rattle.repl_asks.specs.Exchange as exchange
use Rattle.repl_asks.specs.Exchange.{AskData, AnswerData, read, ReadingData, found, retry}
use Rattle.repl_asks.specs.Exchange.{reading_in, ResolutionData, names_value, names_function}
use Rattle.repl_asks.specs.Exchange.{names_nothing, BindingData, NamedFunctionData, core_function}
use Rattle.repl_asks.specs.Exchange.{store_function, program_function, resolution_in, value_in}
use Rattle.repl_asks.specs.Exchange.{read_atom, try_atom, PermissionData, granted, denied}
use Rattle.repl_asks.specs.Exchange.{permission_in}
use Rattle.repl_asks.specs.Sends.{SendingData}
use Rattle.special_forms.specs.Rows.{BoundForm, in_a_row}
use Rattle.special_forms.specs.Names.{special_named, special_name}
use Rattle.special_forms.specs.Truth.{is_truthy, decides, before}
use Rattle.special_forms.specs.Functions.{FunctionData}
use Rattle.special_forms.specs.Shapes as shapes
use Rattle.special_forms.specs.Shapes.{ShapeData, shape_of}
use Rattle.special_forms.specs.declared.shapes.Logic.{Logic}
use Rattle.special_forms.specs.declared.special.SpecialForm.{SpecialForm}
use Rattle.repl_asks.specs.Accesses.{AttemptData, commuted, attempt_value, is_commuted}
use Rattle.evaluation_rules.specs.Calling.{CallData, refused, reads, puts, ensures, asks_value}
use Rattle.evaluation_rules.specs.Calling.{asks_permission}
use Rattle.evaluation_rules.specs.Calling.{altered_in, dispatching}
use Rattle.evaluation_rules.specs.Arguments.{atom_in, agent_in}
use Rattle.evaluation_rules.specs.declared.altering.Alteration.{Alteration}
use Rattle.evaluation_rules.specs.declared.sending.Dispatch.{Dispatch}
use Rattle.evaluation_rules.specs.declared.updating.Update.{Update}
use Rattle.evaluation_rules.specs.declared.occasion.Occasion.{Occasion}
use Rattle.evaluation_rules.specs.Doing.{Kept, Doing, gave, failed, left, retried, asking, printing}
use Rattle.evaluation_rules.specs.Doing.{looking, noting, trying, Part, ◌|>◌, pure_part, fails}
use Rattle.evaluation_rules.specs.Places.{PlaceData, Evaluator, with_local, space_of}
use Rattle.evaluation_rules.specs.Rows.{row, value_of_last}
use Rattle.evaluation_rules.specs.Naming.{known_or_asked, known_resolution, resolution, as_value}
use Rattle.evaluation_rules.specs.Naming.{as_function, function_value}
use Rattle.evaluation_rules.specs.Refs.{read_value, known_or_read, ref_value, put_by, put_value}
use Rattle.evaluation_rules.specs.Refs.{held_value, ensure_noted, ensured_value, called_value}
use Rattle.evaluation_rules.specs.Refs.{permitted_value, granted_value}
use Rattle.evaluation_rules.specs.Refs.{store_call, altered_value, asked_value, call_data_at}
use Rattle.evaluation_rules.specs.SharedText.{is_shared_text, outside_shared_text}
use Rattle.evaluation_rules.specs.SharedText.{refused_definition}
use Rattle.evaluation_rules.specs.Applying.{CalleeData, named_callee, keyword_callee}
use Rattle.evaluation_rules.specs.Applying.{update_callee}
use Rattle.evaluation_rules.specs.Atoms.{settled_value, tried_value, seen_value, swapped_value}
use Rattle.evaluation_rules.specs.Atoms.{swap_of, swap_call}
use Rattle.evaluation_rules.specs.Agents.{permitted_send, send_ask, sent_value, sent_to, send_call}
use Rattle.evaluation_rules.specs.Applying.{outcome, printed_value, prints, core_applied}
use Rattle.evaluation_rules.specs.Applying.{core_call, keyword_call}
use Rattle.evaluation_rules.specs.Applying.{body_place, program_call, function_applied}
use Rattle.evaluation_rules.specs.Applying.{with_calls, function_called, get_arguments, full_name}
use Rattle.evaluation_rules.specs.Calls.{commute_noted, not_of_core}
use Rattle.evaluation_rules.specs.Calls.{commute_applied, commuting_value, alteration_value}
use Rattle.evaluation_rules.specs.Calls.{alter_call, updated_value, update_call, applied_value}
use Rattle.evaluation_rules.specs.Calls.{counted_call}
use Rattle.evaluation_rules.specs.Calls.{call_value, updating_call, named_call}
use Rattle.evaluation_rules.specs.Transactions.{with_running, body_of, transacted_value}
use Rattle.evaluation_rules.specs.Transactions.{transaction_value, effects_value}
use Rattle.evaluation_rules.specs.SpecialForms.{logic_value, let_value, defined_value}
use Rattle.evaluation_rules.specs.SpecialForms.{definition_value}
use Rattle.evaluation_rules.specs.SpecialForms.{function_defined, goes_on_in, entry_value}
use Rattle.evaluation_rules.specs.SpecialForms.{computed_entry_value, thrown_value, shape_value}
use Rattle.evaluation_rules.specs.SpecialForms.{special_value, thrown_failure}
use Rattle.evaluation_rules.specs.Collections.{without_text, within_limits, distinct_or}
use Rattle.evaluation_rules.specs.Collections.{keys_in, values_in, repeated_key}
use Rattle.evaluation_rules.specs.Collections.{vector_value, map_value}
use Rattle.evaluation_rules.specs.Evaluation.{headed_value, list_value, value_at}
use Rattle.repl_walker.proofs.StoreAsks.{IsNoRead, AsksNoRead, calls-no-read}

-- Bodies

abbrev pub LeavesOn : ReadingData → Doing → Type 0
LeavesOn (found d) rest = ⊤
LeavesOn retry rest = (kept : Kept) × (rest ≡ left retried kept)

abbrev LeavesBehind : AskData → AnswerData → Doing → Type 0
LeavesBehind (read name) answer rest = LeavesOn (reading_in answer) rest
LeavesBehind ask answer rest = ⊤

-- wherever it stands, a read that is to be made again leaves
abbrev pub Leaves : Doing → Type 0
Leaves (left exit kept) = ⊤
Leaves (asking ask behind) =
    (answer : AnswerData) → LeavesBehind ask answer (behind answer) × Leaves (behind answer)
Leaves (printing text kept d) = Leaves d
Leaves (looking behind) = (a : AttemptData) → Leaves (behind a)
Leaves (noting op d) = Leaves d
Leaves (trying body d) = Leaves d

not-read : (ask : AskData) → IsNoRead ask → (answer : AnswerData) (rest : Doing)
    → LeavesBehind ask answer rest
not-read (read name) apart answer rest = absurd apart
not-read ask apart answer rest = tt

if-leaves : (b : Bool) (x y : Doing) → Leaves x → Leaves y → Leaves (if b then x else y)
if-leaves true x y h k = h
if-leaves false x y h k = k

-- Parts: what stands in a transaction leaves, where what comes behind it does

pub record Passes (A : Type 0) (part : Part A) : Type 0 where
  pub leaves : (next : A → Kept → Doing) (kept : Kept) → kept.running ≡ true
      → ((a : A) (after : Kept) → after.running ≡ true → Leaves (next a after))
      → Leaves (part next kept)

abbrev WalkPasses : Evaluator → Type 0
WalkPasses walk = (p : PlaceData) (d : Datum) → Passes Datum (walk p d)

pures : {A : Type 0} (a : A) → Passes A (pure_part a)
pures a = record { leaves = λ next kept runs on. on a kept runs }

faults : {A : Type 0} (f : Failure) → Passes A (fails f)
faults f = record { leaves = λ next kept runs on. tt }

then-passes : {A B : Type 0} {m : Part A} {f : A → Part B} → Passes A m
    → ((a : A) → Passes B (f a)) → Passes B (m |> f)
then-passes {f = f} first behind = record {
  leaves = λ next kept runs on.
      first.leaves (λ a. f a next) kept runs
      (λ a after ran. (behind a).leaves next after ran on);
}

if-passes : {A : Type 0} {x y : Part A} (b : Bool) → Passes A x → Passes A y
    → Passes A (if b then x else y)
if-passes true h k = h
if-passes false h k = k

row-passes : (walk : Datum → Part Datum) → ((d : Datum) → Passes Datum (walk d))
    → (ds : List Datum) → Passes (List Datum) (row walk ds)
row-passes walk w [] = pures []
row-passes walk w (d ∷ ds) =
    then-passes (w d) (λ v. then-passes (row-passes walk w ds) (λ vs. pures (v ∷ vs)))

last-passes : (walk : Datum → Part Datum) → ((d : Datum) → Passes Datum (walk d))
    → (last : Datum) (ds : List Datum) → Passes Datum (value_of_last walk last ds)
last-passes walk w last [] = pures last
last-passes walk w last (d ∷ ds) = then-passes (w d) (λ v. last-passes walk w v ds)

-- what is refused in the text of the shared namespace
outside-passes : {A : Type 0} (part : Part A) → Passes A part → Passes A (outside_shared_text part)
unfolding outside_shared_text
outside-passes part h = record {
  leaves = λ next kept runs on.
      if-leaves (is_shared_text kept.occasion)
      (left (failed (failures.broken_rule Rule.SharedTextDefinesAlone)) kept) (part next kept)
      tt (h.leaves next kept runs on);
}

-- Names

known-asked : (p : PlaceData) (s : List ℕ) (known : Option ResolutionData)
    → Passes ResolutionData (known_or_asked p s known)
known-asked p s (Some r) = record { leaves = λ next kept runs on. on r kept runs }
known-asked p s None = record {
  leaves = λ next kept runs on answer. (tt, on (resolution_in answer) kept runs);
}

resolves : (p : PlaceData) (s : List ℕ) → Passes ResolutionData (resolution p s)
resolves p s = known-asked p s (known_resolution p s)

values : (s : List ℕ) (r : ResolutionData) → Passes Datum (as_value s r)
values s (names_value d) = pures d
values s (names_function f) = faults (failures.not_a_value s)
values s (names_nothing f) = faults f

functions : (r : ResolutionData) → Passes NamedFunctionData (as_function r)
functions (names_value d) = faults (failures.not_a_function d)
functions (names_function f) = pures f
functions (names_nothing f) = faults f

function-passes : (p : PlaceData) (d : Datum) → Passes NamedFunctionData (function_value p d)
function-passes p (symbol s) = then-passes (resolves p s) functions
function-passes p d = faults (failures.not_a_function d)

-- Collections

textless : (o : ApplyOutcome) → Passes Datum (without_text o)
textless (outcomes.gives d text) = pures d
textless (outcomes.fails f) = faults f

distinct : (key : Option Datum) (part : Part Datum) → Passes Datum part
    → Passes Datum (distinct_or key part)
distinct (Some key) part h = faults (failures.duplicate_key key)
distinct None part h = h

vectors : (vs : List Datum) → Passes Datum (vector_value vs)
vectors vs = textless (limited_outcome (vector (items_of vs)))

maps : (ds : List Datum) → Passes Datum (map_value ds)
maps ds =
    let pairs : Datum = map (pairs_of (zip (keys_in ds) (values_in ds))) in
    distinct (repeated_key (keys_in ds)) (within_limits pairs) (textless (limited_outcome pairs))

-- Refs

reads-again : (name : RefNameData) (r : ReadingData) (next : Datum → Kept → Doing) (kept : Kept)
    → LeavesOn r (read_value name r next kept)
reads-again name (found d) next kept = tt
reads-again name retry next kept = (kept, refl)

reads-on : (name : RefNameData) (r : ReadingData) → Passes Datum (read_value name r)
reads-on name (found d) = record { leaves = λ next kept runs on. on d kept runs }
reads-on name retry = record { leaves = λ next kept runs on. tt }

known-read : (name : RefNameData) (known : Option Datum) → Passes Datum (known_or_read name known)
known-read name (Some d) = record { leaves = λ next kept runs on. on d kept runs }
known-read name None = record {
  leaves = λ next kept runs on answer.
      let r = reading_in answer in
      (reads-again name r next kept, (reads-on name r).leaves next kept runs on);
}

refs : (name : RefNameData) → Passes Datum (ref_value name)
refs name = record {
  leaves = λ next kept runs on a.
      (known-read name (attempt_value name a)).leaves next kept runs on;
}

put-passes-by : (name : RefNameData) (d : Datum) (b : Bool) → Passes Datum (put_by name d b)
put-passes-by name d true = record { leaves = λ next kept runs on. tt }
put-passes-by name d false = record { leaves = λ next kept runs on. on d kept runs }

put-passes : (name : RefNameData) (d : Datum) → Passes Datum (put_value name d)
unfolding put_value
put-passes name d = record {
  leaves = λ next kept runs on a.
      (put-passes-by name d (is_commuted name a)).leaves next kept runs on;
}

held : (name : RefNameData) (d : Datum) → Passes Datum (held_value name d)
unfolding held_value
held name d =
    if-passes (may_hold name.owner d) (put-passes name d)
    (faults (failures.broken_rule Rule.SharedRefsArePlain))

ensure-passes : (name : RefNameData) (d : Datum) → Passes Datum (ensure_noted name d)
ensure-passes name d = record { leaves = λ next kept runs on. on d kept runs }

ensured-passes : (name : RefNameData) → Passes Datum (ensured_value name)
unfolding ensured_value
ensured-passes name = then-passes (refs name) (ensure-passes name)

asked-passes : (ask : AskData) → IsNoRead ask → Passes Datum (asked_value ask)
asked-passes ask apart = record {
  leaves = λ next kept runs on answer.
      (not-read ask apart answer (next (value_in answer) kept), on (value_in answer) kept runs);
}

permits : (d : Datum) (p : PermissionData) → Passes Datum (permitted_value d p)
permits d granted = record { leaves = λ next kept runs on. on d kept runs }
permits d (denied f) = record { leaves = λ next kept runs on. tt }

granted-passes : (ask : AskData) (d : Datum) → IsNoRead ask → Passes Datum (granted_value ask d)
granted-passes ask d apart = record {
  leaves = λ next kept runs on answer.
      let p = permission_in answer in (
        not-read ask apart answer (permitted_value d p next kept),
        (permits d p).leaves next kept runs on,
      );
}

called-passes : (call : CallData) → AsksNoRead call → Passes Datum (called_value call)
called-passes (refused f) apart = record { leaves = λ next kept runs on. tt }
called-passes (reads name) apart = refs name
called-passes (puts name d) apart = put-passes name d
called-passes (ensures name) apart = ensured-passes name
called-passes (asks_value ask) apart = asked-passes ask apart
called-passes (asks_permission ask d) apart = granted-passes ask d apart

store-passes : (f : StoreFunction) (args : List Datum) → Passes Datum (store_call f args)
unfolding store_call
store-passes f args = record {
  leaves = λ next kept runs on.
      (called-passes (call_data_at kept.occasion f kept.running args)
      (calls-no-read kept.occasion f kept.running args)).leaves
      next kept runs on;
}

altered-passes : (r : Result RefNameData Failure) (behind : RefNameData → Datum → Part Datum)
    → ((name : RefNameData) (d : Datum) → Passes Datum (behind name d))
    → Passes Datum (altered_value r behind)
altered-passes (Ok name) behind h = then-passes (refs name) (h name)
altered-passes (Err f) behind h = faults f

-- Calls

printed-passes : (text : List ℕ) (d : Datum) → Passes Datum (printed_value text d)
unfolding printed_value
printed-passes text d = record { leaves = λ next kept runs on. on d kept runs }

outcomes-pass : (o : ApplyOutcome) → Passes Datum (outcome o)
outcomes-pass (outcomes.gives d text) = printed-passes text d
outcomes-pass (outcomes.fails f) = faults f

applied-passes : (f : CoreFunction) (args : List Datum) → Passes Datum (core_applied f args)
unfolding core_applied
applied-passes f args =
    let gives = outcomes-pass (meaning f args) in
    if-passes (prints f) (outside-passes (outcome (meaning f args)) gives) gives

core-passes : (f : CoreFunction) (args : List Datum) → Passes Datum (core_call f args)
unfolding core_call
core-passes f args =
    if-passes (fits f (length args)) (applied-passes f args)
    (faults (failures.wrong_arity (name_of f) (length args)))

keyword-passes : (s : List ℕ) (args : List Datum) → Passes Datum (keyword_call s args)
unfolding keyword_call
keyword-passes s args =
    if-passes (length args == 1 || length args == 2) (core-passes _ (get_arguments s args))
    (faults (failures.wrong_arity (codes ":" ++ s) (length args)))

program-passes : (walk : Evaluator) → WalkPasses walk → (f : FunctionData) (args : List Datum)
    → Passes Datum (program_call walk f args)
unfolding program_call
program-passes walk w f args =
    if-passes (length f.params == length args)
    (last-passes (walk (body_place f args)) (w (body_place f args)) nil f.body)
    (faults (failures.wrong_arity (full_name f) (length args)))

applied : (walk : Evaluator) → WalkPasses walk → (f : NamedFunctionData) (args : List Datum)
    → Passes Datum (function_applied walk f args)
applied walk w (core_function f) args = core-passes f args
applied walk w (store_function f) args = store-passes f args
applied walk w (program_function f) args = program-passes walk w f args

counted-by : (n : ℕ) (part : Part Datum) → Passes Datum part → Passes Datum (with_calls n part)
counted-by zero part h = record { leaves = λ next kept runs on. tt }
counted-by (suc n) part h = record {
  leaves = λ next kept runs on. h.leaves next (record kept { calls = n }) runs on;
}

called : (walk : Evaluator) → WalkPasses walk → (f : NamedFunctionData) (args : List Datum)
    → Passes Datum (function_called walk f args)
unfolding function_called
called walk w f args = record {
  leaves = λ next kept runs on.
      (counted-by kept.calls (function_applied walk f args) (applied walk w f args)).leaves
      next kept runs on;
}

commute-noted : (name : RefNameData) (c : CommuteData) (d : Datum)
    → Passes Datum (commute_noted name c d)
commute-noted name c d = record {
  leaves = λ next kept runs on.
      if-leaves (may_hold name.owner d) (noting (commuted name c d) (next d kept))
      (left (failed (failures.broken_rule Rule.SharedRefsArePlain)) kept)
      (on d kept runs) tt;
}

not-of-core : (b : Bool) (name : List ℕ) (n : ℕ) → Passes Datum (not_of_core b name n)
not-of-core true name n = faults (failures.broken_rule Rule.CommutesAreOfCore)
not-of-core false name n = faults (failures.wrong_arity name n)

commute-applied : (f : NamedFunctionData) (args : List Datum) (name : RefNameData) (d : Datum)
    → Passes Datum (commute_applied f args name d)
commute-applied (core_function f) args name d =
    then-passes (core-passes f (d ∷ args))
    (commute-noted name (record { function = f; arguments = args }))
commute-applied (store_function f) args name d =
    not-of-core (store_fits f (suc (length args))) (store_name_of f) (suc (length args))
commute-applied (program_function f) args name d =
    not-of-core (length f.params == suc (length args)) (full_name f) (suc (length args))

commuting : (f : NamedFunctionData) (args : List Datum) (name : RefNameData) (d : Datum)
    → Passes Datum (commuting_value f args name d)
unfolding commuting_value
commuting f args name d = record {
  leaves = λ next kept runs on.
      (counted-by kept.calls (commute_applied f args name d)
      (commute-applied f args name d)).leaves next kept runs on;
}

alteration : (walk : Evaluator) → WalkPasses walk
    → (by : Alteration) (f : NamedFunctionData) (args : List Datum) (name : RefNameData) (d : Datum)
    → Passes Datum (alteration_value walk by f args name d)
alteration walk w Alteration.Alter f args name d =
    then-passes (called walk w f (d ∷ args)) (held name)
alteration walk w Alteration.Commute f args name d = commuting f args name d

alter-passes : (walk : Evaluator) → WalkPasses walk
    → (by : Alteration) (f : NamedFunctionData) (args : List Datum)
    → Passes Datum (alter_call walk by f args)
unfolding alter_call
alter-passes walk w by f [] = record { leaves = λ next kept runs on. tt }
alter-passes walk w by f (d ∷ args) = record {
  leaves = λ next kept runs on.
      (altered-passes (altered_in by kept.running d) (alteration_value walk by f args)
      (alteration walk w by f args)).leaves next kept runs on;
}

settles : (again : Part Datum) → Passes Datum again → (next done : Datum)
    → Passes Datum (settled_value again next done)
settles again h next done = if-passes (is_truthy done) (pures next) h

tries : (n : ℕ) (seen : Datum) (again : Part Datum) → Passes Datum again → (next : Datum)
    → Passes Datum (tried_value n seen again next)
unfolding tried_value
tries n seen again h next =
    then-passes (asked-passes (try_atom n seen next) tt) (settles again h next)

sees : (walk : Evaluator) → WalkPasses walk
    → (f : NamedFunctionData) (args : List Datum) (n : ℕ) (again : Part Datum)
    → Passes Datum again → (seen : Datum) → Passes Datum (seen_value walk f args n again seen)
unfolding seen_value
sees walk w f args n again h seen =
    then-passes (called walk w f (seen ∷ args)) (tries n seen again h)

swaps : (left : ℕ) (walk : Evaluator) → WalkPasses walk
    → (f : NamedFunctionData) (args : List Datum) (n : ℕ)
    → Passes Datum (swapped_value left walk f args n)
unfolding swapped_value
swaps zero walk w f args n = faults failures.too_many_calls
swaps (suc more) walk w f args n =
    then-passes (asked-passes (read_atom n) tt)
    (sees walk w f args n (swapped_value more walk f args n) (swaps more walk w f args n))

swap-of : (walk : Evaluator) → WalkPasses walk
    → (f : NamedFunctionData) (args : List Datum) (r : Result ℕ Failure)
    → Passes Datum (swap_of walk f args r)
swap-of walk w f args (Ok n) = record {
  leaves = λ next kept runs on. (swaps (suc kept.calls) walk w f args n).leaves next kept runs on;
}
swap-of walk w g args (Err f) = record { leaves = λ next kept runs on. tt }

swap-passes : (walk : Evaluator) → WalkPasses walk
    → (f : NamedFunctionData) (args : List Datum) → Passes Datum (swap_call walk f args)
unfolding swap_call
swap-passes walk w f [] = record { leaves = λ next kept runs on. tt }
swap-passes walk w f (d ∷ args) = swap-of walk w f args (atom_in StoreFunction.Swap d)

held-back : (running : Bool) (occasion : Occasion) (x : SendingData)
    → IsNoRead (send_ask running occasion x)
held-back true occasion x = tt
held-back false Occasion.Form x = tt
held-back false Occasion.SharedText x = tt
held-back false Occasion.Action x = tt

sends-on : (x : SendingData) (p : PermissionData) → Passes Datum (permitted_send x p)
sends-on x granted = record { leaves = λ next kept runs on. on (agent x.agent) kept runs }
sends-on x (denied f) = record { leaves = λ next kept runs on. tt }

sends : (x : SendingData) → Passes Datum (sent_value x)
sends x = record {
  leaves = λ next kept runs on answer.
      let p = permission_in answer in (
        not-read (send_ask kept.running kept.occasion x) (held-back kept.running kept.occasion x)
            answer (permitted_send x p next kept),
        (sends-on x p).leaves next kept runs on,
      );
}

sends-to : (f : NamedFunctionData) (args : List Datum) (r : Result ℕ Failure)
    → Passes Datum (sent_to f args r)
sends-to f args (Ok n) =
    sends (record { agent = n; task = record { function = f; arguments = args } })
sends-to g args (Err f) = faults f

send-passes : (by : Dispatch) (f : NamedFunctionData) (args : List Datum)
    → Passes Datum (send_call by f args)
unfolding send_call
send-passes by f [] = faults (failures.wrong_arity (store_name_of (dispatching by)) 1)
send-passes by f (d ∷ args) = sends-to f args (agent_in (dispatching by) d)

updated : (walk : Evaluator) → WalkPasses walk
    → (by : Update) (f : NamedFunctionData) (args : List Datum)
    → Passes Datum (updated_value walk by f args)
updated walk w (Update.Ref by) f args = alter-passes walk w by f args
updated walk w Update.Atom f args = swap-passes walk w f args
updated walk w (Update.Agent by) f args = send-passes by f args

updates : (walk : Evaluator) → WalkPasses walk
    → (by : Update) (f : NamedFunctionData) (args : List Datum)
    → Passes Datum (update_call walk by f args)
updates walk w by f args = outside-passes (updated_value walk by f args) (updated walk w by f args)

callees : (walk : Evaluator) → WalkPasses walk → (callee : CalleeData) (args : List Datum)
    → Passes Datum (applied_value walk callee args)
callees walk w (named_callee f) args = applied walk w f args
callees walk w (keyword_callee s) args = keyword-passes s args
callees walk w (update_callee by f) args = updates walk w by f args

counted : (walk : Evaluator) → WalkPasses walk → (callee : CalleeData) (args : List Datum)
    → Passes Datum (counted_call walk callee args)
unfolding counted_call
counted walk w callee args = record {
  leaves = λ next kept runs on.
      (counted-by kept.calls (applied_value walk callee args) (callees walk w callee args)).leaves next kept runs on;
}

calls : (walk : Evaluator) → WalkPasses walk
    → (p : PlaceData) (forms : List Datum) (callee : CalleeData)
    → Passes Datum (call_value walk p forms callee)
calls walk w p forms callee = then-passes (row-passes (walk p) (w p) forms) (counted walk w callee)

updating-passes : (walk : Evaluator) → WalkPasses walk
    → (p : PlaceData) (by : Update) (d e : Datum) (ds : List Datum)
    → Passes Datum (updating_call walk p by d e ds)
updating-passes walk w p by d e ds =
    then-passes (w p d) (λ v. then-passes (function-passes p e) (λ f.
    then-passes (row-passes (walk p) (w p) ds) (λ vs. counted walk w (update_callee by f) (v ∷ vs))))

named : (walk : Evaluator) → WalkPasses walk
    → (p : PlaceData) (forms : List Datum) (f : NamedFunctionData)
    → Passes Datum (named_call walk p forms f)
named walk w p (d ∷ e ∷ ds) (store_function StoreFunction.Alter) =
    updating-passes walk w p (Update.Ref Alteration.Alter) d e ds
named walk w p (d ∷ e ∷ ds) (store_function StoreFunction.Commute) =
    updating-passes walk w p (Update.Ref Alteration.Commute) d e ds
named walk w p (d ∷ e ∷ ds) (store_function StoreFunction.Swap) =
    updating-passes walk w p Update.Atom d e ds
named walk w p (d ∷ e ∷ ds) (store_function StoreFunction.Send) =
    updating-passes walk w p (Update.Agent Dispatch.Send) d e ds
named walk w p (d ∷ e ∷ ds) (store_function StoreFunction.SendOff) =
    updating-passes walk w p (Update.Agent Dispatch.SendOff) d e ds
named walk w p forms f = calls walk w p forms (named_callee f)

-- Special forms

logics : (walk : Datum → Part Datum) → ((d : Datum) → Passes Datum (walk d))
    → (which : Logic) (last : Datum) (ds : List Datum)
    → Passes Datum (logic_value walk which last ds)
logics walk w which last [] = pures last
logics walk w which last (d ∷ ds) =
    if-passes (decides which last) (pures last) (then-passes (w d) (λ v. logics walk w which v ds))

lets : (walk : Evaluator) → WalkPasses walk
    → (p : PlaceData) (bs : List BoundForm) (forms : List Datum)
    → Passes Datum (let_value walk p bs forms)
lets walk w p [] forms = last-passes (walk p) (w p) nil forms
lets walk w p (b ∷ bs) forms =
    then-passes (w p b.form) (λ v. lets walk w (with_local p b.name v) bs forms)

defined : (refused : Option Failure) (space s : List ℕ) (b : BindingData)
    → Passes Datum (defined_value refused space s b)
defined (Some f) space s b = record { leaves = λ next kept runs on. tt }
defined None space s b = record { leaves = λ next kept runs on answer. (tt, on (var space s) kept runs) }

defines : (p : PlaceData) (s : List ℕ) (b : BindingData) → Passes Datum (definition_value p s b)
unfolding definition_value
defines p s b = record {
  leaves = λ next kept runs on.
      (defined (refused_definition kept.occasion (space_of p kept) b) (space_of p kept) s b).leaves
      next kept runs on;
}

function-defines : (p : PlaceData) (s : List ℕ) (params : List (List ℕ)) (forms : List Datum)
    → Passes Datum (function_defined p s params forms)
function-defines p s params forms = record {
  leaves = λ next kept runs on.
      (defines p s (exchange.bound_function
      (record { space = space_of p kept; name = s; params = params; body = forms }))).leaves
      next kept runs on;
}

enters-on : (s : List ℕ) → Passes Datum (goes_on_in s)
enters-on s = record { leaves = λ next kept runs on answer. (tt, on nil (record kept { namespace = s }) runs) }

enters : (s : List ℕ) → Passes Datum (entry_value s)
unfolding entry_value
enters s = if-passes (is_fixed s) (faults (failures.namespace_is_fixed s)) (enters-on s)

computed-enters : (d : Datum) → Passes Datum (computed_entry_value d)
computed-enters (symbol s) = enters s
computed-enters d = faults (failures.wrong_argument (codes "in-ns") d)

throws : (d : Datum) → Passes Datum (thrown_value d)
throws (fault class text) = faults (record { class = class; text = text })
throws d = faults (thrown_failure (shown_text d))

transacts : (part : Part Datum) → Passes Datum part → Passes Datum (transaction_value part)
unfolding transaction_value
transacts part h = record {
  leaves = λ next kept runs on.
      subst (λ (b : Bool). Leaves (transacted_value b part next kept)) (sym runs)
      (h.leaves next kept runs on);
}

effects-pass : (part : Part Datum) → Passes Datum part → Passes Datum (effects_value part)
unfolding effects_value
effects-pass part h = record {
  leaves = λ next kept runs on.
      if-leaves kept.running (left (failed (failures.broken_rule Rule.NoIoInTransaction)) kept)
      (part next kept) tt (h.leaves next kept runs on);
}

shapes-pass : (walk : Evaluator) → WalkPasses walk → (p : PlaceData) (shape : ShapeData)
    → Passes Datum (shape_value walk p shape)
shapes-pass walk w p (shapes.quoted d) = pures d
shapes-pass walk w p (shapes.body forms) = last-passes (walk p) (w p) nil forms
shapes-pass walk w p (shapes.transaction forms) =
    outside-passes (transaction_value (value_of_last (walk p) nil forms))
    (transacts (value_of_last (walk p) nil forms) (last-passes (walk p) (w p) nil forms))
shapes-pass walk w p (shapes.effects forms) =
    outside-passes (effects_value (value_of_last (walk p) nil forms))
    (effects-pass (value_of_last (walk p) nil forms) (last-passes (walk p) (w p) nil forms))
shapes-pass walk w p (shapes.choice c consequent alternative) =
    then-passes (w p c) (λ v. last-passes (walk p) (w p) nil
    (if is_truthy v then consequent else alternative))
shapes-pass walk w p (shapes.bindings bs forms) = lets walk w p bs forms
shapes-pass walk w p (shapes.logic which forms) = logics (walk p) (w p) which (before which) forms
shapes-pass walk w p (shapes.definition s d) =
    then-passes (w p d) (λ v. defines p s (exchange.bound_value v))
shapes-pass walk w p (shapes.function_definition s params forms) = function-defines p s params forms
shapes-pass walk w p (shapes.thrown d) = then-passes (w p d) throws
shapes-pass walk w p (shapes.entry s) = outside-passes (entry_value s) (enters s)
shapes-pass walk w p (shapes.computed_entry d) =
    outside-passes (walk p d |> computed_entry_value) (then-passes (w p d) computed-enters)

specials : (walk : Evaluator) → WalkPasses walk
    → (p : PlaceData) (special : SpecialForm) (shape : Option ShapeData)
    → Passes Datum (special_value walk p special shape)
specials walk w p special (Some shape) = shapes-pass walk w p shape
specials walk w p special None = faults (failures.bad_form (special_name special))

-- Forms

headed : (walk : Evaluator) → WalkPasses walk
    → (p : PlaceData) (s : List ℕ) (forms : List Datum) (special : Option SpecialForm)
    → Passes Datum (headed_value walk p s forms special)
headed walk w p s forms (Some special) = specials walk w p special (shape_of special forms)
headed walk w p s forms None =
    then-passes (then-passes (resolves p s) functions) (named walk w p forms)

lists : (walk : Evaluator) → WalkPasses walk → (p : PlaceData) (d : Datum) (forms : List Datum)
    → Passes Datum (list_value walk p d forms)
lists walk w p (symbol s) forms = headed walk w p s forms (special_named s)
lists walk w p (keyword s) forms = calls walk w p forms (keyword_callee s)
lists walk w p d forms = faults (failures.not_a_function d)

forms-pass : (room : ℕ) (p : PlaceData) (d : Datum) → Passes Datum (value_at room p d)
forms-pass room p (symbol s) = then-passes (resolves p s) (values s)
forms-pass room p (list no_items) = pures (list no_items)
forms-pass zero p (list (item d ds)) = faults failures.too_deep
forms-pass (suc room) p (list (item d ds)) = lists (value_at room) (forms-pass room) p d (listed ds)
forms-pass zero p (vector ds) = faults failures.too_deep
forms-pass (suc room) p (vector ds) =
    then-passes (row-passes (value_at room p) (forms-pass room p) (listed ds)) vectors
forms-pass zero p (map ps) = faults failures.too_deep
forms-pass (suc room) p (map ps) =
    then-passes (row-passes (value_at room p) (forms-pass room p) (in_a_row ps)) maps
forms-pass room p d = pures d

-- the body of any attempt
pub body-leaves : (room : ℕ) (p : PlaceData) (forms : List Datum) (kept : Kept)
    → Leaves (body_of (value_of_last (value_at room p) nil forms) kept)
body-leaves room p forms kept =
    (last-passes (value_at room p) (forms-pass room p) nil forms).leaves
    (λ d after. left (gave d) after) (with_running true kept) refl (λ d after ran. tt)
