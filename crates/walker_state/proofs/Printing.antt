-- Functions of the language that need no store, and what they print.
use Rattle.std.specs.Prelude.{string_bytes}
use Rattle.std.proofs.Common.{◌≡◌, ℕ, ◌+◌, ◌<◌, Bool, true, false, if◌then◌else◌, subst, Result, Ok}
use Rattle.std.proofs.Common.{Err, IfOk, List, refl, sym, ap, ◌∙◌, length, nat_lt, arith}
use Rattle.std.proofs.lemmas.List.{length-map}
use Rattle.std.proofs.lemmas.Bool.Decides.{nat_tests}
use Rattle.value_data.specs.Datum.{Datum}
use Rattle.value_data.specs.Inside.View.{view, views}
use Rattle.value_data.specs.declared.value.Value as value
use Rattle.value_data.proofs.Views.{value_views}
use Rattle.repl_values.specs.declared.fault.Fault.{Fault}
use Rattle.repl_values.specs.Failure.{Failure, output_too_long, wrong_arity}
use Rattle.repl_values.specs.Inside.FaultView.{failure_of}
use Rattle.repl_values.specs.declared.error.ApplyError.{ApplyError}
use Rattle.core_functions.specs.Names.{fits, name_of}
use Rattle.core_functions.specs.declared.function.CoreFunction.{CoreFunction}
use Rattle.core_functions.specs.Inside.View.{FailsIn}
use Rattle.core_functions.specs.ApplyOutcome as outcomes
use Rattle.core_functions.specs.ApplyOutcome.{ApplyOutcome, bounded_outcome}
use Rattle.core_scalars.specs.Limits.{most_text}
use Rattle.evaluation_rules.specs.Doing.{Part}
use Rattle.evaluation_rules.specs.Tree.{ends}
use Rattle.evaluation_rules.specs.Applying.{printed_value, outcome, core_applied, core_call}
use Rattle.walker_state.specs.Pending.{place_of, kept_of, next_of, from_state, tree}
use Rattle.walker_state.specs.Frames.{bottom}
use Rattle.walker_state.specs.declared.frames.Control.{Control}
use Rattle.walker_state.specs.declared.frames.State.{State}
use Rattle.walker_state.proofs.Stepping.{fails-at, inside_attempt-printing}

-- a text that is longer than all that may be printed passes the limit wherever it stands
printed_value-long : (text : List ℕ) (d : Datum) (s : State) → most_text < length text
    → from_state (printed_value text d) s ≡ ends (Err output_too_long) (string_bytes s.text) (kept_of s)
unfolding printed_value
printed_value-long text d s h =
    let test : nat_lt most_text (length (string_bytes s.text) + length text) ≡ true = grind (arith, nat_tests, h) in
    inside_attempt-printing s.setting s.transaction (bottom s.frames.items (place_of s)) text (kept_of s) (next_of s d (kept_of s)) (string_bytes s.text)
    ∙ rw test refl

pub outcome-bounded_outcome : (o : ApplyOutcome) (s : State) → from_state (outcome (bounded_outcome o)) s ≡ from_state (outcome o) s
outcome-bounded_outcome (outcomes.gives d text) s = by_test (nat_lt most_text (length text)) refl
  where
    by_test : (t : Bool) → nat_lt most_text (length text) ≡ t
        → from_state (outcome (if t then outcomes.fails output_too_long else outcomes.gives d text)) s ≡ from_state (printed_value text d) s
    by_test true e = fails-at output_too_long s ∙ sym (printed_value-long text d s (grind (arith, nat_tests, e)))
    by_test false e = refl
outcome-bounded_outcome (outcomes.fails f) s = refl

pub outcome-gives : (o : ApplyOutcome) (d : Datum) (text : List ℕ) (s : State) → bounded_outcome o ≡ outcomes.gives d text
    → from_state (outcome o) s ≡ from_state (printed_value text d) s
outcome-gives o d text s h = sym (outcome-bounded_outcome o s) ∙ ap (λ (p : ApplyOutcome). from_state (outcome p) s) h

pub outcome-fails : (o : ApplyOutcome) (f : Failure) (s : State) → bounded_outcome o ≡ outcomes.fails f
    → from_state (outcome o) s ≡ ends (Err f) (string_bytes s.text) (kept_of s)
outcome-fails o f s h = sym (outcome-bounded_outcome o s) ∙ ap (λ (p : ApplyOutcome). from_state (outcome p) s) h ∙ fails-at f s

pub ruleset bounds = (value_views, outcome-gives, outcome-fails)

-- what holds wherever the machine stands holds where it stands
pub if_ok-here : {E : Type 0} (r : Result Control E) (p q : Part Datum) (s : State) → p ≡ q
    → IfOk r (λ control. (t : State) → tree control t ≡ from_state p t) → IfOk r (λ control. tree control s ≡ from_state q s)
if_ok-here (Ok control) p q s same h = h s ∙ ap (λ (part : Part Datum). from_state part s) same
if_ok-here (Err e) p q s same h = tt

pub core_call-fits : (f : CoreFunction) (vs : List value.Value) → true ≡ fits f (length vs) → core_applied f (views vs) ≡ core_call f (views vs)
unfolding core_call
core_call-fits f vs h = let takes : fits f (length (views vs)) ≡ true = ap (fits f) (length-map vs view) ∙ sym h in rw takes refl

-- the fault of a function, which ends the evaluation
pub fails-told : (o : ApplyOutcome) (e : ApplyError) (f : Fault) (s : State) → FailsIn (bounded_outcome o) e → e ≡ ApplyError.Fault f
    → ends (Err (failure_of f)) (string_bytes s.text) (kept_of s) ≡ from_state (outcome o) s
fails-told o e f s told is =
    let P : ApplyError → Type 0 = λ d. FailsIn (bounded_outcome o) d in sym (outcome-fails o (failure_of f) s (subst P is told))

-- calls with a wrong number of arguments
pub core_call-misfits : (f : CoreFunction) (vs : List value.Value) (told : Failure) (s : State) → fits f (length vs) ≡ false
    → told ≡ wrong_arity (name_of f) (length vs) → ends (Err told) (string_bytes s.text) (kept_of s) ≡ from_state (core_call f (views vs)) s
unfolding core_call
core_call-misfits f vs told s misfits is = rw (length-map vs view, misfits, is) (sym (fails-at (wrong_arity (name_of f) (length vs)) s))
