-- Special forms (the Clojure reference, Special Forms). `walk` evaluates a form one level further
-- down.
use Rattle.std.specs.Prelude.{ℕ, List, [], ◌∷◌, Option, Some, None, if◌then◌else◌, nat_lt, length}
use Rattle.std.specs.Prelude.{codes}
use Rattle.value_data.specs.Datum.{Datum, nil, symbol, var, fault}
use Rattle.repl_values.specs.Failure as failures
use Rattle.repl_values.specs.Failure.{Failure}
use Rattle.core_scalars.specs.Limits.{most_weight}
use Rattle.core_scalars.specs.TextMeaning.{shown_text}
use Rattle.repl_asks.specs.Exchange.{BindingData, bound_value, bound_function, define, enter}
use Rattle.repl_asks.specs.Namespaces.{is_fixed}
use Rattle.special_forms.specs.Rows.{BoundForm}
use Rattle.special_forms.specs.Truth.{is_truthy, decides, before}
use Rattle.special_forms.specs.Names.{special_name}
use Rattle.special_forms.specs.Shapes.{ShapeData, quoted, body, transaction, effects, choice}
use Rattle.special_forms.specs.Shapes.{bindings, logic, definition, function_definition, thrown}
use Rattle.special_forms.specs.Shapes.{entry, computed_entry}
use Rattle.special_forms.specs.declared.shapes.Logic.{Logic}
use Rattle.special_forms.specs.declared.special.SpecialForm.{SpecialForm}
use Rattle.evaluation_rules.specs.Doing.{failed, left, asking, Part, ◌|>◌, pure_part, fails}
use Rattle.evaluation_rules.specs.Places.{PlaceData, Evaluator, with_local, space_of}
use Rattle.evaluation_rules.specs.Rows.{value_of_last}
use Rattle.evaluation_rules.specs.SharedText.{outside_shared_text, refused_definition}
use Rattle.evaluation_rules.specs.Transactions.{transaction_value, effects_value}

-- the value of `and` or `or` from here on; `last` is that of the form before
abbrev pub logic_value : (Datum → Part Datum) → Logic → Datum → List Datum → Part Datum
logic_value walk which last [] = pure_part last
logic_value walk which last (d ∷ ds) =
    if decides which last then pure_part last else (walk d |> λ v. logic_value walk which v ds)

-- names are bound one after another, each for what stands behind it
abbrev pub let_value : Evaluator → PlaceData → List BoundForm → List Datum → Part Datum
let_value walk p [] forms = value_of_last (walk p) nil forms
let_value walk p (b ∷ bs) forms = walk p b.form
    |> λ v. let_value walk (with_local p b.name v) bs forms

-- the name is bound in the namespace; the form's value is the var
abbrev pub defined_value : Option Failure → List ℕ → List ℕ → BindingData → Part Datum
defined_value (Some f) space s binding next kept = left (failed f) kept
defined_value None space s binding next kept =
    asking (define space s binding) (λ answer. next (var space s) kept)

unfoldable pub definition_value : PlaceData → List ℕ → BindingData → Part Datum
definition_value p s binding next kept =
    defined_value (refused_definition kept.occasion (space_of p kept) binding) (space_of p kept) s
    binding next kept

abbrev pub function_defined : PlaceData → List ℕ → List (List ℕ) → List Datum → Part Datum
function_defined p s params forms next kept =
    definition_value p s (bound_function
    (record { space = space_of p kept; name = s; params = params; body = forms })) next kept

-- The namespace is made where it is new, and what follows outside of functions' bodies is evaluated
-- in it.
abbrev pub goes_on_in : List ℕ → Part Datum
goes_on_in s next kept = asking (enter s) (λ answer. next nil (record kept { namespace = s }))

-- one that is the same for all is not entered
unfoldable pub entry_value : List ℕ → Part Datum
entry_value s = if is_fixed s then fails (failures.namespace_is_fixed s) else goes_on_in s

-- `in-ns` takes the name that a symbol is
abbrev pub computed_entry_value : Datum → Part Datum
computed_entry_value (symbol s) = entry_value s
computed_entry_value d = fails (failures.wrong_argument (codes "in-ns") d)

-- a fault is thrown as it is, any other value by its text
unfoldable pub thrown_failure : List ℕ → Failure
thrown_failure text = if nat_lt (length text) most_weight then failures.thrown_text text
    else failures.too_large

abbrev pub thrown_value : Datum → Part Datum
thrown_value (fault class text) = fails (record { class = class; text = text })
thrown_value d = fails (thrown_failure (shown_text d))

-- Where a form may not stand in a place, that is said here, before anything in it is evaluated.
abbrev pub shape_value : Evaluator → PlaceData → ShapeData → Part Datum
shape_value walk p (quoted d) = pure_part d
shape_value walk p (body forms) = value_of_last (walk p) nil forms
shape_value walk p (transaction forms) =
    outside_shared_text (transaction_value (value_of_last (walk p) nil forms))
shape_value walk p (effects forms) =
    outside_shared_text (effects_value (value_of_last (walk p) nil forms))
shape_value walk p (choice c consequent alternative) = walk p c
    |> λ v. value_of_last (walk p) nil (if is_truthy v then consequent else alternative)
shape_value walk p (bindings bs forms) = let_value walk p bs forms
shape_value walk p (logic which forms) = logic_value (walk p) which (before which) forms
shape_value walk p (definition s d) = walk p d |> λ v. definition_value p s (bound_value v)
shape_value walk p (function_definition s params forms) = function_defined p s params forms
shape_value walk p (thrown d) = walk p d |> thrown_value
shape_value walk p (entry s) = outside_shared_text (entry_value s)
shape_value walk p (computed_entry d) = outside_shared_text (walk p d |> computed_entry_value)

abbrev pub special_value : Evaluator → PlaceData → SpecialForm → Option ShapeData → Part Datum
special_value walk p special (Some shape) = shape_value walk p shape
special_value walk p special None = fails (failures.bad_form (special_name special))
