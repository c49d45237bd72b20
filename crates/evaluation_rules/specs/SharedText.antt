-- What the text of the namespace that all tenants share may do: it makes definitions and refs, and
-- nothing else that others could see.
use Rattle.std.specs.Prelude.{List, ℕ, Bool, true, false, Option, Some, None, if◌then◌else◌, ◌||◌}
use Rattle.value_data.specs.Datum.{Datum, symbol, list, item, ref}
use Rattle.value_data.specs.Measures.{is_plain}
use Rattle.repl_values.specs.Failure as failures
use Rattle.repl_values.specs.Failure.{Failure, broken_rule}
use Rattle.repl_values.specs.declared.rule.Rule.{Rule}
use Rattle.repl_asks.specs.Exchange.{BindingData, bound_value, bound_function}
use Rattle.repl_asks.specs.Namespaces.{is_fixed}
use Rattle.repl_asks.specs.Job as jobs
use Rattle.repl_asks.specs.Job.{WorkData}
use Rattle.special_forms.specs.Names.{special_named}
use Rattle.special_forms.specs.declared.special.SpecialForm.{SpecialForm}
use Rattle.evaluation_rules.specs.declared.occasion.Occasion.{Occasion}
use Rattle.evaluation_rules.specs.Doing.{failed, left, Part}

abbrev pub is_shared_text : Occasion → Bool
is_shared_text Occasion.Form = false
is_shared_text Occasion.SharedText = true
is_shared_text Occasion.Action = false

abbrev pub occasion_of : WorkData → Occasion
occasion_of (jobs.form d) = Occasion.Form
occasion_of (jobs.shared_form d) = Occasion.SharedText
occasion_of (jobs.action d task) = Occasion.Action

-- what that text may not do
unfoldable pub outside_shared_text : {A : Type 0} → Part A → Part A
outside_shared_text part next kept = if is_shared_text kept.occasion
    then left (failed (broken_rule Rule.SharedTextDefinesAlone)) kept else part next kept

-- Definitions

abbrev pub is_named_definition : Option SpecialForm → Bool
is_named_definition (Some SpecialForm.Def) = true
is_named_definition (Some SpecialForm.Defn) = true
is_named_definition special = false

-- `(def ..)` or `(defn ..)`, whatever stands in it
abbrev pub is_definition : Datum → Bool
is_definition (list (item (symbol s) ds)) = is_named_definition (special_named s)
is_definition d = false

abbrev pub is_ref : Datum → Bool
is_ref (ref owner n) = true
is_ref d = false

-- a function, plain data or a ref itself, but not what has a ref inside
abbrev pub may_be_shared : BindingData → Bool
may_be_shared (bound_value d) = is_plain d || is_ref d
may_be_shared (bound_function f) = true

-- Why a name is not bound in this namespace. Only that text defines in one that is the same for
-- all.
abbrev pub refused_definition : Occasion → List ℕ → BindingData → Option Failure
refused_definition Occasion.SharedText space binding =
    if may_be_shared binding then None else Some (broken_rule Rule.SharedTextDefinesAlone)
refused_definition occasion space binding =
    if is_fixed space then Some (failures.namespace_is_fixed space) else None
