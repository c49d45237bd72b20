-- Evaluation, by cases on the form (the Clojure reference, Evaluation). A form stands in a place,
-- and has room for so many lists, vectors and maps inside one another.
use Rattle.std.specs.Prelude.{ℕ, zero, suc, List, [], ◌∷◌, false, Option, Some, None}
use Rattle.std.specs.Prelude.{if◌then◌else◌, codes}
use Rattle.value_data.specs.Datum.{Datum, keyword, symbol, list, vector, map, no_items, item}
use Rattle.value_data.specs.Listed.{listed}
use Rattle.repl_values.specs.Failure as failures
use Rattle.repl_asks.specs.Job as jobs
use Rattle.repl_asks.specs.Job.{WorkData, JobData}
use Rattle.repl_asks.specs.Sends.{TaskData}
use Rattle.special_forms.specs.Rows.{in_a_row}
use Rattle.special_forms.specs.Names.{special_named}
use Rattle.special_forms.specs.Shapes.{shape_of}
use Rattle.special_forms.specs.declared.special.SpecialForm.{SpecialForm}
use Rattle.evaluation_rules.specs.Doing.{Kept, gave, left, Part, ◌|>◌, pure_part, fails}
use Rattle.repl_asks.specs.InteractionTree.{InteractionTree}
use Rattle.evaluation_rules.specs.Tree.{written_tree}
use Rattle.evaluation_rules.specs.Places.{PlaceData, Evaluator, outside}
use Rattle.evaluation_rules.specs.Naming.{resolution, symbol_value, as_function}
use Rattle.evaluation_rules.specs.Rows.{row}
use Rattle.evaluation_rules.specs.Calls.{call_value, named_call}
use Rattle.evaluation_rules.specs.Applying.{keyword_callee, function_called}
use Rattle.evaluation_rules.specs.SpecialForms.{special_value}
use Rattle.evaluation_rules.specs.Collections.{vector_value, map_value}
use Rattle.evaluation_rules.specs.SharedText.{occasion_of, is_definition}
use Rattle.evaluation_rules.specs.declared.limits.TheConstants.{CALLS, ROOM}

-- a special form's name at the head always is that form
abbrev pub headed_value : Evaluator → PlaceData → List ℕ → List Datum → Option SpecialForm
    → Part Datum
headed_value walk p s forms (Some special) = special_value walk p special (shape_of special forms)
headed_value walk p s forms None = resolution p s |> as_function |> λ f. named_call walk p forms f

abbrev pub list_value : Evaluator → PlaceData → Datum → List Datum → Part Datum
list_value walk p (symbol s) forms = headed_value walk p s forms (special_named s)
list_value walk p (keyword s) forms = call_value walk p forms (keyword_callee s)
list_value walk p d forms = fails (failures.not_a_function d)

-- The form at this many levels from the deepest. Symbols, lists, vectors and maps apart, a form is
-- its own value, and so is an empty list.
abbrev pub value_at : ℕ → PlaceData → Datum → Part Datum
value_at room p (symbol s) = symbol_value p s
value_at room p (list no_items) = pure_part (list no_items)
value_at zero p (list (item d ds)) = fails failures.too_deep
value_at (suc room) p (list (item d ds)) = list_value (value_at room) p d (listed ds)
value_at zero p (vector ds) = fails failures.too_deep
value_at (suc room) p (vector ds) = row (value_at room p) (listed ds) |> vector_value
value_at zero p (map ps) = fails failures.too_deep
value_at (suc room) p (map ps) = row (value_at room p) (in_a_row ps) |> map_value
value_at room p d = pure_part d

-- of the shared text, what is no definition is not evaluated at all
unfoldable pub shared_form_value : Datum → Part Datum
shared_form_value d = if is_definition d then value_at ROOM outside d
    else fails (failures.bad_form (codes "shared"))

-- an action calls its function with the agent's state, in front of what was sent with it
unfoldable pub action_value : Datum → TaskData → Part Datum
action_value d task = function_called (value_at ROOM) task.function (d ∷ task.arguments)

-- what there is to evaluate
abbrev pub work_value : WorkData → Part Datum
work_value (jobs.form d) = value_at ROOM outside d
work_value (jobs.shared_form d) = shared_form_value d
work_value (jobs.action d task) = action_value d task

-- 10,000 calls, and no transaction runs
abbrev pub at_first : JobData → Kept
at_first job = record {
  calls = CALLS;
  namespace = job.namespace;
  running = false;
  retries =
      job.retries;
  occasion = occasion_of job.work;
}

-- The whole evaluation of a job.
abbrev pub evaluation : JobData → InteractionTree
evaluation job = written_tree [] (work_value job.work (λ v kept. left (gave v) kept) (at_first job))
