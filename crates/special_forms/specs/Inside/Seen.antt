-- What the code's parts of a form stand for.
use Rattle.std.specs.Prelude.{List, map, drop, take}
use Rattle.std.specs.Arc.{arc_str_bytes}
use Rattle.value_data.specs.Datum.{Datum}
use Rattle.value_data.specs.Listed.{listed}
use Rattle.value_data.specs.Inside.View.{view}
use Rattle.special_forms.specs.Functions.{FunctionData}
use Rattle.special_forms.specs.Rows.{BoundForm, in_a_row}
use Rattle.special_forms.specs.Inside.Bindings.{bindings_in}
use Rattle.special_forms.specs.Shapes.{ShapeData, quoted, body, transaction, effects, choice}
use Rattle.special_forms.specs.Shapes.{bindings, logic, definition, function_definition, thrown}
use Rattle.special_forms.specs.Shapes.{entry, computed_entry}
use Rattle.special_forms.specs.declared.forms.FormsHolder.{FormsHolder}
use Rattle.special_forms.specs.declared.forms.Forms.{Forms}
use Rattle.special_forms.specs.declared.forms.LetBinding.{LetBinding}
use Rattle.special_forms.specs.declared.function.Function.{Function}
use Rattle.special_forms.specs.declared.shapes.Shape.{Shape}

abbrev pub source_view : FormsHolder → List Datum
source_view (FormsHolder.Items s) = listed s.items
source_view (FormsHolder.Pairs t) = in_a_row t.pairs

-- those from the first place to before the second
abbrev pub forms_view : Forms → List Datum
forms_view f = drop f.start (take f.end (source_view f.source))

abbrev pub let_binding_view : LetBinding → BoundForm
let_binding_view b = record { name = arc_str_bytes b.name; form = view b.form }

abbrev pub shape_view : Shape → ShapeData
shape_view (Shape.Quote form) = quoted (view form)
shape_view (Shape.Body forms) = body (forms_view forms)
shape_view (Shape.Transaction forms) = transaction (forms_view forms)
shape_view (Shape.Effects forms) = effects (forms_view forms)
shape_view (Shape.Choice condition consequent alternative) =
    choice (view condition) (forms_view consequent) (forms_view alternative)
shape_view (Shape.Let bs forms) = bindings (bindings_in (forms_view bs)) (forms_view forms)
shape_view (Shape.Logic which forms) = logic which (forms_view forms)
shape_view (Shape.Define name form) = definition (arc_str_bytes name) (view form)
shape_view (Shape.DefineFunction name params forms) =
    function_definition (arc_str_bytes name) (map arc_str_bytes params.items) (forms_view forms)
shape_view (Shape.Throw form) = thrown (view form)
shape_view (Shape.Enter name) = entry (arc_str_bytes name)
shape_view (Shape.EnterComputed form) = computed_entry (view form)

abbrev pub function_view : Function → FunctionData
function_view f = record {
  space = arc_str_bytes f.space;
  name = arc_str_bytes f.name;
  params = map arc_str_bytes f.params.items;
  body = forms_view f.body;
}
