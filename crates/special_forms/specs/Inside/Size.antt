-- How much there is in a form, for the proof that an evaluation ends.
use Rattle.std.specs.Prelude.{ℕ, ◌+◌, ◌*◌, List, sum_by}
use Rattle.value_data.specs.Datum.{Datum, nil, boolean, integer, string, keyword, symbol, list}
use Rattle.value_data.specs.Datum.{vector, map, ref, atom, agent, var, fault, Items, no_items, item}
use Rattle.value_data.specs.Datum.{Pairs, no_pairs, pair}
use Rattle.special_forms.specs.Rows.{BoundForm}
use Rattle.special_forms.specs.Shapes.{ShapeData, quoted, body, transaction, effects, choice}
use Rattle.special_forms.specs.Shapes.{bindings, logic, definition, function_definition, thrown}
use Rattle.special_forms.specs.Shapes.{entry, computed_entry}

-- the forms in a form
abbrev mutual
  pub nodes : Datum → ℕ
  nodes nil = 1
  nodes (boolean b) = 1
  nodes (integer n) = 1
  nodes (string s) = 1
  nodes (keyword s) = 1
  nodes (symbol s) = 1
  nodes (list ds) = 1 + items_nodes ds
  nodes (vector ds) = 1 + items_nodes ds
  nodes (map ps) = 1 + pairs_nodes ps
  nodes (ref owner n) = 1
  nodes (atom n) = 1
  nodes (agent n) = 1
  nodes (var space name) = 1
  nodes (fault class text) = 1

  pub items_nodes : Items → ℕ
  items_nodes no_items = 0
  items_nodes (item d ds) = 1 + nodes d + items_nodes ds

  pub pairs_nodes : Pairs → ℕ
  pairs_nodes no_pairs = 0
  pairs_nodes (pair k v ps) = 2 + nodes k + nodes v + pairs_nodes ps

unfoldable pub datum_size : Datum → ℕ
datum_size d = nodes d

abbrev pub forms_size : List Datum → ℕ
forms_size = sum_by (λ d. 3 * datum_size d + 1)

abbrev pub bindings_size : List BoundForm → ℕ
bindings_size = sum_by (λ b. 3 * datum_size b.form + 1)

abbrev pub shape_size : ShapeData → ℕ
shape_size (quoted form) = 0
shape_size (body forms) = forms_size forms
shape_size (transaction forms) = forms_size forms
shape_size (effects forms) = forms_size forms
shape_size (choice condition consequent alternative) =
    3 * datum_size condition + 1 + (forms_size consequent + forms_size alternative)
shape_size (bindings bs forms) = bindings_size bs + forms_size forms
shape_size (logic which forms) = forms_size forms
shape_size (definition name form) = 3 * datum_size form + 1
shape_size (function_definition name params forms) = 1
shape_size (thrown form) = 3 * datum_size form + 1
shape_size (entry name) = 1
shape_size (computed_entry form) = 3 * datum_size form + 1
