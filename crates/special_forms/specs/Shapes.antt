-- The shapes of special forms (the Clojure reference, Special Forms; `ns` and `in-ns` of
-- clojure.core). A form of another shape has none.
use Rattle.std.specs.Prelude.{ℕ, List, [], ◌∷◌, Bool, false, Option, Some, None, option_map, drop}
use Rattle.std.specs.Prelude.{if◌then◌else◌}
use Rattle.std.specs.Option.{option_and_then}
use Rattle.value_data.specs.Datum.{Datum}
use Rattle.special_forms.specs.Rows.{BoundForm}
use Rattle.special_forms.specs.Kinds.{symbol_name, simple_name, in_vector, is_text}
use Rattle.special_forms.specs.Parameters.{parameters}
use Rattle.special_forms.specs.declared.shapes.Logic.{Logic}
use Rattle.special_forms.specs.declared.special.SpecialForm.{SpecialForm}

-- a special form's parts
pub data ShapeData : Type 0 where
  quoted : Datum → ShapeData
  -- forms in a row
  body : List Datum → ShapeData
  -- forms in a row that are one transaction
  transaction : List Datum → ShapeData
  -- forms in a row that stand outside of transactions
  effects : List Datum → ShapeData
  -- a condition, the forms where it is true, and those where it is not
  choice : Datum → List Datum → List Datum → ShapeData
  bindings : List BoundForm → List Datum → ShapeData
  logic : Logic → List Datum → ShapeData
  definition : List ℕ → Datum → ShapeData
  -- a name, parameters and a body
  function_definition : List ℕ → List (List ℕ) → List Datum → ShapeData
  thrown : Datum → ShapeData
  -- a namespace to enter, by its name, or by a form whose value names it
  entry : List ℕ → ShapeData
  computed_entry : Datum → ShapeData

-- `(quote form)`, `(throw form)` and `(in-ns form)`
abbrev pub sole_form : List Datum → Option Datum
sole_form [] = None
sole_form (d ∷ []) = Some d
sole_form (d ∷ e ∷ ds) = None

-- `(if condition form)` and `(if condition form form)`
abbrev pub if_shape : List Datum → Option ShapeData
if_shape [] = None
if_shape (c ∷ []) = None
if_shape (c ∷ a ∷ []) = Some (choice c (a ∷ []) [])
if_shape (c ∷ a ∷ b ∷ []) = Some (choice c (a ∷ []) (b ∷ []))
if_shape (c ∷ a ∷ b ∷ d ∷ ds) = None

-- `(when condition form ..)`
abbrev pub when_shape : List Datum → Option ShapeData
when_shape [] = None
when_shape (c ∷ ds) = Some (choice c ds [])

-- `(ns name)`, where the name may have a slash
abbrev pub ns_shape : List Datum → Option ShapeData
ns_shape ds = option_map entry (option_and_then symbol_name (sole_form ds))

-- names and forms by turns
abbrev pub bound_forms : List Datum → Option (List BoundForm)
bound_forms [] = Some []
bound_forms (d ∷ []) = None
bound_forms (d ∷ e ∷ ds) =
    option_and_then (λ s. option_map (λ bs. record { name = s; form = e } ∷ bs) (bound_forms ds))
    (simple_name d)

-- `(let [name form ..] form ..)`
abbrev pub let_shape : List Datum → Option ShapeData
let_shape [] = None
let_shape (d ∷ ds) = option_map (λ bs. bindings bs ds) (option_and_then bound_forms (in_vector d))

-- `(def name form)`
abbrev pub def_shape : List Datum → Option ShapeData
def_shape [] = None
def_shape (d ∷ ds) = option_and_then (λ s. option_map (λ e. definition s e) (sole_form ds))
    (simple_name d)

abbrev pub begins_with_text : List Datum → Bool
begins_with_text [] = false
begins_with_text (d ∷ ds) = is_text d

-- `[name ..] form ..`
abbrev pub function_shape : List ℕ → List Datum → Option ShapeData
function_shape name [] = None
function_shape name (d ∷ ds) = option_map (λ names. function_definition name names ds)
    (option_and_then parameters (in_vector d))

-- what stands behind a name, but for a string
abbrev pub behind_name : List Datum → List Datum
behind_name ds = if begins_with_text ds then drop 1 ds else ds

-- `(defn name [name ..] form ..)`, where a string may stand behind the first name
abbrev pub defn_shape : List Datum → Option ShapeData
defn_shape [] = None
defn_shape (d ∷ ds) = option_and_then (λ s. function_shape s (behind_name ds)) (simple_name d)

abbrev pub shape_of : SpecialForm → List Datum → Option ShapeData
shape_of SpecialForm.And ds = Some (logic Logic.And ds)
shape_of SpecialForm.Or ds = Some (logic Logic.Or ds)
shape_of SpecialForm.Do ds = Some (body ds)
shape_of SpecialForm.Dosync ds = Some (transaction ds)
shape_of SpecialForm.Io ds = Some (effects ds)
shape_of SpecialForm.Quote ds = option_map quoted (sole_form ds)
shape_of SpecialForm.Throw ds = option_map thrown (sole_form ds)
shape_of SpecialForm.InNs ds = option_map computed_entry (sole_form ds)
shape_of SpecialForm.Ns ds = ns_shape ds
shape_of SpecialForm.If ds = if_shape ds
shape_of SpecialForm.When ds = when_shape ds
shape_of SpecialForm.Let ds = let_shape ds
shape_of SpecialForm.Def ds = def_shape ds
shape_of SpecialForm.Defn ds = defn_shape ds
