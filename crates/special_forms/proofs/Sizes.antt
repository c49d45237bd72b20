-- A form is at least one node, and a list, a vector or a map more than what is in it. The parts of a special form are
-- no larger than the forms behind its name.
use Rattle.std.proofs.Common.{◌≡◌, ℕ, ◌+◌, ◌*◌, ◌≤◌, List, [], ◌∷◌, Option, Some, None, option_map}
use Rattle.std.proofs.Common.{Result, Ok, Err, IfOk, subst, sym, arith}
use Rattle.std.specs.Option.{option_and_then}
use Rattle.std.specs.Prelude.{IfSome}
use Rattle.std.proofs.lemmas.List.Sums.{sum_by-cons}
use Rattle.value_data.specs.Datum.{Datum, nil, boolean, integer, string, keyword, symbol, list}
use Rattle.value_data.specs.Datum.{vector, map, ref, atom, agent, var, fault, Items, no_items, item}
use Rattle.value_data.specs.Datum.{Pairs, no_pairs, pair}
use Rattle.value_data.specs.Listed.{listed}
use Rattle.special_forms.specs.Rows.{BoundForm, in_a_row}
use Rattle.special_forms.specs.Inside.Size.{nodes, items_nodes, pairs_nodes, datum_size, forms_size}
use Rattle.special_forms.specs.Inside.Size.{bindings_size, shape_size}
use Rattle.special_forms.specs.Kinds.{symbol_name, simple_name, in_vector}
use Rattle.special_forms.specs.Parameters.{parameters}
use Rattle.special_forms.specs.Shapes.{ShapeData, quoted, bindings, definition, function_definition}
use Rattle.special_forms.specs.Shapes.{thrown, entry, computed_entry, sole_form, if_shape}
use Rattle.special_forms.specs.Shapes.{when_shape, ns_shape, bound_forms, let_shape, def_shape}
use Rattle.special_forms.specs.Shapes.{function_shape, behind_name, defn_shape, shape_of}
use Rattle.special_forms.specs.Inside.Seen.{shape_view}
use Rattle.special_forms.specs.declared.shapes.Shape.{Shape}
use Rattle.special_forms.specs.declared.special.SpecialForm.{SpecialForm}

nodes-pos : (d : Datum) → 1 ≤ nodes d
nodes-pos nil = omega arith
nodes-pos (boolean b) = omega arith
nodes-pos (integer n) = omega arith
nodes-pos (string s) = omega arith
nodes-pos (keyword s) = omega arith
nodes-pos (symbol s) = omega arith
nodes-pos (list ds) = omega arith
nodes-pos (vector ds) = omega arith
nodes-pos (map ps) = omega arith
nodes-pos (ref owner n) = omega arith
nodes-pos (atom n) = omega arith
nodes-pos (agent n) = omega arith
nodes-pos (var space name) = omega arith
nodes-pos (fault class text) = omega arith

pub datum_size-pos : (d : Datum) → 1 ≤ datum_size d
unfolding datum_size
datum_size-pos d = nodes-pos d

pub forms_size-cons : (d : Datum) (ds : List Datum) → forms_size (d ∷ ds) ≡ 3 * datum_size d + 1 + forms_size ds
forms_size-cons d ds = sum_by-cons (λ (e : Datum). 3 * datum_size e + 1) d ds

bindings_size-cons : (b : BoundForm) (bs : List BoundForm) → bindings_size (b ∷ bs) ≡ 3 * datum_size b.form + 1 + bindings_size bs
bindings_size-cons b bs = sum_by-cons (λ (c : BoundForm). 3 * datum_size c.form + 1) b bs

forms_size-listed : (ds : Items) → forms_size (listed ds) ≤ 3 * items_nodes ds
unfolding datum_size
forms_size-listed no_items = omega arith
forms_size-listed (item d ds) = omega (arith, forms_size-listed ds, forms_size-cons d (listed ds))

forms_size-row : (ps : Pairs) → forms_size (in_a_row ps) ≤ 3 * pairs_nodes ps
unfolding datum_size
forms_size-row no_pairs = omega arith
forms_size-row (pair k v ps) = omega (arith, forms_size-row ps, forms_size-cons k (v ∷ in_a_row ps), forms_size-cons v (in_a_row ps))

pub datum_size-list : (ds : Items) → 3 + forms_size (listed ds) ≤ 3 * datum_size (list ds)
unfolding datum_size
datum_size-list ds = omega (arith, forms_size-listed ds)

pub datum_size-vector : (ds : Items) → 3 + forms_size (listed ds) ≤ 3 * datum_size (vector ds)
unfolding datum_size
datum_size-vector ds = omega (arith, forms_size-listed ds)

pub datum_size-map : (ps : Pairs) → 3 + forms_size (in_a_row ps) ≤ 3 * datum_size (map ps)
unfolding datum_size
datum_size-map ps = omega (arith, forms_size-row ps)

pub ruleset sizes = (datum_size-pos, datum_size-list, datum_size-vector, datum_size-map, forms_size-cons)

bound-step : (o : Option (List ℕ)) (p : Option (List BoundForm)) (e : Datum) (n : ℕ) → IfSome p (λ bs. bindings_size bs ≤ n)
    → IfSome (option_and_then (λ s. option_map (λ bs. record { name = s; form = e } ∷ bs) p) o) (λ bs. bindings_size bs ≤ 3 * datum_size e + 1 + n)
bound-step None p e n h = tt
bound-step (Some s) None e n h = tt
bound-step (Some s) (Some bs) e n h = omega (arith, h, bindings_size-cons (record { name = s; form = e }) bs)

at_most : (p : Option (List BoundForm)) (m n : ℕ) → m ≤ n → IfSome p (λ bs. bindings_size bs ≤ m) → IfSome p (λ bs. bindings_size bs ≤ n)
at_most None m n h le = tt
at_most (Some bs) m n h le = omega (arith, h, le)

bound-size : (ds : List Datum) → IfSome (bound_forms ds) (λ bs. bindings_size bs ≤ forms_size ds)
bound-size [] = omega arith
bound-size (d ∷ []) = tt
bound-size (d ∷ e ∷ ds) =
    at_most (bound_forms (d ∷ e ∷ ds)) (3 * datum_size e + 1 + forms_size ds) (forms_size (d ∷ e ∷ ds))
    (omega (arith, forms_size-cons d (e ∷ ds), forms_size-cons e ds))
    (bound-step (simple_name d) (bound_forms ds) e (forms_size ds) (bound-size ds))

-- the parts are no larger than the forms
abbrev pub Sized : Option ShapeData → List Datum → Type 0
Sized o ds = IfSome o (λ s. shape_size s ≤ forms_size ds)

sole_form-quoted : (ds : List Datum) → Sized (option_map quoted (sole_form ds)) ds
sole_form-quoted [] = tt
sole_form-quoted (d ∷ []) = omega arith
sole_form-quoted (d ∷ e ∷ ds) = tt

sole_form-thrown : (ds : List Datum) → Sized (option_map thrown (sole_form ds)) ds
sole_form-thrown [] = tt
sole_form-thrown (d ∷ []) = omega (arith, forms_size-cons d [])
sole_form-thrown (d ∷ e ∷ ds) = tt

sole_form-computed : (ds : List Datum) → Sized (option_map computed_entry (sole_form ds)) ds
sole_form-computed [] = tt
sole_form-computed (d ∷ []) = omega (arith, forms_size-cons d [])
sole_form-computed (d ∷ e ∷ ds) = tt

entry-with : (o : Option (List ℕ)) (ds : List Datum) → 1 ≤ forms_size ds → Sized (option_map entry o) ds
entry-with None ds h = tt
entry-with (Some s) ds h = h

ns-sized : (ds : List Datum) → Sized (ns_shape ds) ds
ns-sized [] = tt
ns-sized (d ∷ []) = entry-with (symbol_name d) (d ∷ []) (omega (arith, forms_size-cons d []))
ns-sized (d ∷ e ∷ ds) = tt

if-sized : (ds : List Datum) → Sized (if_shape ds) ds
if-sized [] = tt
if-sized (c ∷ []) = tt
if-sized (c ∷ a ∷ []) = omega (arith, forms_size-cons c (a ∷ []))
if-sized (c ∷ a ∷ b ∷ []) = omega (arith, forms_size-cons c (a ∷ b ∷ []), forms_size-cons a (b ∷ []), forms_size-cons a [])
if-sized (c ∷ a ∷ b ∷ d ∷ ds) = tt

when-sized : (ds : List Datum) → Sized (when_shape ds) ds
when-sized [] = tt
when-sized (c ∷ ds) = omega (arith, forms_size-cons c ds)

let-with : (o : Option (List BoundForm)) (d : Datum) (ds : List Datum) → IfSome o (λ bs. bindings_size bs ≤ 3 * datum_size d) → Sized (option_map (λ bs. bindings bs ds) o) (d ∷ ds)
let-with None d ds h = tt
let-with (Some bs) d ds h = omega (arith, h, forms_size-cons d ds)

let-sized : (ds : List Datum) → Sized (let_shape ds) ds
unfolding in_vector
let-sized [] = tt
let-sized (vector es ∷ ds) =
    let-with (bound_forms (listed es)) (vector es) ds (at_most (bound_forms (listed es)) (forms_size (listed es)) (3 * datum_size (vector es)) (omega (arith, datum_size-vector es)) (bound-size (listed es)))
let-sized (nil ∷ ds) = tt
let-sized (boolean b ∷ ds) = tt
let-sized (integer n ∷ ds) = tt
let-sized (string s ∷ ds) = tt
let-sized (keyword s ∷ ds) = tt
let-sized (symbol s ∷ ds) = tt
let-sized (list es ∷ ds) = tt
let-sized (map ps ∷ ds) = tt
let-sized (ref owner n ∷ ds) = tt
let-sized (atom n ∷ ds) = tt
let-sized (agent n ∷ ds) = tt
let-sized (var space name ∷ ds) = tt
let-sized (fault class text ∷ ds) = tt

def-with : (o : Option (List ℕ)) (d : Datum) (ds : List Datum) → Sized (option_and_then (λ s. option_map (λ e. definition s e) (sole_form ds)) o) (d ∷ ds)
def-with None d ds = tt
def-with (Some s) d [] = tt
def-with (Some s) d (e ∷ []) = omega (arith, forms_size-cons d (e ∷ []), forms_size-cons e [])
def-with (Some s) d (e ∷ f ∷ ds) = tt

def-sized : (ds : List Datum) → Sized (def_shape ds) ds
def-sized [] = tt
def-sized (d ∷ ds) = def-with (simple_name d) d ds

function-with : (o : Option (List (List ℕ))) (name : List ℕ) (ds : List Datum) (n : ℕ) → 1 ≤ n
    → IfSome (option_map (λ names. function_definition name names ds) o) (λ s. shape_size s ≤ n)
function-with None name ds n h = tt
function-with (Some names) name ds n h = h

function-sized : (name : List ℕ) (ds : List Datum) (n : ℕ) → 1 ≤ n → IfSome (function_shape name ds) (λ s. shape_size s ≤ n)
function-sized name [] n h = tt
function-sized name (d ∷ ds) n h = function-with (option_and_then parameters (in_vector d)) name ds n h

defn-with : (o : Option (List ℕ)) (d : Datum) (ds : List Datum) → Sized (option_and_then (λ s. function_shape s (behind_name ds)) o) (d ∷ ds)
defn-with None d ds = tt
defn-with (Some s) d ds = function-sized s (behind_name ds) (forms_size (d ∷ ds)) (omega (arith, forms_size-cons d ds))

defn-sized : (ds : List Datum) → Sized (defn_shape ds) ds
defn-sized [] = tt
defn-sized (d ∷ ds) = defn-with (simple_name d) d ds

pub shape-sized : (special : SpecialForm) (ds : List Datum) → Sized (shape_of special ds) ds
shape-sized SpecialForm.And ds = omega arith
shape-sized SpecialForm.Or ds = omega arith
shape-sized SpecialForm.Do ds = omega arith
shape-sized SpecialForm.Dosync ds = omega arith
shape-sized SpecialForm.Io ds = omega arith
shape-sized SpecialForm.Quote ds = sole_form-quoted ds
shape-sized SpecialForm.Throw ds = sole_form-thrown ds
shape-sized SpecialForm.InNs ds = sole_form-computed ds
shape-sized SpecialForm.Ns ds = ns-sized ds
shape-sized SpecialForm.If ds = if-sized ds
shape-sized SpecialForm.When ds = when-sized ds
shape-sized SpecialForm.Let ds = let-sized ds
shape-sized SpecialForm.Def ds = def-sized ds
shape-sized SpecialForm.Defn ds = defn-sized ds

-- the same, of the code's parts
pub seen-sized : (o : Option Shape) (special : SpecialForm) (ds : List Datum) → option_map shape_view o ≡ shape_of special ds
    → IfSome o (λ s. shape_size (shape_view s) ≤ forms_size ds)
seen-sized None special ds h = tt
seen-sized (Some s) special ds h = subst (λ (o : Option ShapeData). Sized o ds) (sym h) (shape-sized special ds)

pub if_ok-sized : {E : Type 0} (special : SpecialForm) (ds : List Datum) (r : Result (Option Shape) E) → IfOk r (λ o. option_map shape_view o ≡ shape_of special ds)
    → IfOk r (λ o. IfSome o (λ s. shape_size (shape_view s) ≤ forms_size ds))
if_ok-sized special ds (Ok o) h = seen-sized o special ds h
if_ok-sized special ds (Err e) h = tt
