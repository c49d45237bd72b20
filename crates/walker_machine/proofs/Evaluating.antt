-- Forms in a row, of which some have values already.
use mathlib.Core.Path.{fun_ext}
use Rattle.std.specs.Prelude.{string_bytes, codes, ◌==◌}
use Rattle.std.proofs.Common.{◌≡◌, ◌≢◌, ℕ, ◌-◌, Bool, true, false, if◌then◌else◌, Option, Some}
use Rattle.std.proofs.Common.{None, MatchOption, subst, Result, Ok, Err, IfOk, List, [], ◌∷◌, ◌++◌}
use Rattle.std.proofs.Common.{refl, sym, ap, ◌∙◌, append_assoc, append-nil, zero, suc, length}
use Rattle.std.proofs.Common.{arith}
use Rattle.std.proofs.lemmas.List.{map-append, length-map}
use Rattle.std.proofs.lemmas.Bool.Decides.{nat_tests}
use Rattle.value_data.specs.Datum.{Datum, Items, no_items, item, Pairs, list, vector, map}
use Rattle.value_data.specs.Listed.{listed}
use Rattle.value_data.specs.Inside.View.{view, views}
use Rattle.value_data.specs.declared.value.Value as value
use Rattle.value_data.proofs.Lists.{lists}
use Rattle.value_data.proofs.Views.{value_views}
use Rattle.repl_values.specs.Failure.{Failure, wrong_arity}
use Rattle.special_forms.proofs.Sizes.{datum_size-pos, datum_size-list, datum_size-vector}
use Rattle.special_forms.proofs.Sizes.{datum_size-map}
use Rattle.special_forms.specs.Functions.{FunctionData}
use Rattle.special_forms.specs.Rows.{BoundForm, in_a_row}
use Rattle.special_forms.specs.Inside.Seen.{forms_view, let_binding_view}
use Rattle.special_forms.specs.declared.forms.LetBinding.{LetBinding}
use Rattle.special_forms.specs.declared.forms.Forms.{Forms}
use Rattle.evaluation_rules.specs.Doing.{Kept, Doing, Part}
use Rattle.walker_state.proofs.Stepping.{fails-at}
use Rattle.repl_asks.specs.InteractionTree.{InteractionTree}
use Rattle.evaluation_rules.specs.Tree.{ends}
use Rattle.evaluation_rules.specs.Places.{PlaceData, Evaluator}
use Rattle.evaluation_rules.specs.Calls.{call_value, counted_call}
use Rattle.evaluation_rules.specs.Applying.{CalleeData, keyword_call, program_call}
use Rattle.evaluation_rules.specs.Rows.{row}
use Rattle.evaluation_rules.specs.Evaluation.{list_value, value_at}
use Rattle.walker_state.specs.Pending.{kept_of, from_state}
use Rattle.walker_state.specs.Frames.{collection_value, items_value, list_at, call_behind}
use Rattle.walker_state.specs.Frames.{items_behind}
use Rattle.walker_state.specs.declared.frames.Collection.{Collection}
use Rattle.walker_state.specs.declared.frames.State.{State}

-- one more form has its value
row_step : (walk : Datum → Part Datum) (then_ : List Datum → Kept → Doing) (values : List Datum) (d : Datum) (ds : List Datum)
    → row walk (d ∷ ds) (λ vs. then_ (values ++ vs)) ≡ walk d (λ v. row walk ds (λ vs. then_ ((values ++ v ∷ []) ++ vs)))
row_step walk then_ values d ds =
    ap (walk d) (fun_ext (λ v. ap (row walk ds) (fun_ext (λ vs. ap then_ (sym (append_assoc values (v ∷ []) vs))))))

pub call_step : (room : ℕ) (p : PlaceData) (callee : CalleeData) (values : List Datum) (d : Datum) (ds : List Datum) (next : Datum → Kept → Doing)
    → call_behind room p callee values (d ∷ ds) next ≡ value_at room p d (λ v. call_behind room p callee (values ++ v ∷ []) ds next)
unfolding call_behind
call_step room p callee values d ds next = row_step (value_at room p) (λ vs. counted_call (value_at room) callee vs next) values d ds

pub items_step : (room : ℕ) (p : PlaceData) (kind : Collection) (values : List Datum) (d : Datum) (ds : List Datum) (next : Datum → Kept → Doing)
    → items_behind room p kind values (d ∷ ds) next ≡ value_at room p d (λ v. items_behind room p kind (values ++ v ∷ []) ds next)
unfolding items_behind
items_step room p kind values d ds next = row_step (value_at room p) (λ vs. collection_value kind vs next) values d ds

pub call_last : (room : ℕ) (p : PlaceData) (callee : CalleeData) (values : List Datum) (next : Datum → Kept → Doing)
    → call_behind room p callee values [] next ≡ counted_call (value_at room) callee values next
unfolding call_behind
call_last room p callee values next = ap (λ vs. counted_call (value_at room) callee vs next) (append-nil values)

pub items_last : (room : ℕ) (p : PlaceData) (kind : Collection) (values : List Datum) (next : Datum → Kept → Doing)
    → items_behind room p kind values [] next ≡ collection_value kind values next
unfolding items_behind
items_last room p kind values next = ap (λ vs. collection_value kind vs next) (append-nil values)

pub views-last : (vs : List value.Value) (v : value.Value) → views (vs ++ v ∷ []) ≡ views vs ++ view v ∷ []
views-last vs v = map-append view vs (v ∷ [])

pub ruleset steps = (value_views, lists, call_step, items_step, call_last, items_last)

pub list-at : (room : ℕ) (p : PlaceData) (ds : Items) → value_at room p (list ds) ≡ list_at room p (listed ds)
list-at room p no_items = refl
list-at zero p (item d ds) = refl
list-at (suc room) p (item d ds) = refl

pub vector-at : (room : ℕ) (p : PlaceData) (ds : Items) → value_at room p (vector ds) ≡ items_value room p Collection.Vector (listed ds)
vector-at zero p ds = refl
vector-at (suc room) p ds = refl

pub map-at : (room : ℕ) (p : PlaceData) (ps : Pairs) → value_at room p (map ps) ≡ items_value room p Collection.Map (in_a_row ps)
map-at zero p ps = refl
map-at (suc room) p ps = refl

pub ruleset first_steps = (value_views, list-at, vector-at, map-at, datum_size-pos, datum_size-list, datum_size-vector, datum_size-map)

-- what comes next is the one, and so the other
pub if_ok-turned : {A E : Type 0} (F : A → InteractionTree) {t u : InteractionTree} (r : Result A E) → t ≡ u → IfOk r (λ a. F a ≡ t) → IfOk r (λ a. F a ≡ u)
if_ok-turned F (Ok a) turned h = h ∙ turned
if_ok-turned F (Err e) turned h = tt

-- no argument has its value yet
pub call_start : (room : ℕ) (p : PlaceData) (callee : CalleeData) (ds : List Datum) (next : Datum → Kept → Doing)
    → call_behind room p callee [] ds next ≡ call_value (value_at room) p ds callee next
unfolding call_behind
call_start room p callee ds next = refl

pub forms-chosen : (b : Bool) (consequent alternative body : Forms) → body ≡ (if b then consequent else alternative)
    → forms_view body ≡ (if b then forms_view consequent else forms_view alternative)
forms-chosen true consequent alternative body chosen = ap forms_view chosen
forms-chosen false consequent alternative body chosen = ap forms_view chosen

-- a form that was taken from the front
pub form-taken : (X : Type 0) (o : Option value.Value) (v : value.Value) (old new : List Datum) → MatchOption o X (λ form. old ≡ view form ∷ new) → o ≡ Some v → old ≡ view v ∷ new
form-taken X o v old new told is = let P : Option value.Value → Type 0 = λ p. MatchOption p X (λ form. old ≡ view form ∷ new) in subst P is told

-- where there was none
pub none-taken : (X : Type 0) (Y : value.Value → Type 0) (o : Option value.Value) → MatchOption o X Y → o ≡ None → X
none-taken X Y o told is = let P : Option value.Value → Type 0 = λ p. MatchOption p X Y in subst P is told

-- and so of a name and a form of `let`
pub binding-taken : (X : Type 0) (o : Option LetBinding) (b : LetBinding) (old new : List BoundForm)
    → MatchOption o X (λ bound. old ≡ let_binding_view bound ∷ new) → o ≡ Some b → old ≡ let_binding_view b ∷ new
binding-taken X o b old new told is =
    let P : Option LetBinding → Type 0 = λ p. MatchOption p X (λ bound. old ≡ let_binding_view bound ∷ new) in subst P is told

pub program_call-misfits : (walk : Evaluator) (g : FunctionData) (vs : List value.Value) (told : Failure) (s : State) → length g.params ≢ length vs
    → told ≡ wrong_arity (g.space ++ codes "/" ++ g.name) (length vs)
    → ends (Err told) (string_bytes s.text) (kept_of s) ≡ from_state (program_call walk g (views vs)) s
unfolding program_call
program_call-misfits walk g vs told s other is =
    let test : (length g.params == length vs) ≡ false = grind (arith, nat_tests, other) in
    rw (length-map vs view, test, is) (sym (fails-at (wrong_arity (g.space ++ codes "/" ++ g.name) (length vs)) s))

pub keyword_call-misfits : (name : List ℕ) (vs : List value.Value) (told : Failure) (s : State) → length vs ≢ 1 → length vs ≢ 2
    → told ≡ wrong_arity (codes ":" ++ name) (length vs) → ends (Err told) (string_bytes s.text) (kept_of s) ≡ from_state (keyword_call name (views vs)) s
unfolding keyword_call
keyword_call-misfits name vs told s not_one not_two is =
    let one : (length vs == 1) ≡ false = grind (arith, nat_tests, not_one) in
    let two : (length vs == 2) ≡ false = grind (arith, nat_tests, not_two) in
    rw (length-map vs view, one, two, is) (sym (fails-at (wrong_arity (codes ":" ++ name) (length vs)) s))

-- a list that is not too deep
pub list-behind : (room : ℕ) (p : PlaceData) (d : Datum) (ds : List Datum) → (room ≡ 0 → ⊥)
    → list_at room p (d ∷ ds) ≡ list_value (value_at (room - 1)) p d ds
list-behind zero p d ds some = absurd (some refl)
list-behind (suc n) p d ds some =
    let e : suc n - 1 ≡ n = omega arith in
    ap (λ (m : ℕ). list_value (value_at m) p d ds) (sym e)
