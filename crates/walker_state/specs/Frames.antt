-- What frames do with the value that they wait for, in the words of the definition.
use Rattle.std.specs.Prelude.{drop, ℕ, zero, suc, List, [], ◌∷◌, ◌++◌, Option, option_map}
use Rattle.std.specs.Prelude.{if◌then◌else◌}
use Rattle.std.specs.Arc.{arc_str_bytes}
use Rattle.value_data.specs.Datum.{Datum, nil, list, no_items}
use Rattle.value_data.specs.Inside.View.{view, views}
use Rattle.repl_values.specs.Failure as failures
use Rattle.repl_asks.specs.Transactions.{RefNameData}
use Rattle.repl_asks.specs.Exchange.{bound_value, ResolutionData, NamedFunctionData}
use Rattle.repl_asks.specs.Inside.View.{commute_view, name_view, named_view, resolution_view}
use Rattle.repl_asks.specs.declared.answer.Resolution.{Resolution}
use Rattle.special_forms.specs.Inside.Bindings.{bindings_in}
use Rattle.special_forms.specs.Truth.{is_truthy}
use Rattle.special_forms.specs.Inside.Seen.{forms_view}
use Rattle.evaluation_rules.specs.declared.altering.Alteration.{Alteration}
use Rattle.evaluation_rules.specs.declared.updating.Update.{Update}
use Rattle.evaluation_rules.specs.Doing.{Kept, Doing, gave, left, Part, ◌|>◌, pure_part, fails}
use Rattle.evaluation_rules.specs.Places.{PlaceData, with_local}
use Rattle.evaluation_rules.specs.Rows.{row, value_of_last}
use Rattle.evaluation_rules.specs.Naming.{function_value}
use Rattle.evaluation_rules.specs.Refs.{held_value}
use Rattle.evaluation_rules.specs.Applying.{CalleeData, named_callee, keyword_callee}
use Rattle.evaluation_rules.specs.Applying.{update_callee}
use Rattle.evaluation_rules.specs.Atoms.{tried_value, seen_value, swapped_value}
use Rattle.evaluation_rules.specs.Calls.{alteration_value, commute_noted, counted_call}
use Rattle.evaluation_rules.specs.SpecialForms.{logic_value, let_value, definition_value}
use Rattle.evaluation_rules.specs.SpecialForms.{thrown_value, computed_entry_value}
use Rattle.evaluation_rules.specs.Collections.{vector_value, map_value}
use Rattle.evaluation_rules.specs.Evaluation.{list_value, value_at}
use Rattle.walker_state.specs.declared.frames.Place.{Place}
use Rattle.walker_state.specs.declared.frames.Callee.{Callee}
use Rattle.walker_state.specs.declared.frames.Collection.{Collection}
use Rattle.walker_state.specs.declared.frames.Frame.{Frame}
use Rattle.walker_state.specs.declared.frames.StoreFrame.{StoreFrame}
use Rattle.walker_state.specs.declared.frames.Swap.{Swap}

abbrev pub place_view : Place → PlaceData
place_view p = record { locals = p.locals; home = option_map arc_str_bytes p.home }

abbrev pub known_view : Option Resolution → Option ResolutionData
known_view = option_map resolution_view

abbrev pub callee_view : Callee → CalleeData
callee_view (Callee.Named f) = named_callee (named_view f)
callee_view (Callee.Keyword s) = keyword_callee (arc_str_bytes s)
callee_view (Callee.Update by f) = update_callee by (named_view f)

abbrev pub collection_value : Collection → List Datum → Part Datum
collection_value Collection.Vector = vector_value
collection_value Collection.Map = map_value

-- the items of a vector, or the keys and values of a map
abbrev pub items_value : ℕ → PlaceData → Collection → List Datum → Part Datum
items_value zero p kind ds = fails failures.too_deep
items_value (suc room) p kind ds = row (value_at room p) ds |> collection_value kind

abbrev pub list_at : ℕ → PlaceData → List Datum → Part Datum
list_at room p [] = pure_part (list no_items)
list_at zero p (d ∷ ds) = fails failures.too_deep
list_at (suc room) p (d ∷ ds) = list_value (value_at room) p d ds

abbrev pub without_local : PlaceData → PlaceData
without_local p = record { locals = drop 1 p.locals; home = p.home }

-- arguments behind those that have values
unfoldable pub call_behind : ℕ → PlaceData → CalleeData → List Datum → List Datum → Part Datum
call_behind room p callee values forms next =
    row (value_at room p) forms (λ vs. counted_call (value_at room) callee (values ++ vs) next)

-- items behind those that have values
unfoldable pub items_behind : ℕ → PlaceData → Collection → List Datum → List Datum → Part Datum
items_behind room p kind values forms next =
    row (value_at room p) forms (λ vs. collection_value kind (values ++ vs) next)

-- the arguments of `alter`, `commute`, `swap!`, `send` or `send-off` behind the function, and the
-- call
abbrev pub update_with : ℕ → PlaceData → Update → Datum → List Datum → NamedFunctionData → Part Datum
update_with room p by d forms f =
    row (value_at room p) forms |> λ vs. counted_call (value_at room) (update_callee by f) (d ∷ vs)

-- one of them behind its first argument
unfoldable pub update_behind : ℕ → PlaceData → Update → Datum → Datum → List Datum → Part Datum
update_behind room p by d function forms =
    function_value p function |> update_with room p by d forms

-- `alter` or `commute` behind the value of its ref
unfoldable pub alter_step : ℕ → Alteration → RefNameData → NamedFunctionData → List Datum → Datum
    → Part Datum
alter_step room by name f args d = alteration_value (value_at room) by f args name d

-- the tries of `swap!` that are left
unfoldable pub swap_again : Swap → Part Datum
swap_again w = swapped_value w.left (value_at w.room) (named_view w.function)
    (views w.arguments.items) w.atom

-- `swap!` behind the value of its atom
unfoldable pub swap_step : Swap → Datum → Part Datum
swap_step w seen = seen_value (value_at w.room) (named_view w.function) (views w.arguments.items)
    w.atom (swap_again w) seen

-- what a function that asks the store does with the value
abbrev pub store_next : StoreFrame → PlaceData → Datum → Part Datum
store_next (StoreFrame.UpdateTarget by function forms room) p v =
    update_behind room p by v (view function) (forms_view forms)
store_next (StoreFrame.AlterCall by name f values room) p v =
    alter_step room by (name_view name) (named_view f) (views values.items) v
store_next (StoreFrame.Held name) p v = held_value (name_view name) v
store_next (StoreFrame.Commuted name commute) p v =
    commute_noted (name_view name) (commute_view commute) v
store_next (StoreFrame.Swapped w seen) p v =
    tried_value w.value.atom (view seen) (swap_again w.value) v

-- what is done with the value of the innermost form
abbrev pub frames_next : List Frame → PlaceData → Datum → Kept → Doing
frames_next [] p v kept = left (gave v) kept
frames_next (Frame.Arguments callee values forms room ∷ frames) p v kept =
    call_behind room p (callee_view callee) (views values.items ++ v ∷ []) (forms_view forms)
    (frames_next frames p) kept
frames_next (Frame.Collection kind values forms room ∷ frames) p v kept =
    items_behind room p kind (views values.items ++ v ∷ []) (forms_view forms)
    (frames_next frames p) kept
frames_next (Frame.Body forms room ∷ frames) p v kept =
    value_of_last (value_at room p) v (forms_view forms) (frames_next frames p) kept
frames_next (Frame.Choice consequent alternative room ∷ frames) p v kept =
    value_of_last (value_at room p) nil (if is_truthy v then forms_view consequent
    else forms_view alternative) (frames_next frames p) kept
frames_next (Frame.Logic which forms room ∷ frames) p v kept =
    logic_value (value_at room p) which v (forms_view forms) (frames_next frames p) kept
frames_next (Frame.Let name bindings body room ∷ frames) p v kept =
    let_value (value_at room) (with_local p (arc_str_bytes name) v)
    (bindings_in (forms_view bindings)) (forms_view body)
    (frames_next frames p) kept
frames_next (Frame.Define name ∷ frames) p v kept =
    definition_value p (arc_str_bytes name) (bound_value v) (frames_next frames p) kept
frames_next (Frame.Throw ∷ frames) p v kept = thrown_value v (frames_next frames p) kept
frames_next (Frame.Namespace ∷ frames) p v kept = computed_entry_value v (frames_next frames p) kept
frames_next (Frame.Store frame ∷ frames) p v kept = store_next frame p v (frames_next frames p) kept
frames_next (Frame.Unbind ∷ frames) p v kept = frames_next frames (without_local p) v kept
frames_next (Frame.Leave place ∷ frames) p v kept = frames_next frames (place_view place) v kept

-- the place behind a frame
abbrev pub behind_frame : Frame → PlaceData → PlaceData
behind_frame Frame.Unbind p = without_local p
behind_frame (Frame.Leave place) p = place_view place
behind_frame frame p = p

-- the place in which the frames leave what they give: that of the transaction, or of the whole
abbrev pub bottom : List Frame → PlaceData → PlaceData
bottom [] p = p
bottom (frame ∷ frames) p = bottom frames (behind_frame frame p)
