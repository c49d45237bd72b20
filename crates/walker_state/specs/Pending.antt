-- What an evaluation has still to do, in the words of the definition.
use Rattle.std.specs.Prelude.{ℕ, List, ◌∷◌, true, false, Err, string_bytes}
use Rattle.std.specs.Arc.{arc_str_bytes, arc_value}
use Rattle.value_data.specs.Datum.{Datum, nil}
use Rattle.value_data.specs.Inside.View.{view, views}
use Rattle.repl_values.specs.Inside.FaultView.{failure_of}
use Rattle.repl_asks.specs.Exchange.{AnswerData, ResolutionData, resolution_in, value_in}
use Rattle.repl_asks.specs.Exchange.{reading_in, VerdictData, verdict_in, permission_in}
use Rattle.repl_asks.specs.Inside.View.{ask_view, name_view, sending_view}
use Rattle.repl_asks.specs.InteractionTree.{InteractionTree, asks}
use Rattle.special_forms.specs.Inside.Seen.{forms_view, function_view}
use Rattle.repl_asks.specs.Accesses.{nothing_noted}
use Rattle.evaluation_rules.specs.Doing.{Kept, Doing, Part, ◌|>◌, pure_part}
use Rattle.evaluation_rules.specs.Tree.{with_attempt, ends, written_tree}
use Rattle.evaluation_rules.specs.Places.{PlaceData}
use Rattle.evaluation_rules.specs.Naming.{resolution, as_value, as_function}
use Rattle.evaluation_rules.specs.Refs.{read_value, ensured_read, permitted_value}
use Rattle.evaluation_rules.specs.Atoms.{settled_value}
use Rattle.evaluation_rules.specs.Agents.{permitted_send}
use Rattle.evaluation_rules.specs.Calls.{named_call}
use Rattle.evaluation_rules.specs.Applying.{body_value}
use Rattle.evaluation_rules.specs.Transactions.{with_running, after_verdict, after_body}
use Rattle.evaluation_rules.specs.Evaluation.{value_at}
use Rattle.walker_state.specs.declared.frames.Frame.{Frame}
use Rattle.walker_state.specs.declared.frames.Transaction.{Transaction}
use Rattle.walker_state.specs.declared.frames.State.{State}
use Rattle.walker_state.specs.declared.frames.SymbolUse.{SymbolUse}
use Rattle.walker_state.specs.declared.frames.Wanted.{Wanted}
use Rattle.walker_state.specs.declared.frames.Control.{Control}
use Rattle.walker_state.specs.Frames.{place_view, update_with, frames_next, bottom, swap_again}
use Rattle.walker_state.specs.Frames.{swap_step}
use Rattle.walker_state.specs.UnderWay.{body_at, again, inside_attempt, is_running}

-- The state

abbrev pub place_of : State → PlaceData
place_of s = place_view s.place

abbrev pub next_of : State → Datum → Kept → Doing
next_of s = frames_next s.frames.items (place_of s)

abbrev pub kept_of : State → Kept
kept_of s = record {
  calls = s.calls;
  namespace = arc_str_bytes s.namespace;
  running = is_running s.transaction;
  retries = s.setting.retries;
  occasion = s.setting.occasion;
}

abbrev pub whole_at : State → PlaceData → Doing → InteractionTree
whole_at s p d = written_tree (string_bytes s.text) (inside_attempt s.setting s.transaction p d)

-- the whole, of which this is still done where the state stands
abbrev pub whole : State → Doing → InteractionTree
whole s d = whole_at s (bottom s.frames.items (place_of s)) d

-- a part of an evaluation that stands where the state stands
abbrev pub from_state : Part Datum → State → InteractionTree
from_state part s = whole s (part (next_of s) (kept_of s))

-- a value goes to a frame that was taken from the front
abbrev pub tree_with_value : Frame → Datum → State → InteractionTree
tree_with_value frame v s =
    whole_at s (bottom (frame ∷ s.frames.items) (place_of s))
    (frames_next (frame ∷ s.frames.items) (place_of s) v (kept_of s))

-- the call of the function that a symbol names
abbrev pub resolved_call : ℕ → PlaceData → List Datum → ResolutionData → Part Datum
resolved_call room p forms r = as_function r |> λ f. named_call (value_at room) p forms f

abbrev pub value_for_use : PlaceData → SymbolUse → ResolutionData → Part Datum
value_for_use p (SymbolUse.Value name) r = as_value (arc_str_bytes name) r
value_for_use p (SymbolUse.Head forms room) r = resolved_call room p (forms_view forms) r
value_for_use p (SymbolUse.Update by v forms room) r = as_function r
    |> update_with room p by (view v) (forms_view forms)

-- a symbol in its place
abbrev pub symbol_for_use : PlaceData → List ℕ → SymbolUse → Part Datum
symbol_for_use p s purpose = resolution p s |> value_for_use p purpose

-- what is done once an attempt of this transaction has begun, and its place is this one
abbrev pub begun_tree : Transaction → State → InteractionTree
begun_tree t s = written_tree (string_bytes s.text)
    (with_attempt (after_body (again s.setting t (place_of s))
    (frames_next t.frames.items (place_of s))) nothing_noted (body_at s.setting t (place_of s)))

abbrev pub kept_inside : State → Kept
kept_inside s = with_running true (kept_of s)

abbrev pub kept_outside : State → Kept
kept_outside s = with_running false (kept_of s)

-- what is done with the verdict on a body's value
abbrev pub settled_tree : Transaction → Datum → VerdictData → State → InteractionTree
settled_tree t d verdict s = written_tree (string_bytes s.text)
    (after_verdict (again s.setting t (place_of s) (kept_inside s)) d verdict
    (frames_next t.frames.items (place_of s)) (kept_outside s))

abbrev pub tree_with_answer : Wanted → AnswerData → State → InteractionTree
tree_with_answer (Wanted.Resolution purpose) answer s =
    from_state (value_for_use (place_of s) purpose (resolution_in answer)) s
tree_with_answer (Wanted.Completion v) answer s = from_state (pure_part (view v)) s
tree_with_answer (Wanted.Namespace name) answer s =
    whole s (next_of s nil (record (kept_of s) { namespace = arc_str_bytes name }))
tree_with_answer Wanted.Value answer s = from_state (pure_part (value_in answer)) s
tree_with_answer (Wanted.Permission v) answer s =
    from_state (permitted_value (view v) (permission_in answer)) s
tree_with_answer (Wanted.Sending sending) answer s =
    from_state (permitted_send (sending_view sending) (permission_in answer)) s
tree_with_answer (Wanted.Reading name) answer s =
    from_state (read_value (name_view name) (reading_in answer)) s
tree_with_answer (Wanted.Ensuring name) answer s =
    from_state (ensured_read (name_view name) (reading_in answer)) s
tree_with_answer (Wanted.Seen w) answer s = from_state (swap_step w.value (value_in answer)) s
tree_with_answer (Wanted.Tried w v) answer s =
    from_state (settled_value (swap_again w.value) (view v) (value_in answer)) s
tree_with_answer (Wanted.Begin t) answer s = begun_tree t.value s
tree_with_answer (Wanted.Verdict v t) answer s = settled_tree t.value (view v) (verdict_in answer) s

-- what is still done, from here
abbrev pub tree : Control → State → InteractionTree
tree (Control.Evaluate form room) s = from_state (value_at room (place_of s) (view form)) s
tree (Control.Return v) s = from_state (pure_part (view v)) s
tree (Control.Fault f) s = ends (Err (failure_of f)) (string_bytes s.text) (kept_of s)
tree (Control.Ask ask wanted) s = asks (ask_view ask) (λ answer. tree_with_answer wanted answer s)
tree (Control.Enter f values room) s =
    from_state (body_value (value_at room) (function_view (arc_value f)) (views values.items)) s
