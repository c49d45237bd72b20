-- How much an evaluation has still to do, for the proof that it ends.
use Rattle.std.specs.Prelude.{ℕ, ◌+◌, ◌*◌, List, sum_by}
use Rattle.value_data.specs.Inside.View.{view}
use Rattle.special_forms.specs.Inside.Bindings.{bindings_in}
use Rattle.special_forms.specs.Inside.Seen.{forms_view}
use Rattle.special_forms.specs.Inside.Size.{datum_size, forms_size, bindings_size}
use Rattle.walker_state.specs.declared.frames.Frame.{Frame}
use Rattle.walker_state.specs.declared.frames.StoreFrame.{StoreFrame}
use Rattle.walker_state.specs.declared.frames.SymbolUse.{SymbolUse}
use Rattle.walker_state.specs.declared.frames.Wanted.{Wanted}
use Rattle.walker_state.specs.declared.frames.Control.{Control}

abbrev pub store_frame_size : StoreFrame → ℕ
store_frame_size (StoreFrame.UpdateTarget by function forms room) =
    6 + (3 * datum_size (view function) + forms_size (forms_view forms))
store_frame_size (StoreFrame.AlterCall by name f values room) = 3
store_frame_size (StoreFrame.Held name) = 1
store_frame_size (StoreFrame.Commuted name commute) = 1
store_frame_size (StoreFrame.Swapped w seen) = 3

abbrev pub frame_size : Frame → ℕ
frame_size (Frame.Arguments callee values forms room) = 5 + forms_size (forms_view forms)
frame_size (Frame.Collection kind values forms room) = 1 + forms_size (forms_view forms)
frame_size (Frame.Body forms room) = 1 + forms_size (forms_view forms)
frame_size (Frame.Choice consequent alternative room) =
    1 + (forms_size (forms_view consequent) + forms_size (forms_view alternative))
frame_size (Frame.Logic logic forms room) = 1 + forms_size (forms_view forms)
frame_size (Frame.Let name bindings body room) =
    2 + (bindings_size (bindings_in (forms_view bindings)) + forms_size (forms_view body))
frame_size (Frame.Define name) = 2
frame_size Frame.Throw = 1
frame_size Frame.Namespace = 2
frame_size (Frame.Store frame) = store_frame_size frame
frame_size Frame.Unbind = 1
frame_size (Frame.Leave place) = 1

abbrev pub frames_size : List Frame → ℕ
frames_size = sum_by frame_size

abbrev pub use_size : SymbolUse → ℕ
use_size (SymbolUse.Value name) = 2
use_size (SymbolUse.Head forms room) = 6 + forms_size (forms_view forms)
use_size (SymbolUse.Update by v forms room) = 6 + forms_size (forms_view forms)

abbrev pub wanted_size : Wanted → ℕ
wanted_size (Wanted.Resolution purpose) = use_size purpose
wanted_size (Wanted.Completion v) = 2
wanted_size (Wanted.Namespace name) = 2
wanted_size Wanted.Value = 2
wanted_size (Wanted.Permission v) = 2
wanted_size (Wanted.Sending sending) = 2
wanted_size (Wanted.Reading name) = 2
wanted_size (Wanted.Ensuring name) = 2
wanted_size (Wanted.Seen w) = 2
wanted_size (Wanted.Tried w v) = 3
wanted_size (Wanted.Begin t) = 2 + frames_size t.value.frames.items
wanted_size (Wanted.Verdict v t) = 0

abbrev pub control_size : Control → ℕ
control_size (Control.Evaluate form room) = 3 * datum_size (view form)
control_size (Control.Return v) = 1
control_size (Control.Fault f) = 0
control_size (Control.Ask ask wanted) = wanted_size wanted
control_size (Control.Enter function values room) = 0
