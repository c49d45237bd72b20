-- What the frames were before the last piece.
use Rattle.std.specs.Prelude.{◌≡◌, ◌⊎◌, ◌<◌, Bool, true, false, List, [], ◌∷◌, ◌++◌, length, take}
use Rattle.std.specs.Prelude.{Option, Some, None, option_to_list, reverse}
use Rattle.bencode_wire.specs.Tree.{Tree}
use Rattle.bencode_wire.specs.Inside.Cut.{OpenContainer, CanEnd}
use Rattle.bencode_wire.specs.Inside.Reader.{frames_view, live_frames_view, open_view}
use Rattle.bencode_wire.specs.Inside.Places.{WasPut, value_of}
use Rattle.bencode_wire.specs.declared.cut.Change.{Change}
use Rattle.bencode_wire.specs.declared.cut.Frames.{Frames}
use Rattle.bencode_wire.specs.declared.cut.Place.{Place}

-- those that were open before it, as far as it ended none of them
abbrev pub settled_view : Frames → List OpenContainer
settled_view f = frames_view (option_to_list f.ended ++ take f.live f.settled.items)

-- a change of these, and the value that it put
abbrev pub Changes : Change → List OpenContainer → List OpenContainer → Option Tree → Type 0
Changes (Change.Put place) before after value =
    (t : Tree) × WasPut place t before after × (value ≡ Some t)
Changes (Change.Ended place) before after value =
    (f : OpenContainer) × (outer : List OpenContainer) × (before ≡ f ∷ outer) × CanEnd f
    × WasPut place (value_of f) outer after × (value ≡ None)

-- these changes, the newest first, made of what was before what is now, and the first of them put
-- this value
abbrev pub ChangedFrames : List Change → List OpenContainer → List OpenContainer → Option Tree
    → Type 0
ChangedFrames [] before now first = (now ≡ before) × (first ≡ None)
ChangedFrames (c ∷ []) before now first = Changes c before now first
ChangedFrames (c ∷ d ∷ cs) before now first = (between : List OpenContainer) × (value : Option Tree)
    × Changes c between now value × ChangedFrames (d ∷ cs) before between first

abbrev pub WereBefore : Frames → List OpenContainer → Option Tree → Type 0
WereBefore f before first = ChangedFrames (reverse f.changes.items) before (settled_view f) first
    × (length before ≡ length f.settled.items)

-- what was before is untouched
pub record KeepsSettled (old new : Frames) : Type 0 where
  pub changes : new.changes.items ≡ old.changes.items
  pub settled : settled_view new ≡ settled_view old
  pub long : length new.settled.items ≡ length old.settled.items

-- nothing that shows has changed
pub record IsSame (old new : Frames) : Type 0 where
  pub kept : KeepsSettled old new
  pub ended : new.ended ≡ old.ended
  pub fresh : length new.fresh.items ≡ length old.fresh.items
  pub shown : open_view new ≡ open_view old

-- a change was written down
pub record Logs (change : Change) (value : Option Tree) (old new : Frames) : Type 0 where
  pub logged : new.changes.items ≡ old.changes.items ++ change ∷ []
  pub made : Changes change (settled_view old) (settled_view new) value
  pub long : length new.settled.items ≡ length old.settled.items

-- what is open was read on, and can be taken back
abbrev pub Undoable : Frames → Frames → Type 0
Undoable old new = KeepsSettled old new
    ⊎ ((change : Change) × (value : Option Tree) × Logs change value old new)

-- a value was put into the innermost, or nowhere where nothing is open
abbrev pub PutBy : Tree → Frames → Frames → Type 0
PutBy t old new = (KeepsSettled old new × ((0 < length old.fresh.items) ⊎ (open_view old ≡ [])))
    ⊎ ((place : Place) × Logs (Change.Put place) (Some t) old new)

abbrev pub change_at : Bool → Place → Change
change_at true place = Change.Ended place
change_at false place = Change.Put place

-- a value was put into the innermost of those that were open before
abbrev pub LogsPut : Bool → Tree → Frames → Frames → Type 0
LogsPut is_ended t old new = (place : Place)
    × (new.changes.items ≡ old.changes.items ++ change_at is_ended place ∷ [])
    × WasPut place t (live_frames_view old) (live_frames_view new)
