-- Changes are taken back, the newest first.
use Rattle.std.proofs.Common.{◌≡◌, ℕ, ◌<◌, ◌≤◌, List, [], ◌∷◌, ◌++◌, length, take, reverse, Option, Some, sym, ap, ◌∙◌, arith}
use Rattle.std.proofs.lemmas.List.{reverse-append}
use Rattle.std.specs.Prelude.{option_to_list, is_some, if◌then◌else◌}
use Rattle.bencode_wire.specs.Tree.{Tree}
use Rattle.bencode_wire.specs.Inside.Cut.{OpenContainer}
use Rattle.bencode_wire.specs.Inside.Places.{WasPut, value_of}
use Rattle.bencode_wire.specs.Inside.Reader.{frame_view, frames_view}
use Rattle.bencode_wire.specs.Inside.Undoing.{settled_view, Changes, ChangedFrames, WereBefore}
use Rattle.bencode_wire.specs.declared.cut.Change.{Change}
use Rattle.bencode_wire.specs.declared.cut.Frames.{Frames}
use Rattle.bencode_wire.specs.declared.cut.OpenContainer as code
use Rattle.bencode_wire.specs.declared.cut.Place.{Place}

-- what is left to take back, where the change taken back last had put a value
abbrev pub Left : List Change → List OpenContainer → Option Tree → List OpenContainer → Option Tree → Type 0
Left [] now value before first = (now ≡ before) × (first ≡ value)
Left (c ∷ cs) now value before first = ChangedFrames (c ∷ cs) before now first

put_long : (p : Place) (t : Tree) (before after : List OpenContainer) → WasPut p t before after → length after ≡ length before
put_long Place.Item t before after w = ap length w.3 ∙ sym (ap length w.2)
put_long Place.Key t before after w = ap length w.4 ∙ sym (ap length w.3)
put_long (Place.Value key) t before after w = ap length w.3 ∙ sym (ap length w.2)

change_long : (c : Change) (before after : List OpenContainer) (value : Option Tree) → Changes c before after value → length after ≤ length before
change_long (Change.Put p) before after value h = let same = put_long p h.0 before after h.1 in omega (arith, same)
change_long (Change.Ended p) before after value h =
    let same = put_long p (value_of h.0) h.1 after h.4 in
    let size : length before ≡ length (h.0 ∷ h.1) = ap length h.2 in
    omega (arith, same, size)

pub changed_long : (cs : List Change) (before now : List OpenContainer) (first : Option Tree) → ChangedFrames cs before now first → length now ≤ length before
changed_long [] before now first h = let same : length now ≡ length before = ap length h.0 in omega (arith, same)
changed_long (c ∷ []) before now first h = change_long c before now first h
changed_long (c ∷ d ∷ cs) before now first h =
    let newest = change_long c h.0 now h.1 h.2 in
    let others = changed_long (d ∷ cs) before h.0 first h.3 in
    omega (arith, newest, others)

-- the newest change
abbrev pub Newest : Change → List OpenContainer → ℕ → Type 0
Newest c now size = (before : List OpenContainer) × (value : Option Tree) × Changes c before now value × (length before ≤ size)

pub newest : (c : Change) (cs : List Change) (before now : List OpenContainer) (first : Option Tree) (size : ℕ) → ChangedFrames (c ∷ cs) before now first → length before ≡ size → Newest c now size
newest c [] before now first size h long = (before, first, h, omega (arith, long))
newest c (d ∷ cs) before now first size h long = let others = changed_long (d ∷ cs) before h.0 first h.3 in (h.0, h.1, h.2, omega (arith, others, long))

pub reverse-last : (cs : List Change) (c : Change) → reverse (cs ++ c ∷ []) ≡ c ∷ reverse cs
reverse-last cs c = reverse-append cs (c ∷ [])

pub ended_view : (f : Frames) (outermost : code.OpenContainer) → f.ended ≡ Some outermost → (f.live ≡ 0) × (settled_view f ≡ frame_view outermost ∷ [])
ended_view f outermost is =
    let live : f.live ≡ 0 = sym (ap (λ o. if is_some o then f.live else 0) is) ∙ f.ended_alone in (
      live,
      ap (λ o. frames_view (option_to_list o ++ take f.live f.settled.items)) is ∙ ap (λ n. frames_view (outermost ∷ take n f.settled.items)) live,
    )

pub outermost_room : (f : Frames) (outermost : code.OpenContainer) (before : List OpenContainer) (first : Option Tree) → f.ended ≡ Some outermost → WereBefore f before first
    → f.live < length f.settled.items
outermost_room f outermost before first is w =
    let view = ended_view f outermost is in
    let live = view.0 in
    let one : length (settled_view f) ≡ 1 = ap length view.1 in
    let long = changed_long (reverse f.changes.items) before (settled_view f) first w.0 in
    let all = w.1 in
    omega (arith, live, one, long, all)
