-- The innermost of the frames.
use Rattle.std.proofs.Common.{◌≡◌, ℕ, ◌+◌, ◌-◌, ◌<◌, List, [], ◌∷◌, ◌++◌, length, length-append, map, reverse, refl, sym, ap, ◌∙◌, arith}
use Rattle.std.specs.List.{slice_set, slice_index_or}
use Rattle.std.proofs.lemmas.List.{map-append, reverse-append}
use Rattle.bencode_wire.specs.Inside.Cut as cuts
use Rattle.bencode_wire.specs.Inside.Reader.{frame_view, frames_view}
use Rattle.bencode_wire.specs.declared.cut.OpenContainer.{OpenContainer}

split : (f : OpenContainer) (fs : List OpenContainer) → (front : List OpenContainer) × (last : OpenContainer) × (f ∷ fs ≡ front ++ last ∷ [])
split f [] = ([], f, refl)
split f (g ∷ fs) = let s = split g fs in (f ∷ s.0, s.1, ap (λ xs. f ∷ xs) s.2)

pub split_any : (fs : List OpenContainer) → 0 < length fs → (front : List OpenContainer) × (last : OpenContainer) × (fs ≡ front ++ last ∷ [])
split_any [] h = absurd (omega arith)
split_any (f ∷ fs) h = split f fs

pub set_last : (front : List OpenContainer) (last f : OpenContainer) → slice_set (front ++ last ∷ []) (length front) f ≡ front ++ f ∷ []
set_last [] last f = refl
set_last (g ∷ front) last f = ap (λ xs. g ∷ xs) (set_last front last f)

pub get_last : (front : List OpenContainer) (last f : OpenContainer) → slice_index_or (front ++ last ∷ []) (length front) f ≡ last
get_last [] last f = refl
get_last (g ∷ front) last f = get_last front last f

pub view_last : (front : List OpenContainer) (last : OpenContainer) → frames_view (front ++ last ∷ []) ≡ frame_view last ∷ frames_view front
view_last front last = ap reverse (map-append frame_view front (last ∷ [])) ∙ reverse-append (map frame_view front) (frame_view last ∷ [])

-- the outer frames, and what stands where the innermost is changed
pub innermost : (fs : List OpenContainer) (n : ℕ) (f : OpenContainer) → n ≡ length fs → 0 < n → f ≡ slice_index_or fs (n - 1) f
    → (outer : List cuts.OpenContainer) × (frames_view fs ≡ frame_view f ∷ outer)
    × ((g : OpenContainer) → frames_view (slice_set fs (n - 1) g) ≡ frame_view g ∷ outer)
innermost fs n f count some is =
    let s = split_any fs (omega arith) in
    let front = s.0 in
    let last = s.1 in
    let size : length fs ≡ length front + 1 = ap length s.2 ∙ length-append front (last ∷ []) in
    let at : n - 1 ≡ length front = omega arith in
    let same : f ≡ last = is ∙ ap (λ k. slice_index_or fs k f) at ∙ ap (λ xs. slice_index_or xs (length front) f) s.2 ∙ get_last front last f in (
      frames_view front,
      ap frames_view s.2 ∙ view_last front last ∙ ap (λ x. frame_view x ∷ frames_view front) (sym same),
      λ g. ap frames_view (ap (λ k. slice_set fs k g) at ∙ ap (λ xs. slice_set xs (length front) g) s.2 ∙ set_last front last g) ∙ view_last front g,
    )
