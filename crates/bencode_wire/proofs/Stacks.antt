-- The frames as stacks: those that were open before the last piece, and those that were opened since.
use Rattle.std.proofs.Common.{◌≡◌, ℕ, ◌+◌, ◌-◌, ◌<◌, ◌≤◌, List, [], ◌∷◌, ◌++◌, length, length-append, take, vec_len, rules, sym, ap, ◌∙◌, arith, append_assoc}
use Rattle.std.specs.List.{slice_set, slice_index_or}
use Rattle.std.proofs.lemmas.List.{take_more, take_more_set}
use Rattle.bencode_wire.specs.Inside.Cut as cuts
use Rattle.bencode_wire.specs.Inside.Reader.{frame_view, frames_view, open_view}
use Rattle.bencode_wire.specs.declared.cut.Frames.{Frames}
use Rattle.bencode_wire.specs.declared.cut.OpenContainer.{OpenContainer}
use Rattle.bencode_wire.proofs.Innermost.{view_last, split_any, set_last, get_last}

-- the innermost of the first n
pub innermost_of : (xs : List OpenContainer) (n : ℕ) (d : OpenContainer) → 0 < n → n ≤ length xs
    → frames_view (take n xs) ≡ frame_view (slice_index_or xs (n - 1) d) ∷ frames_view (take (n - 1) xs)
innermost_of xs n d some within =
    let at : n ≡ (n - 1) + 1 = omega arith in
    let inside : n - 1 < length xs = omega arith in
    ap (λ k. frames_view (take k xs)) at ∙ ap frames_view (take_more xs (n - 1) d inside) ∙ view_last (take (n - 1) xs) (slice_index_or xs (n - 1) d)

-- the first n where the innermost of them is changed
pub innermost_set : (xs : List OpenContainer) (n : ℕ) (g : OpenContainer) → 0 < n → n ≤ length xs
    → frames_view (take n (slice_set xs (n - 1) g)) ≡ frame_view g ∷ frames_view (take (n - 1) xs)
innermost_set xs n g some within =
    let at : n ≡ (n - 1) + 1 = omega arith in
    let inside : n - 1 < length xs = omega arith in
    ap (λ k. frames_view (take k (slice_set xs (n - 1) g))) at ∙ ap frames_view (take_more_set xs (n - 1) g inside) ∙ view_last (take (n - 1) xs) g

-- the innermost of those that were opened since, and what stands where it is changed
pub innermost_behind : (settled fresh : List OpenContainer) (n : ℕ) (f : OpenContainer) → n ≡ length fresh → 0 < n → f ≡ slice_index_or fresh (n - 1) f
    → (outer : List cuts.OpenContainer) × (frames_view (settled ++ fresh) ≡ frame_view f ∷ outer)
    × ((g : OpenContainer) → frames_view (settled ++ slice_set fresh (n - 1) g) ≡ frame_view g ∷ outer)
innermost_behind settled fresh n f count some is =
    let s = split_any fresh (omega arith) in
    let front = s.0 in
    let last = s.1 in
    let size : length fresh ≡ length front + 1 = ap length s.2 ∙ length-append front (last ∷ []) in
    let at : n - 1 ≡ length front = omega arith in
    let same : f ≡ last = is ∙ ap (λ k. slice_index_or fresh k f) at ∙ ap (λ xs. slice_index_or xs (length front) f) s.2 ∙ get_last front last f in
    let behind : (g : OpenContainer) → frames_view (settled ++ (front ++ g ∷ [])) ≡ frame_view g ∷ frames_view (settled ++ front) =
    λ g. ap frames_view (sym (append_assoc settled front (g ∷ []))) ∙ view_last (settled ++ front) g in (
      frames_view (settled ++ front),
      ap (λ xs. frames_view (settled ++ xs)) s.2 ∙ behind last ∙ ap (λ x. frame_view x ∷ frames_view (settled ++ front)) (sym same),
      λ g. ap (λ xs. frames_view (settled ++ xs)) (ap (λ k. slice_set fresh k g) at ∙ ap (λ xs. slice_set xs (length front) g) s.2 ∙ set_last front last g) ∙ behind g,
    )

-- the innermost, where some were opened since
pub innermost_fresh : (f : Frames) (g : OpenContainer) → 0 < vec_len f.fresh → g ≡ slice_index_or f.fresh.items (vec_len f.fresh - 1) g
    → (outer : List cuts.OpenContainer) × (open_view f ≡ frame_view g ∷ outer)
    × ((h : OpenContainer) → frames_view (take f.live f.settled.items ++ slice_set f.fresh.items (vec_len f.fresh - 1) h) ≡ frame_view h ∷ outer)
innermost_fresh f g some is = innermost_behind (take f.live f.settled.items) f.fresh.items (vec_len f.fresh) g (search rules) some is
