-- A string is read by runs of plain characters.
use Rattle.std.proofs.Common.{◌≡◌, ℕ, ◌+◌, ◌<◌, Bool, true, false, cond, not, List, [], ◌∷◌, ◌++◌}
use Rattle.std.proofs.Common.{length, get_or, drop, take, refl, sym, ap, ◌∙◌, arith, append-nil}
use Rattle.std.proofs.Common.{append_assoc, one-add, length-drop}
use Rattle.std.specs.List.{position_or_len}
use Rattle.std.proofs.lemmas.Bool.Decides.{nat_tests}
use Rattle.std.proofs.lemmas.List.Sums.{passes_at_first}
use Rattle.repl_reader.proofs.Bytes.{drop_at}
use Rattle.repl_reader.specs.Text.{ends_plain}
use Rattle.repl_reader.specs.Reading.{Contents, closed, refused, with_leading_byte, contents}
use Rattle.repl_reader.specs.Reading.{string_of, breaks, is_escape, bad_escape}
use Rattle.repl_reader.specs.Inside.Quoted.{onto, string_from, escape_from}

behind_onto : (s : List ℕ) (b : ℕ) (c : Contents) → onto s (with_leading_byte b c) ≡ onto (s ++ b ∷ []) c
behind_onto s b (closed t rest) = ap (λ x. closed x rest) (sym (append_assoc s (b ∷ []) t))
behind_onto s b (refused f) = refl

-- a plain byte stands for itself
plain_contents : (b : ℕ) (bs : List ℕ) → ends_plain b ≡ false → contents (b ∷ bs) ≡ with_leading_byte b (contents bs)
plain_contents b bs e = grind (arith, nat_tests)

plain_byte : (s bs : List ℕ) (b : ℕ) → ends_plain b ≡ false → string_from s (b ∷ bs) ≡ string_from (s ++ b ∷ []) bs
plain_byte s bs b e = ap (λ c. string_of (onto s c)) (plain_contents b bs e) ∙ ap string_of (behind_onto s b (contents bs))

-- a run of plain characters goes into the string as it is
pub plain_run : (text s : List ℕ) → string_from (s ++ take (position_or_len ends_plain text) text) (drop (position_or_len ends_plain text) text) ≡ string_from s text
plain_run [] s = refl
plain_run (b ∷ bs) s = step (ends_plain b) refl (plain_run bs (s ++ b ∷ []))
  where
    step : (t : Bool) → t ≡ ends_plain b
        → string_from ((s ++ b ∷ []) ++ take (position_or_len ends_plain bs) bs) (drop (position_or_len ends_plain bs) bs) ≡ string_from (s ++ b ∷ []) bs
        → string_from (s ++ take (cond (not t) (1 + position_or_len ends_plain bs) 0) (b ∷ bs)) (drop (cond (not t) (1 + position_or_len ends_plain bs) 0) (b ∷ bs)) ≡ string_from s (b ∷ bs)
    step true e rest = ap (λ x. string_from x (b ∷ bs)) (append-nil s)
    step false e rest = rw one-add (ap (λ x. string_from x (drop (position_or_len ends_plain bs) bs)) (sym (append_assoc s (b ∷ []) (take (position_or_len ends_plain bs) bs))) ∙ rest ∙ sym (plain_byte s bs b (sym e)))

-- what stands behind such a run
pub plain_run_ends : (text : List ℕ) → 0 < length (drop (position_or_len ends_plain text) text) → ends_plain (get_or (drop (position_or_len ends_plain text) text) 0 0) ≡ true
plain_run_ends text h =
    let n = position_or_len ends_plain text in
    let inside : n < length text = omega (arith, length-drop n text) in
    rw (drop_at text n inside) (passes_at_first ends_plain text 0 inside)

-- a byte that escapes nothing
pub no_escape : (text : List ℕ) → is_escape (get_or text 0 0) ≡ false → (s : List ℕ) → escape_from s text ≡ breaks (bad_escape text)
unfolding bad_escape
no_escape [] e s = refl
no_escape (b ∷ bs) e s = rw e refl

pub no_escape_empty : (text : List ℕ) → length text < 1 → (s : List ℕ) → escape_from s text ≡ breaks (bad_escape text)
unfolding bad_escape
no_escape_empty [] h s = refl
no_escape_empty (b ∷ bs) h s = absurd (omega (arith, h))
