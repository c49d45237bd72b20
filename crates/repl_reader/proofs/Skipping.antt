-- One byte of white space or of a comment.
use Rattle.std.proofs.Common.{◌≡◌, ℕ, ◌+◌, ◌<◌, ◌≢◌, Bool, true, false, cond, not, eqb, List, ◌∷◌, length, get_or, drop, refl, sym, ap, ◌∙◌, arith}
use Rattle.std.specs.Str.{IsCharBoundary, IsUtf8}
use Rattle.std.proofs.lemmas.Str.{IsCharBoundary-after_ascii}
use Rattle.std.proofs.lemmas.Bool.Decides.{nat_tests}
use Rattle.repl_reader.specs.Text.{is_white, bare, after_comment}
use Rattle.repl_reader.proofs.Bytes.{drop_at}

-- what is left, inside a comment or outside of one
abbrev pub skipped : Bool → List ℕ → List ℕ
skipped comment text = cond comment (after_comment text) (bare text)

swapped : (t : Bool) (x y : List ℕ) → cond (not t) x y ≡ cond t y x
swapped true x y = refl
swapped false x y = refl

module _ (text : List ℕ) (i : ℕ) (inside : i < length text) where
  pub in_comment : skipped (not (eqb (get_or text i 0) 10)) (drop (i + 1) text) ≡ after_comment (drop i text)
  in_comment = swapped (eqb (get_or text i 0) 10) _ _ ∙ ap after_comment (sym (drop_at text i inside))

  pub at_comment : get_or text i 0 ≡ 59 → after_comment (drop (i + 1) text) ≡ bare (drop i text)
  at_comment e = sym (ap bare (drop_at text i inside) ∙ ap (λ b. bare (b ∷ drop (i + 1) text)) e)

  pub at_white : is_white (get_or text i 0) ≡ true → get_or text i 0 ≢ 59 → bare (drop (i + 1) text) ≡ bare (drop i text)
  at_white white other = sym (ap bare (drop_at text i inside) ∙ grind (arith, nat_tests))

  pub at_other : is_white (get_or text i 0) ≡ false → get_or text i 0 ≢ 59 → drop i text ≡ bare (drop i text)
  at_other dark other = drop_at text i inside ∙ sym (ap bare (drop_at text i inside) ∙ grind (arith, nat_tests))

  pub cut_behind : IsUtf8 text → get_or text i 0 < 128 → IsCharBoundary text (i + 1)
  cut_behind utf8 ascii = IsCharBoundary-after_ascii text i utf8 inside ascii

pub newline : (b : ℕ) → not (eqb b 10) ≡ false → b < 128
newline b e = grind (arith, nat_tests)
