-- Bytes that are ASCII, and where a text may be cut.
use Rattle.std.proofs.Common.{◌≡◌, ℕ, suc, ◌+◌, ◌<◌, ◌≤◌, Bool, true, false, cond, not, List, [], ◌∷◌, length, get_or, drop, refl, sym, ap, ◌∙◌, arith, add-one, zero-add, subst, ◌++◌}
use Rattle.std.proofs.lemmas.Bool.Decides.{nat_tests}
use Rattle.std.proofs.lemmas.Str.{IsCharBoundary-past_char}
use Rattle.std.proofs.lemmas.List.Sums.{passes_at_first}
use Rattle.std.proofs.Math.Seq.{drop-cons}
use Rattle.std.specs.Str.{IsCharBoundary, IsUtf8}
use Rattle.std.specs.Char.{encode_utf8, len_utf8}
use Rattle.std.specs.List.{position_or_len}
use Rattle.repl_reader.specs.Text.{is_white, is_delimiter, ends_token, ends_plain}

-- white space, delimiters, and what ends plain characters are ASCII
pub white_ascii : (b : ℕ) → is_white b ≡ true → b < 128
unfolding is_white
white_ascii b e = grind (arith, nat_tests)

pub delimiter_ascii : (b : ℕ) → is_delimiter b ≡ true → b < 128
unfolding is_delimiter
delimiter_ascii b e = grind (arith, nat_tests)

pub ends_token_ascii : (b : ℕ) → ends_token b ≡ true → b < 128
unfolding ends_token is_white is_delimiter
ends_token_ascii b e = grind (arith, nat_tests)

pub ends_plain_ascii : (b : ℕ) → ends_plain b ≡ true → b < 128
ends_plain_ascii b e = grind (arith, nat_tests)

one_more : (t : Bool) (m n : ℕ) → m ≤ n → cond (not t) (1 + m) 0 ≤ suc n
one_more true m n h = omega arith
one_more false m n h = omega arith

position_or_len_le : (p : ℕ → Bool) (text : List ℕ) → position_or_len p text ≤ length text
position_or_len_le p [] = omega arith
position_or_len_le p (b ∷ bs) = one_more (p b) _ _ (position_or_len_le p bs)

-- the first byte that passes a test that only ASCII passes
module _ (p : ℕ → Bool) (ascii : (b : ℕ) → p b ≡ true → b < 128) where
  pub first_ascii : (text : List ℕ) → position_or_len p text < length text → get_or text (position_or_len p text) 0 < 128
  first_ascii text h = ascii _ (passes_at_first p text 0 h)

  pub cut_at_first : (text : List ℕ) → IsCharBoundary text (position_or_len p text)
  cut_at_first text = (position_or_len_le p text, λ h high. absurd (omega (arith, first_ascii text h, high)))

-- one byte further
pub drop_at : (text : List ℕ) (i : ℕ) → i < length text → drop i text ≡ get_or text i 0 ∷ drop (i + 1) text
drop_at text i h = drop-cons text i 0 h ∙ ap (λ k. get_or text i 0 ∷ drop k text) (sym (add-one i))

-- a text may be cut behind its first character
pub cut_behind_character : (text rest : List ℕ) (c : ℕ) → IsUtf8 text → text ≡ encode_utf8 c ++ rest → IsCharBoundary text (len_utf8 c)
cut_behind_character text rest c utf8 e = let P : ℕ → Type 0 = IsCharBoundary text in subst P (zero-add (len_utf8 c)) (IsCharBoundary-past_char text rest 0 c (omega arith) utf8 e)

-- what a text without bytes is
pub empty_is : (text : List ℕ) → length text ≡ 0 → text ≡ []
empty_is [] e = refl
empty_is (b ∷ bs) e = absurd (omega (arith, e))

-- a text by its first byte and the others
pub head_and_tail : (text : List ℕ) → 0 < length text → text ≡ get_or text 0 0 ∷ drop 1 text
head_and_tail [] h = absurd (omega (arith, h))
head_and_tail (b ∷ bs) h = refl
