-- A character has its escape, or stands as it is: no byte of a longer character is one that has an escape.
use Rattle.std.proofs.Common.{◌≡◌, ◌≢◌, ℕ, ◌+◌, ◌/◌, ◌%◌, ◌≤◌, Bool, true, false, cond, ltb, List, [], ◌∷◌, codes, refl, arith}
use Rattle.std.specs.Char.{encode_utf8}
use Rattle.std.proofs.lemmas.Bool.Decides.{nat_tests}
use Rattle.repl_values.specs.Print.{escaped_byte, escaped}

escaped_byte-high : (b : ℕ) → 128 ≤ b → escaped_byte b ≡ b ∷ []
unfolding escaped_byte
escaped_byte-high b high = grind (arith, nat_tests)

abbrev pub HasNoEscape : ℕ → Type 0
HasNoEscape c = (c ≢ 34) × (c ≢ 92) × (c ≢ 10) × (c ≢ 9) × (c ≢ 13) × (c ≢ 12) × (c ≢ 8)

escaped_byte-plain : (b : ℕ) → b ≢ 34 → b ≢ 92 → b ≢ 10 → b ≢ 9 → b ≢ 13 → b ≢ 12 → b ≢ 8 → escaped_byte b ≡ b ∷ []
unfolding escaped_byte
escaped_byte-plain b n1 n2 n3 n4 n5 n6 n7 = grind (arith, nat_tests)

encoded : (x y z : Bool) (c b1 b2 b3 b4 b5 b6 b7 b8 b9 : ℕ) → (x ≡ true → escaped_byte c ≡ c ∷ [])
    → 128 ≤ b1 → 128 ≤ b2 → 128 ≤ b3 → 128 ≤ b4 → 128 ≤ b5 → 128 ≤ b6 → 128 ≤ b7 → 128 ≤ b8 → 128 ≤ b9
    → (text : List ℕ) → text ≡ cond x (c ∷ []) (cond y (b1 ∷ b2 ∷ []) (cond z (b3 ∷ b4 ∷ b5 ∷ []) (b6 ∷ b7 ∷ b8 ∷ b9 ∷ [])))
    → escaped text ≡ text
encoded true y z c b1 b2 b3 b4 b5 b6 b7 b8 b9 plain h1 h2 h3 h4 h5 h6 h7 h8 h9 text e = rw (e, plain refl) refl
encoded false true z c b1 b2 b3 b4 b5 b6 b7 b8 b9 plain h1 h2 h3 h4 h5 h6 h7 h8 h9 text e =
    rw (e, escaped_byte-high b1 h1, escaped_byte-high b2 h2) refl
encoded false false true c b1 b2 b3 b4 b5 b6 b7 b8 b9 plain h1 h2 h3 h4 h5 h6 h7 h8 h9 text e =
    rw (e, escaped_byte-high b3 h3, escaped_byte-high b4 h4, escaped_byte-high b5 h5) refl
encoded false false false c b1 b2 b3 b4 b5 b6 b7 b8 b9 plain h1 h2 h3 h4 h5 h6 h7 h8 h9 text e =
    rw (e, escaped_byte-high b6 h6, escaped_byte-high b7 h7, escaped_byte-high b8 h8, escaped_byte-high b9 h9) refl

pub escaped-plain : (c : ℕ) → c ≢ 34 → c ≢ 92 → c ≢ 10 → c ≢ 9 → c ≢ 13 → c ≢ 12 → c ≢ 8 → escaped (encode_utf8 c) ≡ encode_utf8 c
unfolding encode_utf8
escaped-plain c n1 n2 n3 n4 n5 n6 n7 =
    encoded (ltb c 128) (ltb c 2048) (ltb c 65536) c (192 + c / 64) (128 + c % 64) (224 + c / 4096) (128 + c / 64 % 64) (128 + c % 64)
    (240 + c / 262144) (128 + c / 4096 % 64) (128 + c / 64 % 64) (128 + c % 64)
    (λ _. escaped_byte-plain c n1 n2 n3 n4 n5 n6 n7)
    (omega arith) (omega arith) (omega arith) (omega arith) (omega arith) (omega arith) (omega arith) (omega arith) (omega arith) _ refl

-- the characters that have an escape
module _ (c : ℕ) where
  pub escaped-quote : c ≡ 34 → escaped (encode_utf8 c) ≡ codes "\\\""
  unfolding encode_utf8 escaped_byte
  escaped-quote e = rw e refl

  pub escaped-backslash : c ≡ 92 → escaped (encode_utf8 c) ≡ codes "\\\\"
  unfolding encode_utf8 escaped_byte
  escaped-backslash e = rw e refl

  pub escaped-newline : c ≡ 10 → escaped (encode_utf8 c) ≡ codes "\\n"
  unfolding encode_utf8 escaped_byte
  escaped-newline e = rw e refl

  pub escaped-tab : c ≡ 9 → escaped (encode_utf8 c) ≡ codes "\\t"
  unfolding encode_utf8 escaped_byte
  escaped-tab e = rw e refl

  pub escaped-return : c ≡ 13 → escaped (encode_utf8 c) ≡ codes "\\r"
  unfolding encode_utf8 escaped_byte
  escaped-return e = rw e refl

  pub escaped-formfeed : c ≡ 12 → escaped (encode_utf8 c) ≡ codes "\\f"
  unfolding encode_utf8 escaped_byte
  escaped-formfeed e = rw e refl

  pub escaped-backspace : c ≡ 8 → escaped (encode_utf8 c) ≡ codes "\\b"
  unfolding encode_utf8 escaped_byte
  escaped-backspace e = rw e refl
