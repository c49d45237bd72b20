-- The bytes that a generator draws are words of its stream.
use Rattle.std.proofs.Common.{◌≡◌, ℕ, ◌+◌, ◌*◌, ◌%◌, ◌^◌, ◌<◌, List, ◌++◌, take, refl, ap, ◌∙◌, arith}
use Rattle.std.specs.Int.{w32, to_le_bytes}
use Rattle.rand_core.specs.Stream.{Stream, fill_bytes}
use Rattle.rand_core.specs.Steps.{stream_of, steps_u32, word_bytes as drawn}
use Rattle.rand_chacha.specs.ChaCha.{ChaCha, next_word, key_of}
use Rattle.uuid.specs.Parts.{v4_of_fill, with_version, with_variant}
use Rattle.uuid.specs.declared.Variant.TheVariants.{RFC4122}
use Rattle.uuid.specs.declared.Version.TheVariants.{Random}
use Rattle.repl_sessions.specs.Ids.{word_bytes, session_id}

-- the generator at a place of a tenant's stream
abbrev at : List ℕ → ℕ → ℕ → ChaCha
at seed tenant place = record { key = key_of seed; stream = tenant; word_pos = place }

four_words : (seed : List ℕ) (tenant p : ℕ) → p + 3 < 2 ^ 68
    → take 16 (drawn (to_le_bytes w32) (next_word 10) 4 (at seed tenant p)).0
    ≡ word_bytes seed tenant p ++ word_bytes seed tenant (p + 1) ++ word_bytes seed tenant (p + 2) ++ word_bytes seed tenant (p + 3)
unfolding drawn
four_words seed tenant p fits =
    let second : (p + 1) % 2 ^ 68 ≡ p + 1 = omega arith in
    let third : (p + 1 + 1) % 2 ^ 68 ≡ p + 2 = omega arith in
    let fourth : (p + 2 + 1) % 2 ^ 68 ≡ p + 3 = omega arith in
    rw (second, third, fourth) refl

pub drawn_id : (seed : List ℕ) (tenant number place : ℕ) (rng : ChaCha) (id : List ℕ) (left : Stream) → number < 2 ^ 64
    → place ≡ number * 4 → rng ≡ at seed tenant (place % 2 ^ 68)
    → (id, left) ≡ v4_of_fill (fill_bytes 16 (stream_of (steps_u32 (next_word 10)) rng)) → id ≡ session_id seed tenant number
unfolding session_id fill_bytes stream_of
drawn_id seed tenant number place rng id left small is_place is_rng drew =
    let here : place % 2 ^ 68 ≡ 4 * number = omega arith in
    ap (λ (p : List ℕ × Stream). p.0) drew
    ∙ ap (λ (g : ChaCha). with_version (with_variant (take 16 (drawn (to_le_bytes w32) (next_word 10) 4 g).0) RFC4122) Random) is_rng
    ∙ ap (λ (p : ℕ). with_version (with_variant (take 16 (drawn (to_le_bytes w32) (next_word 10) 4 (at seed tenant p)).0) RFC4122) Random) here
    ∙ ap (λ (bs : List ℕ). with_version (with_variant bs RFC4122) Random) (four_words seed tenant (4 * number) (omega arith))
