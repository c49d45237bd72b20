-- The ids of sessions: UUIDs of version 4 (RFC 9562, section 5.4). Their random bytes are words of
-- ChaCha20 (RFC 8439, section 2.3) with a 64-bit counter, at which a stream of 64 bits is chosen.
use Rattle.std.specs.Prelude.{ℕ, ◌+◌, ◌*◌, List, ◌++◌}
use Rattle.std.specs.Int.{w32, to_le_bytes}
use Rattle.rand_chacha.specs.ChaCha.{word_at, key_of}
use Rattle.uuid.specs.Parts.{with_version, with_variant}
use Rattle.uuid.specs.Text.{hyphenated_text, lower}
use Rattle.uuid.specs.declared.Variant.TheVariants.{RFC4122}
use Rattle.uuid.specs.declared.Version.TheVariants.{Random}

-- the seed of the server, 32 bytes, is the key, and the number of the tenant the stream
pub record IdsData : Type 0 where
  pub seed : List ℕ
  pub tenant : ℕ

-- the word at a place of the tenant's stream, as four bytes, the least first
abbrev pub word_bytes : List ℕ → ℕ → ℕ → List ℕ
word_bytes seed tenant place = to_le_bytes w32 (word_at 10 (key_of seed) tenant place)

-- each session has four words of its own
abbrev pub random_bytes : List ℕ → ℕ → ℕ → List ℕ
random_bytes seed tenant number =
    word_bytes seed tenant (4 * number) ++ word_bytes seed tenant (4 * number + 1)
    ++ word_bytes seed tenant (4 * number + 2) ++ word_bytes seed tenant (4 * number + 3)

-- the id of the session of this number, 16 bytes; not opened where it is only named
unfoldable pub session_id : List ℕ → ℕ → ℕ → List ℕ
session_id seed tenant number =
    with_version (with_variant (random_bytes seed tenant number) RFC4122) Random

-- the id as it is printed: hyphenated, in lower case (RFC 9562, section 4), 36 bytes
unfoldable pub id_text : IdsData → ℕ → List ℕ
id_text ids number = hyphenated_text lower (session_id ids.seed ids.tenant number)
