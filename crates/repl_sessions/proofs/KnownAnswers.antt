-- Ids from the published key streams (RFC 8439, appendix A.1), so that a wrong word or bit in a definition does not check.
use Rattle.std.proofs.Common.{◌≡◌, ◌*◌, ◌^◌, replicate, codes, refl}
use Rattle.rand_core.specs.Steps.{u32_at}
use Rattle.rand_chacha.specs.Block.{quarter_round, column_round, diagonal_round, double_rounds, block_word}
use Rattle.uuid.specs.Text.{by_index}
use Rattle.repl_sessions.specs.Ids.{session_id, id_text}

-- test vector 1, its first and its second 16 bytes
pub first_id : id_text (record { seed = replicate 32 0; tenant = 0 }) 0 ≡ codes "76b8e0ad-a0f1-4d90-805d-6ae55386bd28"
unfolding id_text session_id by_index u32_at quarter_round column_round diagonal_round double_rounds block_word
first_id = refl

pub second_id : id_text (record { seed = replicate 32 0; tenant = 0 }) 1 ≡ codes "bdd219b8-a08d-4d1a-a836-efcc8b770dc7"
unfolding id_text session_id by_index u32_at quarter_round column_round diagonal_round double_rounds block_word
second_id = refl

-- test vector 5: the last word of its nonce, read as a number, is 2 ^ 25
pub id_of_another_tenant : id_text (record { seed = replicate 32 0; tenant = 2 ^ 25 * 2 ^ 32 }) 0 ≡ codes "c2c64d37-8cd5-4637-8ae2-04b9ef933fcd"
unfolding id_text session_id by_index u32_at quarter_round column_round diagonal_round double_rounds block_word
id_of_another_tenant = refl
