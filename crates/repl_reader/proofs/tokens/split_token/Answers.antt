use Rattle.repl_reader.specs.Text.{ends_token}
use Rattle.repl_reader.proofs.Bytes.{cut_at_first, ends_token_ascii}
use Rattle.repl_reader.proofs.tokens.split_token.Goals as goal

pub split_at-requires : goal.split_at-requires
split_at-requires c = rw c.token_len.ensures (cut_at_first ends_token ends_token_ascii c.args.text.now)
