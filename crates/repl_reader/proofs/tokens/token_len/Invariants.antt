use Rattle.std.proofs.Common.{◌≡◌, ◌+◌, drop}
use Rattle.std.specs.List.{position_or_len}
use Rattle.repl_reader.specs.Text.{ends_token}
use Rattle.repl_reader.proofs.tokens.token_len.Given as goal

abbrev pub invariant-loop-i : goal.invariant-loop-i
invariant-loop-i l = l.i + position_or_len ends_token (drop l.i l.bytes) ≡ position_or_len ends_token l.bytes
