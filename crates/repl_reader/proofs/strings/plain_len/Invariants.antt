use Rattle.std.proofs.Common.{◌≡◌, ◌+◌, drop}
use Rattle.std.specs.List.{position_or_len}
use Rattle.repl_reader.specs.Text.{ends_plain}
use Rattle.repl_reader.proofs.strings.plain_len.Given as goal

abbrev pub invariant-loop-i : goal.invariant-loop-i
invariant-loop-i l = l.i + position_or_len ends_plain (drop l.i l.bytes) ≡ position_or_len ends_plain l.bytes
