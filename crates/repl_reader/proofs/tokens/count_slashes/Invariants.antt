use Rattle.std.proofs.Common.{◌≡◌, ◌≤◌, ◌+◌, drop}
use Rattle.repl_reader.specs.Token.{slashes}
use Rattle.repl_reader.proofs.tokens.count_slashes.Given as goal

abbrev pub invariant-loop-byte : goal.invariant-loop-byte
invariant-loop-byte l = record {
  bound : l.count ≤ l.byte-index;
  left : l.count + slashes (drop l.byte-index l.token) ≡ slashes l.token;
}
