use Rattle.std.proofs.Common.{◌≡◌, ◌++◌, drop}
use Rattle.bencode_wire.specs.Spelling.{pairs_text}
use Rattle.repl_replies.specs.Description as told
use Rattle.repl_replies.proofs.spelling.write_operations.Given as goal

-- with those that are left, all are written
abbrev pub invariant-loop-operation : goal.invariant-loop-operation
invariant-loop-operation l =
    l.out.items ++ pairs_text (told.ops (drop l.operation-index l.operations)) ≡ l.initial.out.items ++ pairs_text (told.ops l.operations)
