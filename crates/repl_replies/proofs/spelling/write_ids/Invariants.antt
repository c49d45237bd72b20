use Rattle.std.proofs.Common.{◌≡◌, ◌++◌, drop, map, string_bytes}
use Rattle.bencode_wire.specs.Spelling.{trees_text, sorted_trees}
use Rattle.repl_replies.specs.Replies.{strings}
use Rattle.repl_replies.proofs.spelling.write_ids.Given as goal

-- with those that are left, all are written
abbrev pub invariant-loop-id : goal.invariant-loop-id
invariant-loop-id l =
    l.out.items ++ trees_text (sorted_trees (strings (map string_bytes (drop l.id-index l.ids)))) ≡ l.initial.out.items ++ trees_text (sorted_trees (strings (map string_bytes l.ids)))
