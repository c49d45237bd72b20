use Rattle.std.proofs.Common.{arith}
use Rattle.std.proofs.lemmas.Grind.{common_steps}
use Rattle.bencode_wire.proofs.Views.{put_tree_pairs-entries_view}
use Rattle.bencode_wire.proofs.write.+spell.Goals as goal

-- the map's order is that of sorting
pub spell_pairs-returns-clause-text : goal.spell_pairs-returns-clause-text
spell_pairs-returns-clause-text t c =
    rw (put_tree_pairs-entries_view c.args.pairs.now.entries c.iter-key-items.ensures.ordered) (grind (arith, common_steps))
