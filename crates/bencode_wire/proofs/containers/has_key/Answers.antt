use Rattle.std.proofs.Common.{◌∙◌}
use Rattle.bencode_wire.proofs.Views.{holds_key-entries_view}
use Rattle.bencode_wire.proofs.containers.has_key.Goals as goal

pub returns : goal.returns
returns c = c.contains_key.ensures ∙ holds_key-entries_view c.args.key.now.items c.args.pairs.now.entries
