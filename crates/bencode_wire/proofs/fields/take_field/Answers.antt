use Rattle.std.proofs.Common.{ap, ◌∙◌}
use Rattle.std.specs.Prelude.{option_map}
use Rattle.bencode_wire.specs.Inside.View.{tree_view}
use Rattle.bencode_wire.proofs.Lookups.{field-entries_view, field-taken}
use Rattle.bencode_wire.proofs.fields.take_field.Goals as goal

pub returns-clause-value : goal.returns-clause-value
returns-clause-value c =
    ap (option_map tree_view) c.remove.ensures.value ∙ field-entries_view c.args.key.now c.args.fields.now.entries

pub returns-clause-others : goal.returns-clause-others
returns-clause-others c = λ other.
    field-taken c.args.key.now other c.args.fields.now.entries c.remove.new.self.entries c.remove.ensures.updates.3 c.remove.ensures.updates.1
