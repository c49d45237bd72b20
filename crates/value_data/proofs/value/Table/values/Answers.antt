use Rattle.std.proofs.Common.{ap, ◌∙◌}
use Rattle.value_data.specs.Inside.Held.{TableData}
use Rattle.value_data.specs.Inside.Placed.{values_of}
use Rattle.value_data.specs.Inside.Nodes.{entry_pairs}
use Rattle.value_data.specs.declared.value.PairsNode.{PairsNode}
use Rattle.value_data.proofs.Tables.{values-of-pairs}
use Rattle.value_data.proofs.value.Table.values.Goals as goal

pub returns : goal.returns
returns c =
    c.values.ensures
    ∙ values-of-pairs c.deref.result.now.entries.listed
    ∙ ap (λ (n : PairsNode). values_of (entry_pairs n.entries)) c.deref.ensures
    ∙ ap (λ (t : TableData). values_of t.pairs) c.self.view_is
