use Rattle.std.proofs.Common.{ap, ◌∙◌}
use Rattle.value_data.specs.Inside.Held.{TableData}
use Rattle.value_data.specs.Keyed.{keys_of}
use Rattle.value_data.specs.Inside.Nodes.{entry_pairs}
use Rattle.value_data.specs.declared.value.PairsNode.{PairsNode}
use Rattle.value_data.proofs.Tables.{keys-of-pairs}
use Rattle.value_data.proofs.value.Table.keys.Goals as goal

pub returns : goal.returns
returns c =
    c.keys.ensures
    ∙ keys-of-pairs c.deref.result.now.entries.listed
    ∙ ap (λ (n : PairsNode). keys_of (entry_pairs n.entries)) c.deref.ensures
    ∙ ap (λ (t : TableData). keys_of t.pairs) c.self.view_is
