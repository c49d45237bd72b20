use Rattle.std.proofs.Common.{ap, arith}
use Rattle.value_data.specs.Measures.{pairs_weight}
use Rattle.value_data.specs.Inside.Held.{EntriesData}
use Rattle.value_data.specs.Inside.Nodes.{entry_pairs}
use Rattle.value_data.proofs.Entered.{weight-zip}
use Rattle.value_data.proofs.value.Entries.weight.Goals as goal

pub returns : goal.returns
returns c =
    omega (
      arith,
      c.weight.ensures,
      c.weight-2.ensures,
      c.saturating_add.ensures,
      weight-zip c.self.inside.keys.items c.self.inside.values.items c.self.invariant,
      ap (λ (e : EntriesData). pairs_weight (entry_pairs e)) c.self.view_is,
    )
