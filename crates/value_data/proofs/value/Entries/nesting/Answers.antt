use Rattle.std.proofs.Common.{ap, arith}
use Rattle.value_data.specs.Measures.{pairs_nesting}
use Rattle.value_data.specs.Inside.Held.{EntriesData}
use Rattle.value_data.specs.Inside.Nodes.{entry_pairs}
use Rattle.value_data.proofs.Entered.{nesting-zip}
use Rattle.value_data.proofs.value.Entries.nesting.Goals as goal

pub returns : goal.returns
returns c =
    omega (
      arith,
      c.nesting.ensures,
      c.nesting-2.ensures,
      c.max.ensures,
      nesting-zip c.self.inside.keys.items c.self.inside.values.items c.self.invariant,
      ap (λ (e : EntriesData). pairs_nesting (entry_pairs e)) c.self.view_is,
    )
