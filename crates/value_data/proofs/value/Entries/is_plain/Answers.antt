use Rattle.std.proofs.Common.{◌&&◌, ap, sym, ◌∙◌}
use Rattle.value_data.specs.Measures.{are_plain, pairs_are_plain}
use Rattle.value_data.specs.Inside.Held.{EntriesData}
use Rattle.value_data.specs.Inside.Nodes.{entry_pairs}
use Rattle.value_data.proofs.Entered.{plain-zip}
use Rattle.value_data.proofs.value.Entries.is_plain.Goals as goal

pub returns : goal.returns
returns c =
    c.both.ensures
    ∙ ap (λ b. b && c.is_plain-2.result) c.is_plain.ensures
    ∙ ap (λ b. are_plain c.self.inside.keys.items && b) c.is_plain-2.ensures
    ∙ sym (plain-zip c.self.inside.keys.items c.self.inside.values.items c.self.invariant)
    ∙ ap (λ (e : EntriesData). pairs_are_plain (entry_pairs e)) c.self.view_is
