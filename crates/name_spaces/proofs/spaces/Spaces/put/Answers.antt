use Rattle.std.proofs.Common.{arith}
use Rattle.std.specs.BTreeMap.{get_by_text}
use Rattle.std.proofs.lemmas.Map.Text.{text_keys}
use Rattle.name_spaces.specs.Inside.Seen.{bound_in, namespaces_of}
use Rattle.name_spaces.proofs.Placing.{Updates, placed, own-placed, whichever}
use Rattle.name_spaces.proofs.spaces.Spaces.put.Goals as goal

pub returns-clause-placed : goal.returns-clause-placed
unfolding namespaces_of
returns-clause-placed c =
    let old = get_by_text c.args.self.now.namespaces in
    let new = get_by_text c.insert.new.self in
    let name = c.args.name.now in
    let updates : Updates old new name c.args.vars = λ q. grind (arith, text_keys) in
    placed bound_in old new name c.args.vars c.requires updates

pub invariant_of-self : goal.invariant_of-self
invariant_of-self c =
    let old = get_by_text c.args.self.now.namespaces in
    let new = get_by_text c.insert.new.self in
    let own = c.args.self.now.own in
    record {
      own = whichever c.insert.result c.insert.ensures.updates c.insert.ensures.err
          (λ h. own-placed old new c.args.name.now c.args.vars c.requires
          (λ q. grind (arith, text_keys)) own)
          (λ h q fixed. grind (arith, own q fixed));
    }
