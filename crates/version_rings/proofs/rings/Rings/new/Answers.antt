use Rattle.std.proofs.Common.{refl, sym, List, [], Option, subst}
use Rattle.version_rings.specs.Inside.Nodes.{Space}
use Rattle.version_rings.specs.Inside.Table.{rings_of}
use Rattle.version_rings.specs.Inside.Sound.{IsSound}
use Rattle.version_rings.specs.declared.node.Ring.{Ring}
use Rattle.version_rings.proofs.rings.Rings.new.Goals as goal

nothing : IsSound (record { nodes = []; first = 0; free = 0 }) []
nothing = record {
  marks = record { owner = λ _. 0; time = λ _. 0 };
  now = 0;
  chain = tt;
  circles = λ id ring e. absurd cc;
  counted = refl;
}

pub invariant_of-result : goal.invariant_of-result
invariant_of-result c =
    subst (λ (s : Space). IsSound s (rings_of c.new-2.result)) (sym c.new.ensures.space)
    (subst (λ (rings : List (Option Ring)). IsSound (record { nodes = []; first = 0; free = 0 })
    rings) (sym c.new-2.ensures) nothing)
