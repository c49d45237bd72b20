use Rattle.std.proofs.Common.{◌∙◌}
use Rattle.std.specs.Map.Iter.{deref}
use Rattle.std.proofs.lemmas.Map.Iter.{iter_end}
use Rattle.tenant_parts.proofs.QueueLaws.{names-seen}
use Rattle.tenant_parts.proofs.actors.Actors.names.Goals as goal

pub returns : goal.returns
returns c =
    c.loop-actor.invariant
    ∙ (iter_end deref _ _ _ _ _ _ (c.into_iter-actor-iterator.ensures.into_iter_gives ∙ c.keys-actor-items.ensures.rest) c.loop-actor.yielded_by c.in-None.is c.next.ensures.steps).0
    ∙ names-seen c.args.self.now.live.entries
