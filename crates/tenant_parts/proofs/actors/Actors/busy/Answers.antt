use Rattle.std.proofs.Common.{◌∙◌, ap}
use Rattle.std.specs.List.{filter}
use Rattle.std.specs.Map.Iter.{deref}
use Rattle.std.proofs.lemmas.Map.Iter.{iter_end}
use Rattle.tenant_parts.specs.Busy.{is_busy}
use Rattle.tenant_parts.proofs.Seats.{seen}
use Rattle.tenant_parts.proofs.Finding.{passing, passed-listed, names-ascend, covers-from}
use Rattle.tenant_parts.proofs.actors.Actors.busy.Goals as goal

pub returns-clause-names : goal.returns-clause-names
returns-clause-names c =
    let self = c.args.self.now in
    let es = seen self.live.entries in
    c.loop-actor.invariant
    ∙ ap (filter (passing is_busy es))
    (iter_end deref _ _ _ _ _ _ c.into_iter-actor-iterator.ensures.into_iter_gives.0 c.loop-actor.yielded_by c.in-None.is c.next.ensures.steps).0
    ∙ passed-listed is_busy self.busy.keys es (names-ascend self.busy.keys c.len.ensures.ordered)
    c.ascend.ensures (covers-from is_busy self.busy es (λ a h. h) self.listed)
