use Rattle.std.proofs.Common.{◌≡◌, map}
use Rattle.std.specs.List.{filter}
use Rattle.tenant_parts.specs.Busy.{is_busy}
use Rattle.tenant_parts.specs.View.{actors_view}
use Rattle.tenant_parts.proofs.Finding.{passing}
use Rattle.tenant_parts.proofs.actors.Actors.busy.Given as goal

abbrev pub invariant-loop-actor : goal.invariant-loop-actor
invariant-loop-actor l =
    l.names.items ≡ filter (passing is_busy (actors_view l.self)) (map (λ a. a.now) l.yielded)
