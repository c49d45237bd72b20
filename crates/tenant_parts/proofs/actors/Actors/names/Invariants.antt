use Rattle.std.proofs.Common.{◌≡◌, map}
use Rattle.tenant_parts.proofs.actors.Actors.names.Given as goal

abbrev pub invariant-loop-actor : goal.invariant-loop-actor
invariant-loop-actor l = l.names.items ≡ map (λ a. a.now) l.yielded
