use Rattle.std.proofs.Common.{◌≡◌}
use Rattle.connection_crews.proofs.moves.drain_all.Given as goal

abbrev pub invariant-loop : goal.invariant-loop
invariant-loop g l = l.seat.tenant ≡ l.fn.seat.tenant
