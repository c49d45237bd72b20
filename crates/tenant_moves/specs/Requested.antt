-- A request that waits.
use Rattle.ref_table.specs.Numbered.{part_under}
use Rattle.server_rules.specs.Operating.{queued_for}
use Rattle.server_rules.specs.Request.{Waiting}
use Rattle.server_rules.specs.Tenant.{TenantState, seat_of}
use Rattle.server_rules.specs.declared.actor.Actor.{Actor}

-- a request waits behind the others of its actor
abbrev pub with_queued_request : Actor → Waiting → TenantState → TenantState
with_queued_request a w q = queued_for a w q (part_under (seat_of a) q.actors)
