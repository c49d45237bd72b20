-- How much is left to do for a tenant.
use Rattle.std.specs.Prelude.{◌≡◌, ℕ, [], Option, None, Some}
use Rattle.server_rules.specs.Inside.Turned.{LeftToDo}
use Rattle.tenant_world.specs.Standing.{replies_of}
use Rattle.tenant_world.specs.declared.tenant.Tenant.{Tenant}
use Rattle.repl_core.specs.TenantAt.{tenant_at}
use Rattle.repl_core.specs.declared.machine.Machine.{Machine}

-- its steps, and the replies that wait
abbrev pub left_of : Option Tenant → LeftToDo
left_of None = record { steps = 0; outbox = [] }
left_of (Some tenant) = record { steps = tenant.steps; outbox = replies_of tenant }

abbrev pub left_at : ℕ → Machine → LeftToDo
left_at t m = left_of (tenant_at m.tenants t)

abbrev pub steps_at : ℕ → Machine → ℕ
steps_at t m = (left_at t m).steps

-- no reply waits before, and none behind
abbrev pub NoneWaits : ℕ → Machine → Machine → Type 0
NoneWaits t old new = ((left_at t old).outbox ≡ []) × ((left_at t new).outbox ≡ [])
