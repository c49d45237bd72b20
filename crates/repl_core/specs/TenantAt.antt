-- The tenants by their numbers.
use Rattle.std.specs.Prelude.{ℕ, Option, option_map}
use Rattle.std.specs.BTreeMap.{get}
use Rattle.std.specs.Ordering.{nat_cmp}
use Rattle.tenant_world.specs.declared.tenant.Tenant.{Tenant}
use Rattle.repl_core.specs.declared.tenants.Tenants.{Tenants}

-- the one with this number, if it is open
abbrev pub tenant_at : Tenants → ℕ → Option Tenant
tenant_at tenants t = option_map (λ place. place.value) (get nat_cmp tenants.live t)
