-- The evaluations of tenants by their numbers.
use Rattle.std.specs.Prelude.{ℕ, Option, None, Some, ⊤}
use Rattle.std.specs.BTreeMap.{get}
use Rattle.std.specs.Ordering.{nat_cmp}
use Rattle.server_rules.specs.Machine.World.{TenantData}
use Rattle.repl_core.specs.declared.walks.Walks.{Walks}
use Rattle.repl_core.specs.Going.{AreWalkedIn}
use Rattle.machine_runs.specs.declared.all_walks.AllWalks.{AllWalks}

abbrev pub walks_at : AllWalks → ℕ → Option Walks
walks_at kept t = get nat_cmp kept.live t

-- what is kept of a tenant's evaluations, if anything is, is of that tenant
abbrev pub IsWalkedAt : Option Walks → Option TenantData → Type 0
IsWalkedAt None it = ⊤
IsWalkedAt (Some walks) it = AreWalkedIn walks it
