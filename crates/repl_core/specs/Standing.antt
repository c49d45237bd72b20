-- The machine stands for the server of the rules.
use Rattle.std.specs.Prelude.{◌≡◌, ℕ, [], Bool, false, nat_le, Option, None, Some, option_and_then}
use Rattle.value_data.specs.Datum.{shared, tenant}
use Rattle.name_spaces.specs.Inside.Seen.{shared_bindings}
use Rattle.server_rules.specs.Ground.{Ground}
use Rattle.ref_table.specs.Numbered.{part_under}
use Rattle.ref_table.specs.Store.{Around, Own, Store}
use Rattle.server_rules.specs.Machine.World.{TenantData, World, is_used, open_count}
use Rattle.ref_history.specs.RingHistories.{RingStands}
use Rattle.ref_table.specs.Refs.{TableRefs}
use Rattle.ref_table.specs.Standing as table
use Rattle.tenant_parts.specs.Sound.{AreSound}
use Rattle.tenant_world.specs.Standing as world
use Rattle.tenant_world.specs.declared.tenant.Tenant.{Tenant}
use Rattle.repl_core.specs.TenantAt.{tenant_at}
use Rattle.repl_core.specs.declared.machine.Machine.{Machine}

-- a tenant that is open
abbrev pub open_in : ℕ → World → Option TenantData
open_in t w = option_and_then (λ part. part) (part_under t w.tenants)

-- what a tenant reaches of the refs
abbrev pub store_in : Around → ℕ → Own → Store
store_in around t mine = record { around = around; tenant = t; mine = mine }

-- what all tenants have in common
abbrev pub around_in : TableRefs → Around
around_in r = record { counter = r.counter; refs = r.owned shared }

-- the tenant of the code is that of the rules, and its refs are those of the table
pub record TenantStands (g : Ground) (r : TableRefs) (t : ℕ) (code : Tenant) (kept : TenantData)
    : Type 0 where
  pub stands : (around : Around) → world.StandsForState g code kept.state
      (store_in around t kept.mine)
  pub refs : kept.mine.refs ≡ r.owned (tenant t)

-- a tenant that is not open has no refs
abbrev pub PlaceStands : Ground → TableRefs → ℕ → Option Tenant → Option TenantData → Type 0
PlaceStands g r t None None = r.owned (tenant t) ≡ []
PlaceStands g r t None (Some kept) = ⊥
PlaceStands g r t (Some code) None = ⊥
PlaceStands g r t (Some code) (Some kept) = TenantStands g r t code kept

-- the number is not above the newest
abbrev pub is_reached : Option ℕ → ℕ → Bool
is_reached None t = false
is_reached (Some newest) t = nat_le t newest

pub record MachineStands (g : Ground) (m : Machine) (w : World) : Type 0 where
  pub names : g.shared.names ≡ shared_bindings m.names
  pub seed : g.seed ≡ m.seed
  pub steps : g.steps ≡ m.steps
  pub retries : g.retries ≡ m.retries
  pub places : g.places ≡ m.places
  pub refs : TableRefs
  pub table : table.TableStands RingStands m.refs refs
  pub sound : AreSound refs
  pub around : w.around ≡ around_in refs
  pub tenants : (t : ℕ) → PlaceStands g refs t (tenant_at m.tenants t) (open_in t w)
  pub newest : (t : ℕ) → is_used t w.tenants ≡ is_reached m.newest t
  pub places_taken : open_count w.tenants ≡ m.places_taken
