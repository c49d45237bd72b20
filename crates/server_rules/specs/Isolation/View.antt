-- What a tenant can see of the server: its own part, without the stamps of its refs' versions,
-- which the commits of others move.
use Rattle.std.specs.Prelude.{ℕ, ◌+◌, List, [], ◌∷◌, nat_le, map, Option, option_map, if◌then◌else◌}
use Rattle.value_data.specs.Datum.{Datum}
use Rattle.ref_table.specs.Numbered.{Entry, entry, part_under}
use Rattle.ref_history.specs.Versioned.{RefOf, Version, Ref}
use Rattle.ref_table.specs.Store.{Own}
use Rattle.server_rules.specs.Tenant.{TenantState}
use Rattle.server_rules.specs.Machine.World.{TenantData, World}

-- the values that a ref ever had, without their stamps
abbrev pub map_ref : {V W : Type 0} → (V → W) → RefOf V → RefOf W
map_ref f r = record {
  versions = map f r.versions;
  kept = r.kept;
  faults = r.faults;
  least = r.least;
  most = r.most;
}

abbrev pub content_of : Version → Datum
content_of v = v.content

-- how many versions are at or before a point
abbrev pub count_at : ℕ → List Version → ℕ
count_at point [] = 0
count_at point (v ∷ vs) =
    if nat_le v.stamp point then count_at point vs + 1 else count_at point vs

-- the same, for each ref
abbrev pub counts_at : List Ref → ℕ → List ℕ
counts_at refs point = map (λ r. count_at point r.versions) refs

abbrev pub map_entry : {A B : Type 0} → (A → B) → Entry A → Entry B
map_entry f e = entry e.number (f e.part)

pub record Seen : Type 0 where
  pub refs : List (RefOf Datum)
  -- for each actor in whose transaction an attempt runs, how many versions of each ref were there
  -- when it began
  pub attempts : List (Entry (List ℕ))

abbrev pub seen_of : Own → Seen
seen_of o = record {
  refs = map (map_ref content_of) o.refs;
  attempts = map (map_entry (counts_at o.refs)) o.points;
}

pub record View : Type 0 where
  pub state : TenantState
  pub mine : Seen

abbrev pub tenant_view : TenantData → View
tenant_view tenant = record { state = tenant.state; mine = seen_of tenant.mine }

abbrev pub part_view : Option TenantData → Option View
part_view = option_map tenant_view

-- nothing where the tenant was never opened, and then its part, if it is not gone
abbrev pub view_for : ℕ → World → Option (Option View)
view_for t w = option_map part_view (part_under t w.tenants)
