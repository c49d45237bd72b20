-- Under which ids the refs of each owner are kept.
use Rattle.std.specs.Prelude.{ℕ, ◌==◌, List, [], ◌∷◌, Bool, true, ◌&&◌, Option, None, Some, is_some}
use Rattle.std.specs.Prelude.{slice_get, Vec, if◌then◌else◌}
use Rattle.std.specs.Ordering.{nat_cmp}
use Rattle.std.specs.BTreeMap as tree
use Rattle.std.specs.declared.alloc.Global.{Global}
use Rattle.value_data.specs.Datum.{OwnerData, shared, tenant}
use Rattle.repl_asks.specs.Transactions.{RefNameData}
use Rattle.ref_history.specs.declared.ref_id.RefId.{RefId}
use Rattle.ref_table.specs.declared.directory.Directory.{Directory}

abbrev pub ids_in : Option (Vec RefId Global) → List RefId
ids_in None = []
ids_in (Some ids) = ids.items

-- the ids of an owner's refs, by their numbers
abbrev pub refs_of : Directory → OwnerData → List RefId
refs_of d shared = d.shared.items
refs_of d (tenant t) = ids_in (tree.get nat_cmp d.tenants t)

-- a tenant reaches no other tenant's refs
abbrev pub id_within : Directory → ℕ → OwnerData → ℕ → Option RefId
id_within d caller shared n = slice_get (refs_of d shared) n
id_within d caller (tenant t) n = if t == caller then slice_get (refs_of d (tenant t)) n else None

abbrev pub id_named : Directory → ℕ → RefNameData → Option RefId
id_named d caller name = id_within d caller name.owner name.number

abbrev pub all_named : Directory → ℕ → List RefNameData → Bool
all_named d caller [] = true
all_named d caller (name ∷ names) = is_some (id_named d caller name) && all_named d caller names

abbrev pub with_id : Option RefId → List RefId → List RefId
with_id None ids = ids
with_id (Some id) ids = id ∷ ids

-- the ids of those that are there
abbrev pub ids_named : Directory → ℕ → List RefNameData → List RefId
ids_named d caller [] = []
ids_named d caller (name ∷ names) = with_id (id_named d caller name) (ids_named d caller names)

-- the same, where it is the tenant's own
abbrev pub own_id_within : Directory → ℕ → OwnerData → ℕ → Option RefId
own_id_within d caller shared n = None
own_id_within d caller (tenant t) n = id_within d caller (tenant t) n

abbrev pub own_id : Directory → ℕ → RefNameData → Option RefId
own_id d caller name = own_id_within d caller name.owner name.number
