-- What the code holds of the shared namespace.
use Rattle.std.specs.Prelude.{◌≡◌, ℕ, List, []}
use Rattle.std.specs.List.{AllByRecursion}
use Rattle.value_data.specs.Datum.{shared, tenant}
use Rattle.name_spaces.specs.Bindings.{Bindings}
use Rattle.server_rules.specs.Shared.{SharedData}
use Rattle.ref_history.specs.Versioned.{Ref}
use Rattle.ref_history.specs.RingHistories.{RingStands}
use Rattle.ref_table.specs.Refs.{TableRefs}
use Rattle.ref_table.specs.Standing.{TableStands}
use Rattle.tenant_parts.specs.Serving.{RingRefTable}
use Rattle.tenant_parts.specs.Sound.{IsSoundRef}

-- these refs are the shared ones, nothing was committed yet, and no tenant has refs
pub record HoldsRefs (table : RingRefTable) (refs : List Ref) : Type 0 where
  pub all : TableRefs
  pub stands : TableStands RingStands table all
  pub counter : all.counter ≡ 0
  pub common : all.owned shared ≡ refs
  pub none : (t : ℕ) → all.owned (tenant t) ≡ []
  pub sound : AllByRecursion IsSoundRef refs

-- the names and the refs
pub record HoldsShared (bound : Bindings) (table : RingRefTable) (s : SharedData) : Type 0 where
  pub names : bound ≡ s.names
  pub refs : HoldsRefs table s.refs
