-- The ids of refs whose tenants are gone.
use Rattle.std.specs.Prelude.{◌≡◌, ◌≢◌, ℕ, List, [], ◌∷◌, ◌++◌, slice_get}
use Rattle.ref_history.specs.declared.ref_id.RefId.{RefId}
use Rattle.ref_table.specs.Directory.{ids_in}
use Rattle.ref_table.specs.declared.departed.Departed.{Departed}

-- those of one tenant
abbrev pub ids_left : Departed → ℕ → List RefId
ids_left d batch = ids_in (slice_get d.batches.items batch)

-- a new batch has these ids
pub record GetsBatch (old : Departed) (ids : List RefId) (new : Departed) : Type 0 where
  pub batch : ℕ
  pub none : ids_left old batch ≡ []
  pub here : ids_left new batch ≡ ids
  pub others : (n : ℕ) → n ≢ batch → ids_left new n ≡ ids_left old n

-- the last id of a batch is taken out
pub record LosesId (old : Departed) (id : RefId) (new : Departed) : Type 0 where
  pub batch : ℕ
  pub here : ids_left old batch ≡ ids_left new batch ++ id ∷ []
  pub others : (n : ℕ) → n ≢ batch → ids_left new n ≡ ids_left old n
