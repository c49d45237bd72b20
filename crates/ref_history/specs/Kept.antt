-- What is kept of a ref stands for the ref with all its versions.
use Rattle.std.specs.Prelude.{◌≡◌, ◌+◌, ◌<◌, ◌∷◌, IsTrue, map, take, length, nat_lt}
use Rattle.std.specs.VecDeque.{deque_len, deque_capacity}
use Rattle.std.specs.Prelude.{ℕ, Option, option_map, slice_get}
use Rattle.value_data.specs.Datum.{Datum}
use Rattle.value_data.specs.Inside.View.{view}
use Rattle.ref_history.specs.Versioned.{Version, Ref, grows}
use Rattle.ref_history.specs.Effects.{version, bounds_of}
use Rattle.ref_history.specs.declared.kept_ref.KeptVersion.{KeptVersion}
use Rattle.ref_history.specs.declared.kept_ref.KeptRef.{KeptRef}

abbrev pub version_of : KeptVersion → Version
version_of v = version v.stamp (view v.content)

-- the newest is kept, and as many behind it as the ref keeps
pub record KeptStands (k : KeptRef) (r : Ref) : Type 0 where
  pub versions :
      version_of k.newest ∷ map version_of k.older.items ≡ take (r.kept + 1) r.versions
  pub many : length k.older.items ≡ r.kept
  pub faults : k.is_faulted ≡ nat_lt 0 r.faults
  pub bounds : k.bounds ≡ bounds_of r

-- where the next version is kept beside all others, it fits
abbrev pub HasRoom : KeptRef → Type 0
HasRoom k = (r : Ref) → KeptStands k r → IsTrue (grows r)
    → deque_len k.older < deque_capacity k.older

-- what the version at a place holds, from the newest on
abbrev pub content_in : KeptRef → ℕ → Option Datum
content_in k place = option_map (λ v. view v.content) (slice_get (k.newest ∷ k.older.items) place)
