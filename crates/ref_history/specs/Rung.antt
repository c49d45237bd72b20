-- What is kept of a ref in a ring stands for the ref with all its versions.
use Rattle.std.specs.Prelude.{◌≡◌, ◌+◌, ◌≤◌, ℕ, List, [], ◌∷◌, map, take, length, nat_lt, IsTrue}
use Rattle.std.specs.Prelude.{true, Option, Some, None, slice_index_or, if◌then◌else◌}
use Rattle.version_rings.specs.Versions.{is_kept}
use Rattle.version_rings.specs.Versions as ring
use Rattle.version_rings.specs.Rings.{Rings, versions}
use Rattle.version_rings.specs.declared.node.RingId.{RingId}
use Rattle.ref_history.specs.Versioned.{Version, Ref, grows}
use Rattle.ref_history.specs.Effects.{version, bounds_of}
use Rattle.ref_history.specs.declared.ref_id.RefId.{RefId}
use Rattle.ref_history.specs.declared.ring_ref.RingRef.{RingRef}

abbrev pub version_in : ring.Version → Version
version_in v = version v.stamp v.content

-- the newest is kept, and as many behind it as the ref keeps
pub record RingKept (vs : List ring.Version) (k : RingRef) (r : Ref) : Type 0 where
  pub versions : map version_in vs ≡ take (r.kept + 1) r.versions
  pub many : length vs ≡ r.kept + 1
  pub faults : k.is_faulted ≡ nat_lt 0 r.faults
  pub bounds : k.bounds ≡ bounds_of r

-- the ring of a ref has its number
abbrev pub ring_number : RefId → RingId
ring_number id = record { place = id.place }

abbrev pub versions_of : Rings → RefId → List ring.Version
versions_of rings id = versions rings (ring_number id)

-- what is kept beside the versions, under each number
abbrev pub RingRefs : Type 0
RingRefs = List (Option RingRef)

abbrev pub ref_at : RingRefs → ℕ → Option RingRef
ref_at refs n = slice_index_or refs n None

-- the same, where there are versions
abbrev pub ring_ref_in : Rings → RingRefs → RefId → Option RingRef
ring_ref_in rings refs id = if is_kept (versions_of rings id) then ref_at refs id.place else None

abbrev pub StandsIn : Rings → RingRefs → RefId → Ref → Type 0
StandsIn rings refs id r =
    (k : RingRef) × (ref_at refs id.place ≡ Some k) × RingKept (versions_of rings id) k r

-- for how many refs room is reserved
abbrev pub room_for : Option RingRef → ℕ
room_for None = 0
room_for (Some k) = if k.has_room then 1 else 0

abbrev pub reserved_in : RingRefs → ℕ
reserved_in [] = 0
reserved_in (k ∷ ks) = room_for k + reserved_in ks

-- where the next version is kept beside all others, there is room for it, and for each other
abbrev pub HasRoomIn : Rings → RingRefs → RefId → Type 0
HasRoomIn rings refs id = (k : RingRef) (r : Ref) → ref_at refs id.place ≡ Some k
    → RingKept (versions_of rings id) k r → IsTrue (grows r)
    → (k.has_room ≡ true) × (reserved_in refs ≤ rings.room)
