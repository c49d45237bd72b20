-- Rings of versions, and what becomes of them.
use Rattle.std.specs.Prelude.{◌≡◌, ◌≢◌, ◌≤◌, ◌+◌, ◌-◌, ◌==◌, ℕ, Bool, true, false, List, [], ◌∷◌}
use Rattle.std.specs.Prelude.{if◌then◌else◌, refl, length, slice_index_or}
use Rattle.std.specs.Coded.{Coded, code_by, coded×, coded_ℕ, coded_list}
use Rattle.value_data.specs.Datum.{Datum}
use Rattle.value_data.specs.Inside.Code.{datum_code}
use Rattle.version_rings.specs.Versions.{Version}
use Rattle.version_rings.specs.declared.node.RingId.{RingId}

-- the versions under each number, how many nodes there are, and how many of them are in no ring;
-- and how many can be taken without memory, with those
pub record Rings : Type 0 where
  pub lists : List (List Version)
  pub slots : ℕ
  pub free : ℕ
  pub room : ℕ

-- the versions of the ring that has this id: none where there is no such ring
abbrev pub versions : Rings → RingId → List Version
versions rings id = slice_index_or rings.lists id.place []

-- how many versions there are in all
abbrev pub all_kept : List (List Version) → ℕ
all_kept [] = 0
all_kept (vs ∷ rest) = length vs + all_kept rest

-- every other ring is as it was
abbrev pub SameOtherRings : RingId → Rings → Rings → Type 0
SameOtherRings id old new = (other : RingId) → other ≢ id → versions new other ≡ versions old other

-- there are as many nodes, and as many of them in no ring
pub record SameNodes (old new : Rings) : Type 0 where
  pub slots : new.slots ≡ old.slots
  pub free : new.free ≡ old.free
  pub room : new.room ≡ old.room

-- a ring got a node that was free, and a new one only where none was
pub record TakesNode (old new : Rings) : Type 0 where
  pub slots : new.slots ≡ (if old.free == 0 then old.slots + 1 else old.slots)
  pub free : new.free ≡ old.free - 1
  pub room : old.room ≤ new.room + 1

-- a node was taken, or not
abbrev pub NodesAfter : Bool → Rings → Rings → Type 0
NodesAfter true old new = TakesNode old new
NodesAfter false old new = SameNodes old new

-- as the tuples of their fields
abbrev pub version_code : Coded Version
version_code =
    code_by (ℕ × Datum) (coded× coded_ℕ datum_code) (λ v. (v.stamp, v.content))
    (λ p. record { stamp = p.0; content = p.1 }) (λ _. refl)

abbrev pub rings_code : Coded Rings
rings_code =
    code_by (List (List Version) × (ℕ × (ℕ × ℕ)))
    (coded× (coded_list (coded_list version_code)) (coded× coded_ℕ (coded× coded_ℕ coded_ℕ)))
    (λ r. (r.lists, (r.slots, (r.free, r.room))))
    (λ p. record { lists = p.0; slots = p.1.0; free = p.1.1.0; room = p.1.1.1 })
    (λ _. refl)
