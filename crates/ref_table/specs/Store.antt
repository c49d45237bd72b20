-- The refs that a tenant reaches: its own and the shared ones.
use Rattle.std.specs.Prelude.{ℕ, ◌==◌, List, Option, None, Some, slice_get, if◌then◌else◌}
use Rattle.value_data.specs.Datum.{Datum, OwnerData, shared, tenant}
use Rattle.repl_asks.specs.Transactions.{RefNameData}
use Rattle.ref_table.specs.Numbered.{changed_at, Entry, without}
use Rattle.ref_history.specs.Versioned.{Ref, newest}

-- what all tenants have in common
pub record Around : Type 0 where
  -- how many commits there were that changed a ref
  pub counter : ℕ
  -- the shared refs, by their numbers
  pub refs : List Ref

-- what a tenant has of its own
pub record Own : Type 0 where
  -- its refs, by their numbers
  pub refs : List Ref
  -- the read point of each actor in whose transaction an attempt runs
  pub points : List (Entry ℕ)

pub record Store : Type 0 where
  pub around : Around
  -- whose it is
  pub tenant : ℕ
  pub mine : Own

-- a tenant reaches no other tenant's refs
abbrev pub ref_of : OwnerData → ℕ → Store → Option Ref
ref_of shared n s = slice_get s.around.refs n
ref_of (tenant t) n s = if t == s.tenant then slice_get s.mine.refs n else None

abbrev pub ref_named : RefNameData → Store → Option Ref
ref_named name s = ref_of name.owner name.number s

abbrev pub newest_in_ref : Option Ref → Option Datum
newest_in_ref None = None
newest_in_ref (Some r) = newest r.versions

-- the value of a ref for those who are in no transaction
abbrev pub newest_value : RefNameData → Store → Option Datum
newest_value name s = newest_in_ref (ref_named name s)

abbrev pub with_refs : List Ref → Store → Store
with_refs refs s = record s { mine = record { refs = refs; points = s.mine.points } }

abbrev pub with_points : List (Entry ℕ) → Store → Store
with_points points s = record s { mine = record { refs = s.mine.refs; points = points } }

abbrev pub changed_of : OwnerData → ℕ → (Ref → Ref) → Store → Store
changed_of shared n f s =
    record s { around = record { counter = s.around.counter; refs = changed_at n f s.around.refs } }
changed_of (tenant t) n f s =
    with_refs (if t == s.tenant then changed_at n f s.mine.refs else s.mine.refs) s

-- one ref is changed, where it is there
abbrev pub with_changed_ref : RefNameData → (Ref → Ref) → Store → Store
with_changed_ref name f s = changed_of name.owner name.number f s

abbrev pub left_attempt : ℕ → Store → Store
left_attempt seat s = with_points (without seat s.mine.points) s
