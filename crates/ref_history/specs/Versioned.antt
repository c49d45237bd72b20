-- A ref as all the versions that it ever had (the Clojure reference, Refs and Transactions: read
-- points, history, `:min-history` and `:max-history`).
use Rattle.std.specs.Prelude.{ℕ, ◌+◌, List, [], ◌∷◌, Bool, false, ◌&&◌, ◌||◌, nat_lt, nat_le}
use Rattle.std.specs.Prelude.{Option, None, Some, take, if◌then◌else◌}
use Rattle.value_data.specs.Datum.{Datum}

-- a ref whose versions are of some kind
pub record RefOf (V : Type 0) : Type 0 where
  -- all of them, the newest first
  pub versions : List V
  -- how many of them are kept behind the newest
  pub kept : ℕ
  -- the reads since the last growth that found no version kept
  pub faults : ℕ
  -- the bounds of `kept`
  pub least : ℕ
  pub most : ℕ

abbrev pub new_ref : {V : Type 0} → V → ℕ → ℕ → RefOf V
new_ref v least most = record {
  versions = v ∷ [];
  kept = 0;
  faults = 0;
  least = least;
  most = most;
}

-- whether one version more is kept from the next on
abbrev pub grows : {V : Type 0} → RefOf V → Bool
grows r = (nat_lt 0 r.faults && nat_lt r.kept r.most) || nat_lt r.kept r.least

abbrev pub with_version : {V : Type 0} → V → RefOf V → RefOf V
with_version v r = record r {
  versions = v ∷ r.versions;
  kept = if grows r then r.kept + 1 else r.kept;
  faults = if grows r then 0 else r.faults;
}

abbrev pub with_failed_read : {V : Type 0} → RefOf V → RefOf V
with_failed_read r = record r { faults = r.faults + 1 }

-- a bound that is below what is kept takes nothing away
abbrev pub with_least : {V : Type 0} → ℕ → RefOf V → RefOf V
with_least n r = record r { least = n }

abbrev pub with_most : {V : Type 0} → ℕ → RefOf V → RefOf V
with_most n r = record r { most = n }

-- Versions with stamps

pub record Version : Type 0 where
  -- the commit that made it, counted from 1; 0 for the first
  pub stamp : ℕ
  pub content : Datum

abbrev pub Ref : Type 0
Ref = RefOf Version

-- the newest version at or before a point
abbrev pub at_point : ℕ → List Version → Option Datum
at_point point [] = None
at_point point (v ∷ vs) = if nat_le v.stamp point then Some v.content else at_point point vs

-- the same, where it is kept
abbrev pub readable : ℕ → Ref → Option Datum
readable point r = at_point point (take (r.kept + 1) r.versions)

abbrev pub newest : List Version → Option Datum
newest [] = None
newest (v ∷ vs) = Some v.content

-- whether the newest version came after the point
abbrev pub is_newer : ℕ → List Version → Bool
is_newer point [] = false
is_newer point (v ∷ vs) = nat_lt point v.stamp
