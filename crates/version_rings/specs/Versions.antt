-- The versions of one value, the newest first.
use Rattle.std.specs.Prelude.{◌<◌, ℕ, Bool, true, false, List, [], ◌∷◌, take, length}
use Rattle.std.specs.Prelude.{Option, None, Some, if◌then◌else◌, nat_lt, nat_le}
use Rattle.value_data.specs.Datum.{Datum}

pub record Version : Type 0 where
  pub stamp : ℕ
  pub content : Datum

abbrev pub version : ℕ → Datum → Version
version stamp d = record { stamp = stamp; content = d }

-- the newest version at or before a point
abbrev pub at_point : ℕ → List Version → Option Datum
at_point point [] = None
at_point point (v ∷ vs) = if nat_le v.stamp point then Some v.content else at_point point vs

abbrev pub newest : List Version → Option Datum
newest [] = None
newest (v ∷ vs) = Some v.content

-- whether the newest version came after the point
abbrev pub is_newer : ℕ → List Version → Bool
is_newer point [] = false
is_newer point (v ∷ vs) = nat_lt point v.stamp

-- what is kept has one version at the least
abbrev pub is_kept : List Version → Bool
is_kept [] = false
is_kept (v ∷ vs) = true

-- a version is put before the others: one more is kept, or the oldest gives way. What is not kept
-- gets no version
abbrev pub pushed : Bool → Version → List Version → List Version
pushed grow v [] = []
pushed grow v (w ∷ ws) = v ∷ (if grow then w ∷ ws else take (length ws) (w ∷ ws))

-- the stamp is greater than that of the newest version
abbrev pub IsAbove : ℕ → List Version → Type 0
IsAbove stamp [] = Unit {0}
IsAbove stamp (v ∷ vs) = v.stamp < stamp

-- each version has a smaller stamp than the one before it
abbrev pub IsFalling : List Version → Type 0
IsFalling [] = Unit {0}
IsFalling (v ∷ vs) = IsAbove v.stamp vs × IsFalling vs
