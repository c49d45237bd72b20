-- Names that are bound to values, the newest first.
use Rattle.std.specs.Prelude.{ℕ, List, [], ◌∷◌, Option, Some, None, if◌then◌else◌}
use Rattle.std.specs.Str.{bytes_eq}
use Rattle.value_data.specs.Datum.{Datum}

pub record LocalData : Type 0 where
  pub name : List ℕ
  pub bound : Datum

-- the value of the newest local of this name
abbrev pub local_value : List LocalData → List ℕ → Option Datum
local_value [] s = None
local_value (l ∷ ls) s = if bytes_eq l.name s then Some l.bound else local_value ls s
