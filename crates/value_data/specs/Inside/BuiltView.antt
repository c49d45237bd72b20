-- What is built of pairs.
use Rattle.std.specs.Prelude.{◌≡◌, Some, None}
use Rattle.value_data.specs.Datum.{Pairs}
use Rattle.value_data.specs.Keyed.{keys_of}
use Rattle.value_data.specs.Repeats.{first_repeat}
use Rattle.value_data.specs.declared.building.Built.{Built}

-- a map of the pairs where no key is repeated, or else the place of the first that is
abbrev pub IsBuilt : Built → Pairs → Type 0
IsBuilt (Built.Made table) ps = (table.pairs ≡ ps) × (first_repeat (keys_of ps) ≡ None)
IsBuilt (Built.Repeats n) ps = first_repeat (keys_of ps) ≡ Some n
