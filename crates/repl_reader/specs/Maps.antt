-- What the forms between the brackets of a map make.
use Rattle.std.specs.Prelude.{ℕ, zero, suc, ◌+◌, ◌-◌, List, []}
use Rattle.std.specs.Prelude.{Option, None, Some, length}
use Rattle.value_data.specs.Datum as datum
use Rattle.value_data.specs.Datum.{Datum, Items, no_items, item, Pairs, no_pairs, pair}
use Rattle.value_data.specs.Keyed.{keys_of}
use Rattle.repl_values.specs.Print.{print}
use Rattle.value_data.specs.Repeats.{first_repeat}
use Rattle.repl_reader.specs.declared.fault.FaultKind.TheVariants.{OddMap, SameKey}
use Rattle.repl_reader.specs.Fault.{break_of}
use Rattle.repl_reader.specs.Reading.{FormReading, begins}
use Rattle.repl_reader.specs.Reading.{breaks}

-- the forms of a map by twos, if their number is even
abbrev pub with_pair : Datum → Datum → Option Pairs → Option Pairs
with_pair k v None = None
with_pair k v (Some ps) = Some (pair k v ps)

abbrev mutual
  pub paired : Items → Option Pairs
  paired no_items = Some no_pairs
  paired (item k ds) = paired_with k ds

  pub paired_with : Datum → Items → Option Pairs
  paired_with k no_items = None
  paired_with k (item v ds) = with_pair k v (paired ds)

-- the print of the value at this place
abbrev pub print_at : ℕ → Items → List ℕ
print_at n no_items = []
print_at zero (item d ds) = print d
print_at (suc n) (item d ds) = print_at n ds

-- the pairs make a map before this text, unless a key is equal to one before it
abbrev pub map_or_fault : Option ℕ → Pairs → List ℕ → FormReading
map_or_fault None ps rest = begins (datum.map ps) rest
map_or_fault (Some place) ps rest =
    breaks (break_of SameKey (length rest + 1) (print_at place (keys_of ps)))

unfoldable pub map_of : Option Pairs → List ℕ → FormReading
map_of None rest = breaks (break_of OddMap (length rest + 1) [])
map_of (Some ps) rest = map_or_fault (first_repeat (keys_of ps)) ps rest
