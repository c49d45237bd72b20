-- The grammar as a whole.
use Rattle.std.specs.Prelude.{◌≡◌, ℕ, List, Option}
use Rattle.value_data.specs.Datum.{Items}
use Rattle.repl_reader.specs.Fault.{FaultData}
use Rattle.repl_reader.specs.Grammar.{IsReading}

abbrev pub EveryTextReads : Type 0
EveryTextReads = (text : List ℕ) → (ds : Items) × (fault : Option FaultData)
    × IsReading text ds fault

abbrev pub ReadingsAreUnique : Type 0
ReadingsAreUnique = (text : List ℕ) (ds es : Items) (fault other : Option FaultData)
    → IsReading text ds fault → IsReading text es other → (ds ≡ es) × (fault ≡ other)
