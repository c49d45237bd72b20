-- The atoms of a tenant (the Clojure reference, Atoms): values under numbers from 0.
use Rattle.std.specs.Prelude.{ℕ, List, [], ◌∷◌, ◌++◌, Bool, false, if◌then◌else◌}
use Rattle.std.specs.Prelude.{Option, Some, None, slice_get}
use Rattle.value_data.specs.Datum.{Datum}
use Rattle.value_data.specs.Same.{same}
use Rattle.repl_values.specs.Places.{changed_at}

pub record AtomsData : Type 0 where
  pub values : List Datum

abbrev pub no_atoms : AtomsData
no_atoms = record { values = [] }

-- the value of the atom of this number
abbrev pub atom_value : ℕ → AtomsData → Option Datum
atom_value number s = slice_get s.values number

-- one atom more, whose number is how many there were
abbrev pub with_atom : Datum → AtomsData → AtomsData
with_atom d s = record { values = s.values ++ d ∷ [] }

-- the atom of this number, if there is one, has this value
abbrev pub with_atom_value : ℕ → Datum → AtomsData → AtomsData
with_atom_value number d s = record { values = changed_at number (λ _. d) s.values }

abbrev pub equals : Datum → Option Datum → Bool
equals d None = false
equals d (Some value) = same value d

-- Whether a try succeeds: the atom equals what was read.
abbrev pub is_unchanged : ℕ → Datum → AtomsData → Bool
is_unchanged number seen s = equals seen (atom_value number s)

-- A try gives the atom its next value where it succeeds, and changes nothing where it does not.
abbrev pub with_try : ℕ → Datum → Datum → AtomsData → AtomsData
with_try number seen next s =
    if is_unchanged number seen s then with_atom_value number next s else s
