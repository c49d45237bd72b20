-- Forms in a row.
use Rattle.std.specs.Prelude.{ℕ, List, [], ◌∷◌}
use Rattle.value_data.specs.Datum.{Datum, Pairs, no_pairs, pair}

-- a name that `let` binds, and the form of its value
pub record BoundForm : Type 0 where
  pub name : List ℕ
  pub form : Datum

-- keys and values by turns
abbrev pub in_a_row : Pairs → List Datum
in_a_row no_pairs = []
in_a_row (pair k v ps) = k ∷ v ∷ in_a_row ps
