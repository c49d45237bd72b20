-- Forms in a row.
use Rattle.std.specs.Prelude.{List, [], ◌∷◌}
use Rattle.value_data.specs.Datum.{Datum}
use Rattle.evaluation_rules.specs.Doing.{Part, ◌|>◌, pure_part}

-- the values of forms in a row, from left to right
abbrev pub row : (Datum → Part Datum) → List Datum → Part (List Datum)
row walk [] = pure_part []
row walk (d ∷ ds) = walk d |> λ v. (row walk ds |> λ vs. pure_part (v ∷ vs))

-- the value of the last of forms in a row; `last` is that of the form before them
abbrev pub value_of_last : (Datum → Part Datum) → Datum → List Datum → Part Datum
value_of_last walk last [] = pure_part last
value_of_last walk last (d ∷ ds) = walk d |> λ v. value_of_last walk v ds
