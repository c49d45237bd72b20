-- A function that a program defined.
use Rattle.std.specs.Prelude.{ℕ, List}
use Rattle.value_data.specs.Datum.{Datum}

-- where it was defined, its parameters and its body
pub record FunctionData : Type 0 where
  pub space : List ℕ
  pub name : List ℕ
  pub params : List (List ℕ)
  pub body : List Datum
