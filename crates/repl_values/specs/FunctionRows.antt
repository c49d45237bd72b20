-- A function's row in the table of its group: its name, and the numbers of arguments that it takes.
use Rattle.std.specs.Prelude.{ℕ, ◌%◌, List, Bool, true, ◌&&◌, ◌==◌, nat_le, Option, find, bytes_eq}
use Rattle.repl_values.specs.declared.function_row.Arity.{Arity}

pub record FunctionRowData : Type 0 where
  pub name : List ℕ
  pub arity : Arity

-- whether so many arguments are taken
abbrev pub takes : Arity → ℕ → Bool
takes Arity.AnyNumber n = true
takes (Arity.Exactly m) n = n == m
takes (Arity.AtLeast least) n = nat_le least n
takes (Arity.FromTo least most) n = nat_le least n && nat_le n most
takes (Arity.OddFrom least) n = nat_le least n && n % 2 == 1
takes (Arity.OddUpTo most) n = nat_le n most && n % 2 == 1

-- the first of the functions whose row has the name
abbrev pub first_named : {F : Type 0} → (F → FunctionRowData) → List F → List ℕ → Option F
first_named row functions name = find (λ f. bytes_eq (row f).name name) functions
