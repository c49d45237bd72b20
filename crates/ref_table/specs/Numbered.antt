-- Lists as finite maps from numbers.
use Rattle.std.specs.Prelude.{ℕ, ◌==◌, List, [], ◌∷◌, Option, None, Some, if◌then◌else◌}
pub use Rattle.repl_values.specs.Places.{changed_at}

-- what is kept under a number
pub record Entry (A : Type 0) : Type 0 where
  pub number : ℕ
  pub part : A

abbrev pub entry : {A : Type 0} → ℕ → A → Entry A
entry n part = record { number = n; part = part }

abbrev pub part_under : {A : Type 0} → ℕ → List (Entry A) → Option A
part_under n [] = None
part_under n (e ∷ es) = if n == e.number then Some e.part else part_under n es

abbrev pub with_part : {A : Type 0} → ℕ → A → List (Entry A) → List (Entry A)
with_part n part [] = []
with_part n part (e ∷ es) = if n == e.number then entry n part ∷ es else e ∷ with_part n part es

abbrev pub without : {A : Type 0} → ℕ → List (Entry A) → List (Entry A)
without n [] = []
without n (e ∷ es) = if n == e.number then without n es else e ∷ without n es
