-- How jobs and traces are compared. Each comparison has exactly one answer; here the answers are
-- the values of functions.
use Rattle.std.specs.Prelude.{◌≡◌, ◌↔◌, ℕ, List, Bool, true, Option, None, Some}
use Rattle.repl_asks.specs.Exchange.{Exchanged}
use Rattle.repl_asks.specs.Job.{JobData}
use Rattle.trace_comparison.specs.Difference.{DiffersFirstAt}

pub record Comparisons : Type 0 where
  pub is_same_job : JobData → JobData → Bool
  -- the first place at which two traces differ
  pub difference : List Exchanged → List Exchanged → Option ℕ

pub record AreExact (c : Comparisons) : Type 0 where
  pub same_job : (j k : JobData) → (c.is_same_job j k ≡ true) ↔ (j ≡ k)
  pub no_difference : (xs ys : List Exchanged) → (c.difference xs ys ≡ None) ↔ (xs ≡ ys)
  pub first_difference : (xs ys : List Exchanged) (place : ℕ)
      → c.difference xs ys ≡ Some place → DiffersFirstAt place xs ys
