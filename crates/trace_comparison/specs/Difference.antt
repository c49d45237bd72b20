-- Where two traces part.
use Rattle.std.specs.Prelude.{◌≡◌, ◌≢◌, ℕ, List, take, slice_get}
use Rattle.repl_asks.specs.Exchange.{Exchanged}

-- The exchanges before the place are equal, and what stands at it differs: two exchanges that are
-- not equal, or one exchange and nothing, since the other trace ends there.
pub record DiffersFirstAt (place : ℕ) (xs ys : List Exchanged) : Type 0 where
  pub equal_before : take place xs ≡ take place ys
  pub unequal : slice_get xs place ≢ slice_get ys place
