-- What is known of a reader and of a writer at a moment.
use Rattle.std.specs.Prelude.{ℕ, Bool, List, Option}
use Rattle.nrepl_pipe.specs.Reads.{ReadAt}

-- the bytes that reads will give, whether a read has failed, and the
-- reads that were made
pub record Input : Type 0 where
  pub remaining : Option (List ℕ)
  pub failed : Option Bool
  pub reads : Option (List ReadAt)

abbrev pub input : Option (List ℕ) → Option Bool → Option (List ReadAt) → Input
input remaining failed reads = record { remaining = remaining; failed = failed; reads = reads }

-- the bytes that were written, those of them that were passed on, and
-- whether a write has failed
pub record Output : Type 0 where
  pub contents : Option (List ℕ)
  pub passed : Option (List ℕ)
  pub failed : Option Bool

abbrev pub output : Option (List ℕ) → Option (List ℕ) → Option Bool → Output
output contents passed failed = record { contents = contents; passed = passed; failed = failed }
