-- The rule of the history, and what its steps tell.
use Rattle.std.specs.Prelude.{ℕ, ◌≡◌, ◌==◌, true, List, [], ◌∷◌, ◌++◌, length}
use Rattle.logbook.specs.Pages.{Cell, Step, View, Book, Named}

-- the first word is the length of the history. A book has two words, of which this one leaves the
-- second at 0
pub record IsLengthWord {E : Type 0} (cells : List Cell) (log : List E) : Type 0 where
  pub words : cells ≡ (length log, true) ∷ (0, true) ∷ []

abbrev pub head_of : Book → Named
head_of b = record { tracked = true; key = 0; book = b }

-- the entry was added to all that had been seen, if the number found is the one expected
abbrev pub AddsEntry : {E : Type 0} → Step E → View E ℕ → ℕ → View E ℕ → Type 0
AddsEntry s v found w = (found == s.old) ≡ true → w.0 ≡ v.0 ++ s.ask ∷ []
