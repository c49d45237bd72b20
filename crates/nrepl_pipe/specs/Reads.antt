-- The reads of a stream, and when they are made.
use Rattle.std.specs.Prelude.{◌≡◌, ℕ, List, [], ◌∷◌, ◌++◌, ⊤, Option, None, Some, Result, OnOk}
use Rattle.server_rules.specs.Ground.{Ground}
use Rattle.server_rules.specs.LoneTurns.{LoneTenant}
use Rattle.nrepl_pipe.specs.Served.{Moves, ServesSoFar}
use Rattle.nrepl_pipe.specs.declared.stream.TheConstants.{PIECE}

-- a read, as it begins
pub record ReadAt : Type 0 where
  -- how many bytes there is room for
  pub room : ℕ
  -- what the reader has left, what was written, and what of that the writer has passed on, where
  -- they are known
  pub unread : Option (List ℕ)
  pub written : Option (List ℕ)
  pub passed : Option (List ℕ)

-- the reads that were made since, as far as they are known
abbrev pub ReadsSince : Option (List ReadAt) → Option (List ReadAt) → List ReadAt → Type 0
ReadsSince None now since = ⊤
ReadsSince (Some before) None since = ⊥
ReadsSince (Some before) (Some now) since = now ≡ before ++ since

-- it has room for a whole piece, and all is written by then that what was read serves
abbrev pub IsPrompt : Ground → LoneTenant → Option (List ℕ) → Option (List ℕ) → ReadAt → Type 0
IsPrompt g l unread held r =
    (r.room ≡ PIECE) × Moves unread r.unread held r.written (ServesSoFar g l)

abbrev pub ArePrompt : Ground → LoneTenant → Option (List ℕ) → Option (List ℕ) → List ReadAt → Type 0
ArePrompt g l unread held [] = ⊤
ArePrompt g l unread held (r ∷ rs) = IsPrompt g l unread held r × ArePrompt g l unread held rs

-- no read is made before the replies to what was read are written
abbrev pub ReadsPromptly
    : Ground → LoneTenant → Option (List ℕ) → Option (List ℕ) → Option (List ReadAt)
    → Option (List ReadAt) → Type 0
ReadsPromptly g l unread held before now =
    (since : List ReadAt) × ReadsSince before now since × ArePrompt g l unread held since

-- the writer holds nothing back, as far as that is known
abbrev pub IsPassedOn : Option (List ℕ) → Option (List ℕ) → Type 0
IsPassedOn written None = ⊤
IsPassedOn written (Some passed) = written ≡ Some passed

abbrev pub ArePassedOn : List ReadAt → Type 0
ArePassedOn [] = ⊤
ArePassedOn (r ∷ rs) = IsPassedOn r.written r.passed × ArePassedOn rs

-- no read is made while the writer holds something back
abbrev pub ReadsPassedOn : Option (List ReadAt) → Option (List ReadAt) → Type 0
ReadsPassedOn before now =
    (since : List ReadAt) × ReadsSince before now since × ArePassedOn since

-- where the writer held nothing back before, it does at no read, nor where the stream ends well
abbrev pub HoldsNothingBack
    : {A E : Type 0} → Option (List ℕ) → Option (List ℕ) → Option (List ℕ) → Option (List ℕ)
    → Option (List ReadAt) → Option (List ReadAt) → Result A E → Type 0
HoldsNothingBack held passed holds passes before now result =
    IsPassedOn held passed → ReadsPassedOn before now × OnOk result (IsPassedOn holds passes)
