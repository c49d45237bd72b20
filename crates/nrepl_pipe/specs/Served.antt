-- What `pipe` serves: `read` was taken from the reader, and `written` was given to the writer.
use Rattle.std.specs.Prelude.{◌≡◌, ℕ, List, ◌++◌, ⊤, Option, Result, Ok, Err}
use Rattle.std.specs.Io.KnownBytes.{Consumes, Appends, IsAtEnd}
use Rattle.bencode_wire.specs.Spelling.{spellings_joined}
use Rattle.server_rules.specs.Ground.{Ground}
use Rattle.server_rules.specs.LoneTurns.{LoneTenant, LoneTurn, lone_served}
use Rattle.nrepl_pipe.specs.Schedule.{ArePieces, IsSchedule, IsEnd}
use Rattle.nrepl_pipe.specs.declared.ends.PipeEnd.{PipeEnd}
use Rattle.nrepl_pipe.specs.declared.ends.PipeError.{PipeError}

-- for some cutting of what was read into pieces, what was written is what the schedule of these
-- pieces serves
pub record ServesSoFar (g : Ground) (l : LoneTenant) (read written : List ℕ) : Type 0 where
  pub pieces : List (List ℕ)
  pub turns : List LoneTurn
  pub are_pieces : ArePieces pieces
  pub cutting : spellings_joined pieces ≡ read
  pub schedule : IsSchedule g l pieces turns
  pub written_is : written ≡ lone_served g l turns

-- and so it ends
pub record Serves (g : Ground) (l : LoneTenant) (read written : List ℕ) (end : PipeEnd) : Type 0 where
  pub all : ServesSoFar g l read written
  pub is_end : IsEnd g l all.turns read end

-- what was written begins what the schedule of these pieces serves
pub record BeginsToServe (g : Ground) (l : LoneTenant) (read written : List ℕ) : Type 0 where
  pub pieces : List (List ℕ)
  pub turns : List LoneTurn
  pub are_pieces : ArePieces pieces
  pub cutting : spellings_joined pieces ≡ read
  pub schedule : IsSchedule g l pieces turns
  pub more : List ℕ
  pub begins : lone_served g l turns ≡ written ++ more

-- whole and truncated input was read to its end
abbrev pub IsReadUp : PipeEnd → Option (List ℕ) → Type 0
IsReadUp PipeEnd.Whole left = IsAtEnd left
IsReadUp PipeEnd.Truncated left = IsAtEnd left
IsReadUp _ left = ⊤

-- the bytes that a reader loses and a writer gains are these, as far as they tell their bytes
abbrev pub Moves
    : Option (List ℕ) → Option (List ℕ) → Option (List ℕ) → Option (List ℕ)
    → (List ℕ → List ℕ → Type 0) → Type 0
Moves unread left held holds are =
    (read : List ℕ) × (written : List ℕ)
    × Consumes unread left read × Appends held holds written × are read written

-- where it ends well, all that the schedule serves was written; after an error a part of it from
-- its front
abbrev pub IsPipeOutcome
    : Ground → LoneTenant → Option (List ℕ) → Option (List ℕ) → Option (List ℕ) → Option (List ℕ)
    → Result PipeEnd PipeError → Type 0
IsPipeOutcome g l unread left held holds (Ok end) =
    Moves unread left held holds (λ read written. Serves g l read written end) × IsReadUp end left
IsPipeOutcome g l unread left held holds (Err error) =
    Moves unread left held holds (λ read written. BeginsToServe g l read written)
