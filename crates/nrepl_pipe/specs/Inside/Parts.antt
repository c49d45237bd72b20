-- What the parts of `pipe` come to.
use Rattle.std.specs.Prelude.{◌≡◌, ◌≢◌, ◌↔◌, ◌⊎◌, ℕ, ◌≤◌, List, [], ◌++◌, length, ⊤, true, false}
use Rattle.std.specs.Prelude.{Option}
use Rattle.std.specs.Io.KnownBytes.{Consumes, Appends}
use Rattle.server_rules.specs.Ground.{Ground}
use Rattle.server_rules.specs.declared.refusal.Refusal.{Refusal}
use Rattle.server_rules.specs.LoneTurns.{LoneTenant, LoneTurn, LoneStepped, refused, lone_run}
use Rattle.server_rules.specs.LoneTurns.{lone_served}
use Rattle.server_rules.specs.Inside.Turned.{AcceptedWith}
use Rattle.nrepl_pipe.specs.Schedule.{Rests, AllRest, AreRounds, MeetsWorn}
use Rattle.nrepl_pipe.specs.declared.stream.HearAnswer.{HearAnswer}
use Rattle.nrepl_pipe.specs.declared.actors.Turned.{Turned}
use Rattle.nrepl_pipe.specs.declared.actors.Round.{Round}
use Rattle.nrepl_pipe.specs.declared.rounds.Rounds.{Rounds}
use Rattle.nrepl_pipe.specs.declared.stream.TheConstants.{PIECE}

abbrev pub IsPiece : List ℕ → Type 0
IsPiece bytes = (1 ≤ length bytes) × (length bytes ≤ PIECE)

-- a read that failed consumed nothing, or a piece for which there was no memory
abbrev pub LosesPiece : Option (List ℕ) → Option (List ℕ) → Type 0
LosesPiece unread left =
    (bytes : List ℕ) × ((bytes ≡ []) ⊎ IsPiece bytes) × Consumes unread left bytes

-- what came of a piece
abbrev pub HearsSo : HearAnswer → (LoneTenant → Type 0) → LoneStepped → Type 0
HearsSo HearAnswer.Done Stands stepped = AcceptedWith Stands stepped
HearsSo HearAnswer.Worn Stands stepped = stepped ≡ refused Refusal.Worn

-- what came of an actor's turn
abbrev pub TurnsSo : Turned → LoneStepped → Type 0
TurnsSo Turned.Done stepped = AcceptedWith (λ l. ⊤) stepped
TurnsSo Turned.Held stepped = stepped ≡ refused Refusal.Held
TurnsSo Turned.Worn stepped = stepped ≡ refused Refusal.Worn
TurnsSo Turned.Idle stepped = Rests stepped × (stepped ≢ refused Refusal.Worn)

-- what is told of the turns of a round, with one more
abbrev pub with_turn : Round → Turned → Round
with_turn told Turned.Done = record told { is_last = false; uses_step = true }
with_turn told Turned.Held = record told { is_last = false }
with_turn told Turned.Worn = record told { is_worn = true }
with_turn told Turned.Idle = told

-- what is told of the turns of a round
pub record IsRound (told : Round) (g : Ground) (l : LoneTenant) (turns : List LoneTurn) : Type 0 where
  pub is_last : (told.is_last ≡ true) ↔ AllRest g l turns
  pub is_worn : (told.is_worn ≡ true) ↔ MeetsWorn g l turns

-- the turns were made, and what they serve was written
pub record MakesTurns (g : Ground) (Stands : LoneTenant → Type 0) (l : LoneTenant) (turns : List LoneTurn)
    (held holds : Option (List ℕ)) : Type 0 where
  pub appends : Appends held holds (lone_served g l turns)
  pub stands : Stands (lone_run g l turns)

-- what was written begins what the turns serve
pub record Begins (g : Ground) (l : LoneTenant) (turns : List LoneTurn) (held holds : Option (List ℕ))
    : Type 0 where
  pub written : List ℕ
  pub more : List ℕ
  pub appends : Appends held holds written
  pub begins : lone_served g l turns ≡ written ++ more

-- rounds end with a turn that met the end of the steps, or without one
abbrev pub EndsSo : Rounds → Ground → LoneTenant → List LoneTurn → Type 0
EndsSo Rounds.Idle g l turns = MeetsWorn g l turns → ⊥
EndsSo Rounds.Worn g l turns = MeetsWorn g l turns

abbrev pub MakesRounds
    : Ground → (LoneTenant → Type 0) → LoneTenant → Option (List ℕ) → Option (List ℕ) → Rounds → Type 0
MakesRounds g Stands l held holds end =
    (turns : List LoneTurn) × AreRounds g l turns × MakesTurns g Stands l turns held holds
    × EndsSo end g l turns

abbrev pub BeginsRounds : Ground → LoneTenant → Option (List ℕ) → Option (List ℕ) → Type 0
BeginsRounds g l held holds =
    (turns : List LoneTurn) × AreRounds g l turns × Begins g l turns held holds
