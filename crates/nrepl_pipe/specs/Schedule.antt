-- The schedule of `pipe`: the turns that the pieces of a stream bring about.
use Rattle.std.specs.Prelude.{◌≡◌, ◌≢◌, ◌⊎◌, ℕ, ◌≤◌, List, [], ◌∷◌, ◌++◌, length, ⊤, None}
use Rattle.bencode_wire.specs.Stream.{StreamEnding, rest, fault}
use Rattle.bencode_wire.specs.Fault.{counted_place, fault_at}
use Rattle.repl_replies.specs.Replies.{ReplyData}
use Rattle.server_rules.specs.Ground.{Ground}
use Rattle.server_rules.specs.Hearing.{stream_fault}
use Rattle.server_rules.specs.declared.actor.Actor.{Actor}
use Rattle.server_rules.specs.declared.refusal.Refusal.{Refusal}
use Rattle.server_rules.specs.LoneTurns.{LoneTenant, LoneTurn, hears, goes, drains, actors_of}
use Rattle.server_rules.specs.LoneTurns.{LoneStepped}
use Rattle.server_rules.specs.LoneTurns.{accepted, refused, lone_step, lone_after, lone_run}
use Rattle.nrepl_pipe.specs.declared.ends.PipeEnd.{PipeEnd}
use Rattle.nrepl_pipe.specs.declared.stream.TheConstants.{PIECE}

-- a piece has 1 to 4,096 bytes
abbrev pub ArePieces : List (List ℕ) → Type 0
ArePieces [] = ⊤
ArePieces (piece ∷ pieces) = (1 ≤ length piece) × (length piece ≤ PIECE) × ArePieces pieces

-- each of these actors goes on once
abbrev pub go_each : List Actor → List LoneTurn
go_each [] = []
go_each (actor ∷ actors) = goes actor ∷ go_each actors

-- each reply that waits is taken out
abbrev pub drain_all : List ReplyData → List LoneTurn
drain_all [] = []
drain_all (reply ∷ replies) = drains ∷ drain_all replies

-- a round: each actor that is there as it begins goes on once, and then the replies that wait are
-- taken out
abbrev pub round : Ground → LoneTenant → List LoneTurn
round g l = go_each (actors_of l) ++ drain_all (lone_run g l (go_each (actors_of l))).state.replies

-- the turn is refused, and not for the replies that wait
abbrev pub Rests : LoneStepped → Type 0
Rests (accepted new bytes) = ⊥
Rests (refused why) = why ≢ Refusal.Held

-- each of these turns is refused, and none for the replies that wait
abbrev pub AllRest : Ground → LoneTenant → List LoneTurn → Type 0
AllRest g l [] = ⊤
AllRest g l (turn ∷ turns) = Rests (lone_step g l turn) × AllRest g (lone_after g l turn) turns

-- the round in which no actor goes on, nor waits for replies to be taken out
abbrev pub IsLast : Ground → LoneTenant → Type 0
IsLast g l = AllRest g l (go_each (actors_of l))

-- the turns of the rounds behind a piece
pub data AreRounds (g : Ground) : LoneTenant → List LoneTurn → Type 0 where
  last : (l : LoneTenant) → IsLast g l → AreRounds g l (round g l)
  more : (l : LoneTenant) (turns : List LoneTurn) → (IsLast g l → ⊥)
      → AreRounds g (lone_run g l (round g l)) turns → AreRounds g l (round g l ++ turns)

-- a turn was refused since all steps were used up
abbrev pub MeetsWorn : Ground → LoneTenant → List LoneTurn → Type 0
MeetsWorn g l [] = ⊥
MeetsWorn g l (turn ∷ turns) =
    (lone_step g l turn ≡ refused Refusal.Worn) ⊎ MeetsWorn g (lone_after g l turn) turns

-- reading goes on behind these turns: no turn met the end of the steps, and the stream has no fault
abbrev pub ReadsOn : Ground → LoneTenant → List LoneTurn → Type 0
ReadsOn g l turns =
    (MeetsWorn g l turns → ⊥) × (stream_fault g.readings (lone_run g l turns).state.heard ≡ None)

-- each piece is heard and rounds follow; another piece is read only where reading goes on
abbrev pub IsSchedule : Ground → LoneTenant → List (List ℕ) → List LoneTurn → Type 0
IsSchedule g l [] turns = turns ≡ []
IsSchedule g l (piece ∷ pieces) turns =
    (rounds : List LoneTurn) × (behind : List LoneTurn)
    × AreRounds g (lone_after g l (hears piece)) rounds
    × (pieces ≢ [] → ReadsOn g l (hears piece ∷ rounds))
    × IsSchedule g (lone_run g l (hears piece ∷ rounds)) pieces behind
    × (turns ≡ (hears piece ∷ rounds) ++ behind)

-- how a stream of these bytes ends
abbrev pub stream_end : StreamEnding → PipeEnd
stream_end (rest []) = PipeEnd.Whole
stream_end (rest (byte ∷ m)) = PipeEnd.Truncated
stream_end (fault rule at) = PipeEnd.Broken (fault_at rule (counted_place at))

-- wherever a turn met the end of the steps, that is the end; else what was read says how it ends
abbrev pub IsEnd : Ground → LoneTenant → List LoneTurn → List ℕ → PipeEnd → Type 0
IsEnd g l turns read end =
    (MeetsWorn g l turns × (end ≡ PipeEnd.Worn))
    ⊎ ((MeetsWorn g l turns → ⊥) × (end ≡ stream_end (g.readings.stream read).ending))
