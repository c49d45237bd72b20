-- What an attempt reads, whatever others commit meanwhile.
use Rattle.std.specs.Prelude.{◌≡◌, ◌⊎◌, ◌≤◌, ℕ, List, Option, Some, None, option_map}
use Rattle.std.specs.Prelude.{option_and_then, unwrap_or}
use Rattle.value_data.specs.Datum.{Datum, shared}
use Rattle.repl_asks.specs.Transactions.{RefNameData}
use Rattle.repl_asks.specs.Exchange.{AskData, AnswerData, read, min_history, max_history, done}
use Rattle.repl_asks.specs.Exchange.{reading, ReadingData, found, retry}
use Rattle.ref_history.specs.Versioned.{Ref, at_point}
use Rattle.ref_table.specs.Calls.{number_told}
use Rattle.server_rules.specs.Ground.{Ground}
use Rattle.server_rules.specs.Plan.{StepAnswer, asks_for, ask_answered}
use Rattle.server_rules.specs.Machine.World.{World, Step, does, accepted, step, run}
use Rattle.server_rules.specs.declared.actor.Actor.{Actor}
use Rattle.repl_core.specs.Commits.{ref_in_world, point_in}

-- what a ref held at a point: its newest version at or before it
abbrev pub held_at : ℕ → Option Ref → Option Datum
held_at point = option_and_then (λ r. at_point point r.versions)

-- to read again, or what the ref held at the point
abbrev pub IsOfPoint : ℕ → Option Ref → AnswerData → Type 0
IsOfPoint point r answer =
    (answer ≡ reading retry)
    ⊎ ((d : Datum) × (answer ≡ reading (found d)) × (held_at point r ≡ Some d))

-- Where a step is a read in an attempt, its answer is what the ref held at the attempt's read
-- point, or that the attempt is to be made again: whatever its history has lost since.
abbrev pub IsReadOfItsPoint : World → Step → StepAnswer → Type 0
IsReadOfItsPoint w s answer =
    (t : ℕ) (a : Actor) (name : RefNameData) (told : AnswerData) (point : ℕ)
    → s ≡ does t (asks_for a (read name)) → answer ≡ ask_answered told
    → point_in t a w ≡ Some point → IsOfPoint point (ref_in_world name w) told

abbrev pub ReadsAreOfTheirPoint : Type 0
ReadsAreOfTheirPoint =
    (g : Ground) (w after : World) (s : Step) (answer : StepAnswer)
    → step g w s ≡ accepted after answer → IsReadOfItsPoint w s answer

abbrev pub shared_ref : ℕ → RefNameData
shared_ref number = record { owner = shared; number = number }

-- What a shared ref held at a point that the commits have come to, it has held there after any
-- steps.
abbrev pub WhatWasHeldStays : Type 0
WhatWasHeldStays =
    (g : Ground) (w : World) (steps : List Step) (number point : ℕ) → point ≤ w.around.counter
    → held_at point (ref_in_world (shared_ref number) (run g w steps))
    ≡ held_at point (ref_in_world (shared_ref number) w)

abbrev pub reading_of : Option Datum → ReadingData
reading_of (Some d) = found d
reading_of None = retry

abbrev pub bound_told : (Ref → ℕ) → Option Ref → AnswerData
bound_told bound r = number_told (unwrap_or (option_map bound r) 0)

-- What a shared ref tells an attempt with this read point: the value that it held then, and its
-- bounds, which nobody sets. It does not tell its history.
abbrev pub told_at : ℕ → World → AskData → AnswerData
told_at point w (read name) = reading (reading_of (held_at point (ref_in_world name w)))
told_at point w (min_history name set) = bound_told (λ r. r.least) (ref_in_world name w)
told_at point w (max_history name set) = bound_told (λ r. r.most) (ref_in_world name w)
told_at point w ask = done
