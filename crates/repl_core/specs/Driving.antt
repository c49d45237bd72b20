-- What a list of turns comes to.
use Rattle.std.specs.Prelude.{ℕ, ◌+◌, List, [], ◌∷◌}
use Rattle.server_rules.specs.Ground.{Ground}
use Rattle.server_rules.specs.Machine.Turns.{Turn, turn_step, world_after}
use Rattle.server_rules.specs.Machine.World.{World, Stepped, accepted, refused}
use Rattle.server_rules.specs.declared.refusal.Refusal.{Refusal}

-- the server behind a list of turns
abbrev pub world_after_all : Ground → World → List Turn → World
world_after_all g w [] = w
world_after_all g w (turn ∷ turns) = world_after_all g (world_after g w turn) turns

-- a turn that was refused: its place in the list, and why
pub record RefusedData : Type 0 where
  pub place : ℕ
  pub why : Refusal

abbrev pub with_refusal : ℕ → Stepped → List RefusedData → List RefusedData
with_refusal place (accepted w answer) rest = rest
with_refusal place (refused why) rest = record { place = place; why = why } ∷ rest

-- the refused turns of a list whose first turn has this place
abbrev pub refusals : Ground → World → ℕ → List Turn → List RefusedData
refusals g w place [] = []
refusals g w place (turn ∷ turns) =
    with_refusal place (turn_step g w turn) (refusals g (world_after g w turn) (place + 1) turns)
