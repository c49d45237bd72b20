-- What is proved of every run of the server.
use Rattle.std.specs.Prelude.{◌≡◌, ◌≢◌, ℕ, List, Option, Some, Result, Ok, Err}
use Rattle.ref_history.specs.Versioned.{Ref}
use Rattle.server_rules.specs.Ground.{Ground}
use Rattle.server_rules.specs.Plan.{StepAnswer}
use Rattle.server_rules.specs.Machine.World.{World, Step, Stepped, accepted, refused, step}
use Rattle.server_rules.specs.Machine.World.{world_or}
use Rattle.server_rules.specs.Machine.World.{new_world, run}
use Rattle.server_rules.specs.Machine.Turns.{whose_step, Turn, serve, turns_of_tenant}
use Rattle.server_rules.specs.Isolation.View.{View, view_for}
use Rattle.server_rules.specs.Isolation.Privacy.{IsPrivateFor, Private, FirstOpen}
use Rattle.server_rules.specs.declared.refusal.Refusal.{Refusal}

-- another tenant's step leaves what a tenant sees
abbrev pub OthersLeaveIt : Type 0
OthersLeaveIt =
    (g : Ground) (w : World) (s : Step) (t : ℕ) → t ≢ whose_step s
    → view_for t (world_or w (step g w s)) ≡ view_for t w

abbrev pub answer_in : Stepped → Result StepAnswer Refusal
answer_in (accepted w answer) = Ok answer
answer_in (refused why) = Err why

pub record SameStep (g : Ground) (t : ℕ) (s : Step) (w x : World) : Type 0 where
  pub answer : answer_in (step g w s) ≡ answer_in (step g x s)
  pub view : view_for t (world_or w (step g w s)) ≡ view_for t (world_or x (step g x s))

-- Whatever happened on two servers: where they look alike to a tenant that was opened, a step of it
-- that names no shared ref is answered alike, and leaves them looking alike.
abbrev pub AlikeStaysAlike : Type 0
AlikeStaysAlike =
    (g : Ground) (shared_refs other_refs : List Ref) (steps other_steps : List Step)
    (s : Step) (v : Option View)
    → let t = whose_step s in
    let w = run g (new_world shared_refs) steps in
    let x = run g (new_world other_refs) other_steps in
    IsPrivateFor t s → view_for t w ≡ Some v → view_for t x ≡ Some v → SameStep g t s w x

-- A tenant that names no shared ref is served as if its turns were alone.
abbrev pub ServedAlone : Type 0
ServedAlone =
    (g : Ground) (shared_refs : List Ref) (turns : List Turn) (t : ℕ)
    → let w = new_world shared_refs in
    FirstOpen g w turns t → Private g w turns t
    → serve g w turns t ≡ serve g w (turns_of_tenant t turns) t
