-- Attempts at transactions that are under way in a server, and what shared refs told them.
use Rattle.std.specs.Prelude.{◌≡◌, ◌≤◌, ℕ, List, ◌∷◌, ◌++◌, Bool, true, false, Option, Some}
use Rattle.std.specs.Prelude.{option_and_then}
use Rattle.std.specs.List.{AllByRecursion}
use Rattle.repl_asks.specs.Exchange.{AskData, Exchanged, begin, commit, done}
use Rattle.repl_walker.specs.Agreeing.{AreToldBy}
use Rattle.server_rules.specs.Ground.{Ground}
use Rattle.server_rules.specs.Request.{Run}
use Rattle.server_rules.specs.Machine.World.{World, Step, opened_world, run}
use Rattle.server_rules.specs.declared.actor.Actor.{Actor}
use Rattle.tenant_world.specs.Running.{running_in}
use Rattle.repl_core.specs.Standing.{open_in}
use Rattle.repl_core.specs.Commits.{point_in}
use Rattle.repl_core.specs.Points.{told_at}

-- the form of an actor that runs
abbrev pub form_in : ℕ → Actor → World → Option Run
form_in t a w = option_and_then (λ kept. running_in a kept.state) (open_in t w)

abbrev pub begun_attempt : Exchanged
begun_attempt = record { ask = begin; answer = done }

-- with the first an attempt begins, and with the second it ends
abbrev pub is_within : AskData → Bool
is_within begin = false
is_within (commit intent) = false
is_within ask = true

-- An actor's attempt: its read point, and the form that runs, whose trace is parted where the
-- attempt began.
pub record UnderWay (w : World) (t : ℕ) (a : Actor) : Type 0 where
  pub point : ℕ
  pub began : point_in t a w ≡ Some point
  pub form : Run
  pub runs : form_in t a w ≡ Some form
  pub before : List Exchanged
  pub since : List Exchanged
  pub parted : form.trace ≡ before ++ begun_attempt ∷ since
  pub within : AllByRecursion (λ x. is_within x.ask ≡ true) since

-- Whatever happened: an actor with a read point has an attempt under way.
abbrev pub PointsAreOfAttempts : Type 0
PointsAreOfAttempts =
    (g : Ground) (steps : List Step) (t : ℕ) (a : Actor) (point : ℕ)
    → let w = run g (opened_world g) steps in
    point_in t a w ≡ Some point → UnderWay w t a

-- Whatever happened: the commits have come to the read point of each attempt, and all that shared
-- refs told it is of that point.
abbrev pub AttemptsAreToldTheirPoint : Type 0
AttemptsAreToldTheirPoint =
    (g : Ground) (steps : List Step) (t : ℕ) (a : Actor)
    → let w = run g (opened_world g) steps in
    (it : UnderWay w t a) → (it.point ≤ w.around.counter) × AreToldBy (told_at it.point w) it.since
