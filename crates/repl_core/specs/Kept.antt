-- Steps that end a form by the job and the trace that are kept of it.
use Rattle.std.specs.Prelude.{◌≡◌, ℕ, ⊤, Some}
use Rattle.server_rules.specs.Machine.World.{World, Step, opens, does, closes}
use Rattle.server_rules.specs.Plan.{Deed, hears, starts, asks_for, ends, drains}
use Rattle.server_rules.specs.Request.{Run}
use Rattle.repl_core.specs.AttemptsUnderWay.{form_in}

abbrev pub EndsAsKeptBy : World → ℕ → Deed → Type 0
EndsAsKeptBy w t (ends a e) =
    (run : Run) → form_in t a w ≡ Some run → (e.job ≡ run.job) × (e.trace ≡ run.trace)
EndsAsKeptBy w t (starts a) = ⊤
EndsAsKeptBy w t (asks_for a ask) = ⊤
EndsAsKeptBy w t (hears piece) = ⊤
EndsAsKeptBy w t drains = ⊤

-- where a form of the actor runs, it has this job and this trace; of steps that end none, nothing
abbrev pub EndsAsKept : World → Step → Type 0
EndsAsKept w (does t d) = EndsAsKeptBy w t d
EndsAsKept w (opens t) = ⊤
EndsAsKept w (closes t) = ⊤
