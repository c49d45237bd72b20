-- How far a trace led an evaluation.
use Rattle.std.specs.Prelude.{◌≡◌, List, ◌++◌}
use Rattle.repl_asks.specs.Exchange.{Exchanged}
use Rattle.repl_asks.specs.Job.{JobData}
use Rattle.repl_asks.specs.InteractionTree.{InteractionTree}
use Rattle.repl_asks.specs.Leading.{Leads}
use Rattle.evaluation_rules.specs.Evaluation.{evaluation}

-- the evaluation of a job was led by this trace to what is still done
abbrev pub LedTo : JobData → List Exchanged → InteractionTree → Type 0
LedTo job trace t = ∥ Leads (evaluation job) trace t ∥₁

-- a trace grew by exchanges that lead from one tree to the other
abbrev pub Led : InteractionTree → List Exchanged → List Exchanged → InteractionTree → Type 0
Led start old new end = (more : List Exchanged) × (new ≡ old ++ more) × Leads start more end

-- the same, and the exchanges were written down
abbrev pub Recorded : InteractionTree → List Exchanged → List Exchanged → List Exchanged
    → List Exchanged → InteractionTree → Type 0
Recorded start old new kept_old kept_new end =
    (more : List Exchanged) × (new ≡ old ++ more) × (kept_new ≡ kept_old ++ more)
    × Leads start more end
