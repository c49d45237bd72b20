-- What evaluations stand on: forms are evaluated as the language says.
use Rattle.std.specs.Prelude.{◌≡◌}
use Rattle.repl_asks.specs.Job.{JobData}
use Rattle.server_rules.specs.Ground.{Ground}
use Rattle.evaluation_rules.specs.Evaluation.{evaluation}

pub record Evaluates (g : Ground) : Type 0 where
  pub evaluation : (job : JobData) → g.evaluation job ≡ evaluation job
