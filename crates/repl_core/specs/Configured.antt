-- What a server with a configuration stands on.
use Rattle.std.specs.Prelude.{◌≡◌, List, ℕ, [], Ok, Err}
use Rattle.std.specs.Arc.{arc_str_bytes}
use Rattle.repl_values.specs.Failure.{Failure}
use Rattle.repl_asks.specs.Job.{JobData}
use Rattle.repl_asks.specs.InteractionTree.{InteractionTree}
use Rattle.evaluation_rules.specs.Evaluation.{evaluation}
use Rattle.server_rules.specs.Readings.{Readings, AreRight}
use Rattle.server_rules.specs.Shared.{shared_by_text}
use Rattle.server_rules.specs.Ground.{Ground}
use Rattle.server_rules.specs.Grounds.{IsRight}
use Rattle.repl_core.specs.Grounds.{Evaluates}
use Rattle.repl_core.specs.declared.machine.Config.{Config}
use Rattle.repl_core.specs.declared.machine.SharedText.{SharedText}
use Rattle.repl_core.specs.declared.machine.TheConstants.{PLACES}

abbrev pub shared_text : SharedText → List ℕ
shared_text SharedText.Empty = []
shared_text (SharedText.Text text) = arc_str_bytes text

-- it reads, compares and evaluates as it is to, has the numbers of the configuration, and shares
-- what the configuration's text comes to
pub record IsConfigured (g : Ground) (config : Config) : Type 0 where
  pub right : IsRight g
  pub evaluates : Evaluates g
  pub seed : g.seed ≡ config.seed
  pub steps : g.steps ≡ config.steps
  pub retries : g.retries ≡ config.retries
  pub places : g.places ≡ PLACES
  pub shared : shared_by_text g.readings g.evaluation (shared_text config.shared) ≡ Ok g.shared

-- that text has this fault, as it is to be read and evaluated: then there is no server
abbrev pub TextFaults : Config → Failure → Type 0
TextFaults config f =
    (r : Readings) (e : JobData → InteractionTree) → AreRight r
    → ((job : JobData) → e job ≡ evaluation job)
    → shared_by_text r e (shared_text config.shared) ≡ Err f
