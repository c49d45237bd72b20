use Rattle.std.proofs.Common.{◌≡◌, ◌⊎◌, inl, inr, refl, Result, Ok, Err}
use Rattle.repl_values.specs.Failure.{Failure}
use Rattle.evaluation_rules.specs.Evaluation.{evaluation}
use Rattle.server_rules.specs.Readings.{Readings, AreRight}
use Rattle.server_rules.specs.Comparisons.{Comparisons, AreExact}
use Rattle.server_rules.specs.Ground.{Ground}
use Rattle.server_rules.specs.Shared.{SharedData, shared_by_text}
use Rattle.repl_core.specs.Configured.{IsConfigured, shared_text}
use Rattle.repl_core.specs.Starting.{HasFault}
use Rattle.repl_core.specs.declared.machine.Config.{Config}
use Rattle.repl_core.specs.declared.machine.TheConstants.{PLACES}
use Rattle.repl_core.proofs.laws.every_configuration_has_a_ground.Goals as goal

abbrev ground : Config → Readings → Comparisons → SharedData → Ground
ground config readings comparisons shared = record {
  readings = readings;
  comparisons = comparisons;
  evaluation = evaluation;
  seed = config.seed;
  steps = config.steps;
  retries = config.retries;
  places = PLACES;
  shared = shared;
}

starts : (config : Config) (r : Readings) (c : Comparisons) → AreRight r → AreExact c
    → (made : Result SharedData Failure) → shared_by_text r evaluation (shared_text config.shared) ≡ made
    → ((g : Ground) × IsConfigured g config) ⊎ HasFault config
starts config r c right exact (Ok shared) is = inl (
  ground config r c shared,
  record {
    right = record { readings = right; comparisons = exact };
    evaluates = record { evaluation = λ job. refl };
    seed = refl;
    steps = refl;
    retries = refl;
    places = refl;
    shared = is;
  },
)
starts config r c right exact (Err failure) is =
    inr (record { readings = r; right = right; failure = failure; faults = is })

pub returns : goal.returns
returns c = λ config.
    let there = c.there_is_one_right_reading.ensures.there in
    let compared = c.exact_comparisons_exist.ensures in
    starts config there.0 compared.0 there.1 compared.1 _ refl
