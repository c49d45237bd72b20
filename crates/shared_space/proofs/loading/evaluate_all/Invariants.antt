use Rattle.std.proofs.Common.{◌≡◌, false, drop}
use Rattle.value_data.specs.Inside.View.{items_view}
use Rattle.repl_asks.specs.Job.{JobData}
use Rattle.repl_asks.specs.InteractionTree.{InteractionTree}
use Rattle.server_rules.specs.Shared.{shared_by_forms}
use Rattle.shared_space.specs.Loaded.{EvaluatesJobs}
use Rattle.shared_space.specs.Told.{shared_so_far}
use Rattle.shared_space.proofs.loading.evaluate_all.Given as goal

abbrev pub invariant-loop-form : goal.invariant-loop-form
invariant-loop-form l = record {
  goes_on : l.teller.stopped ≡ false;
  so_far : (e : JobData → InteractionTree) → EvaluatesJobs e
      → shared_by_forms e (items_view (drop l.form-index l.forms)) (shared_so_far l.teller)
      ≡ shared_by_forms e (items_view l.forms) (shared_so_far l.fn.teller);
}
