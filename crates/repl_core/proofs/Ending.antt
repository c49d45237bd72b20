-- The end of an evaluation is that of the form that runs.
use Rattle.std.proofs.Common.{◌≡◌, Some, sym, ap, ◌∙◌}
use Rattle.repl_asks.specs.Inside.Jobs.{finished_view}
use Rattle.repl_asks.specs.Job.{EndData}
use Rattle.repl_asks.specs.declared.job.Finished.{Finished}
use Rattle.server_rules.specs.Request.{Run}
use Rattle.server_rules.specs.Tenant.{TenantState}
use Rattle.server_rules.specs.declared.actor.Actor.{Actor}
use Rattle.tenant_world.specs.Running.{IsEndOfForm, running_in}
use Rattle.repl_core.specs.Inside.Walked.{walk_ended}
use Rattle.repl_core.proofs.WalkSteps.{some-same}

pub end-of-form : (a : Actor) (q : TenantState) (run : Run) (e : Finished) (end : EndData)
    → running_in a q ≡ Some run → end ≡ finished_view e
    → IsEndOfForm (running_in a q) end (walk_ended run e)
end-of-form a q run e end some is = record {
  end = sym is;
  job = λ other runs. ap (λ r. r.job) (some-same run other (sym some ∙ runs));
  trace = λ other runs. ap (λ r. r.trace) (some-same run other (sym some ∙ runs));
}
