use Rattle.std.proofs.Common.{◌≡◌, take}
use Rattle.repl_asks.specs.Inside.Jobs.{job_view}
use Rattle.repl_asks.specs.Leading.{tree_after}
use Rattle.repl_walker.specs.Steps.{reached_tree}
use Rattle.evaluation_rules.specs.Evaluation.{evaluation}
use Rattle.tenant_parts.specs.View.{kept_trace}
use Rattle.repl_core.proofs.finding.evaluation_of.Given as goal

-- so far the trace led the evaluation
abbrev pub invariant-loop-exchange : goal.invariant-loop-exchange
invariant-loop-exchange l = reached_tree l.reached
    ≡ tree_after (evaluation (job_view l.run.job)) (kept_trace (take l.exchange-index l.exchange-items))
