use Rattle.std.proofs.Common.{◌≡◌, [], ◌∷◌, subst}
use Rattle.repl_asks.specs.Inside.Jobs.{job_view}
use Rattle.repl_asks.specs.Inside.View.{exchange_view}
use Rattle.repl_asks.specs.Leading.{tree_after}
use Rattle.repl_asks.specs.declared.exchange.Exchange.{Exchange}
use Rattle.repl_walker.specs.Steps.{reached_tree}
use Rattle.evaluation_rules.specs.Evaluation.{evaluation}
use Rattle.repl_core.proofs.WalkSteps.{led-further}
use Rattle.repl_core.proofs.finding.evaluation_of.Goals as goal

pub loop-exchange-preserved : goal.loop-exchange-preserved
loop-exchange-preserved c =
    led-further (evaluation (job_view c.args.run.now.job)) c.deref-exchange-items.result.now
    c.loop-exchange.exchange-index c.exchange-item.result c.loop-exchange.reached
    c.in_ok-reached-2.reached c.loop-exchange-test.true c.exchange-item.is
    c.loop-exchange.invariant
    (subst (λ (e : Exchange). reached_tree c.in_ok-reached-2.reached
    ≡ tree_after (reached_tree c.loop-exchange.reached) (exchange_view e ∷ []))
    c.deref.ensures c.in_ok-reached-2.ensures)
