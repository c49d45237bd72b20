use Rattle.std.proofs.Common.{Some, ap}
use Rattle.server_rules.specs.Plan.{form_begun}
use Rattle.tenant_parts.specs.View.{hand_view}
use Rattle.tenant_moves.specs.Starts.{with_run}
use Rattle.tenant_moves.proofs.starting.run_form.Goals as goal

pub returns : goal.returns
returns c = λ g same.
    let h = hand_view c.args.hand.now in
    record {
      told = record {
        replies = c.new-effects.ensures.replies;
        state = c.new-effects.ensures.state;
      };
      hand = ap (λ job. Some (with_run h job)) (c.in_ok-job.ensures g same);
      answer = ap form_begun (c.in_ok-given.ensures g same);
    }
