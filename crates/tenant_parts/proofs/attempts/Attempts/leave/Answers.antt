use Rattle.tenant_parts.proofs.Points.{points-left}
use Rattle.tenant_parts.proofs.attempts.Attempts.leave.Goals as goal

pub returns-clause-left : goal.returns-clause-left
returns-clause-left c = λ points are.
    points-left c.args.self.now
    (record { tenant = c.args.self.now.tenant; points = c.remove.new.self }) c.args.actor points c.remove.ensures.updates.0 are
