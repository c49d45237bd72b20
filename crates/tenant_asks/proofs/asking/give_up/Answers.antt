use Rattle.std.proofs.Common.{sym, ◌∙◌}
use Rattle.server_rules.specs.Tenant.{seat_of}
use Rattle.tenant_asks.proofs.Answering.{stays-memory}
use Rattle.tenant_parts.proofs.Serving.{holds-left}
use Rattle.tenant_asks.proofs.asking.give_up.Goals as goal

pub returns-in_err-interrupt-clause-stays : goal.returns-in_err-interrupt-clause-stays
returns-in_err-interrupt-clause-stays c = λ g q s r remembers holds.
    stays-memory c.from_residual.result _ _ _
    c.from_residual.ensures.1
    (c.in_err-interrupt.ensures.stays g s.tenant q remembers) holds

pub returns-clause-gone : goal.returns-clause-gone
returns-clause-gone c = λ g q s r remembers holds. (
  sym (c.is_told.ensures s r holds) ∙ c.if-not-is_told.false,
  c.in_ok-interrupt.ensures.told g s.tenant q remembers,
  holds-left c.args.refs.now c.args.attempts.now c.leave.new.self (seat_of c.args.actor) s r holds
      c.leave.ensures.tenant (c.leave.ensures.left s.mine.points holds.reaches.points),
)

pub returns-in_err-interrupt-clause-no_memory : goal.returns-in_err-interrupt-clause-no_memory
returns-in_err-interrupt-clause-no_memory c = λ s r holds none.
    sym (c.is_told.ensures s r holds) ∙ c.if-not-is_told.false
