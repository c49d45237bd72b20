use Rattle.std.proofs.Common.{◌∙◌, sym}
use Rattle.repl_core.proofs.Comings.{refuses-used, refuses-full, does-open, refuses-memory}
use Rattle.repl_core.proofs.Comings.{le-true, lt-false, accepts-open}
use Rattle.repl_core.proofs.Behind.{machine_with, stands-with}
use Rattle.repl_core.proofs.machine.Machine.open.Goals as goal

pub returns-then-is_reached-clause-refused : goal.returns-then-is_reached-clause-refused
returns-then-is_reached-clause-refused c = λ g w right s.
    refuses-used g w c.args.number c.args.self.now s
    (sym c.is_reached.ensures ∙ c.if-is_reached.true)

pub returns-then-self-clause-refused : goal.returns-then-self-clause-refused
returns-then-self-clause-refused c = λ g w right s.
    refuses-full g w c.args.number c.args.self.now s
    (sym c.is_reached.ensures ∙ c.if-is_reached.false) (le-true _ _ c.if-self.true)

pub returns-in_err-tenant-clause-refused : goal.returns-in_err-tenant-clause-refused
returns-in_err-tenant-clause-refused c = λ g w right s.
    refuses-memory g w c.args.number c.args.self.now
    c.from_residual-in_err-tenant.result c.from_residual-in_err-tenant.ensures.1 s

pub returns-in_err-add-clause-refused : goal.returns-in_err-add-clause-refused
returns-in_err-add-clause-refused c = λ g w right s.
    let m = c.args.self.now in
    refuses-memory g w c.args.number (machine_with m c.add.new.self m.refs)
    c.from_residual-in_err-add.result c.from_residual-in_err-add.ensures.1
    (stands-with g m w c.add.new.self s c.in_err-add.ensures.stays)

pub returns-clause-done : goal.returns-clause-done
returns-clause-done c = λ g w right s.
    does-open g w c.args.number c.args.self.now c.add.new.self c.in_ok-tenant.tenant s
    (sym c.is_reached.ensures ∙ c.if-is_reached.false) (lt-false _ _ c.if-self.false)
    (λ st same points.
    c.in_ok-tenant.ensures g right (s.names ∙ sym c.in_ok-names.ensures) s.seed s.steps s.retries st same points)
    c.in_ok-add.ensures.added c.in_ok-add.ensures.others

pub returns-in_err-names-clause-no_memory : goal.returns-in_err-names-clause-no_memory
returns-in_err-names-clause-no_memory c = λ g w right s none.
    accepts-open g w c.args.number c.args.self.now s
    (sym c.is_reached.ensures ∙ c.if-is_reached.false) (lt-false _ _ c.if-self.false)

pub returns-in_err-tenant-clause-no_memory : goal.returns-in_err-tenant-clause-no_memory
returns-in_err-tenant-clause-no_memory c = λ g w right s none.
    accepts-open g w c.args.number c.args.self.now s
    (sym c.is_reached.ensures ∙ c.if-is_reached.false) (lt-false _ _ c.if-self.false)

pub returns-in_err-add-clause-no_memory : goal.returns-in_err-add-clause-no_memory
returns-in_err-add-clause-no_memory c = λ g w right s none.
    accepts-open g w c.args.number c.args.self.now s
    (sym c.is_reached.ensures ∙ c.if-is_reached.false) (lt-false _ _ c.if-self.false)
