use Rattle.std.proofs.Common.{◌≡◌, ℕ, ◌∙◌, ap, sym, Some, Ok, Err}
use Rattle.server_rules.specs.Plan as deeds
use Rattle.server_rules.specs.Plan.{reply_given}
use Rattle.server_rules.specs.declared.refusal.Refusal.{Refusal}
use Rattle.repl_core.proofs.Stores.{serves-all-still, drains-reached}
use Rattle.repl_core.specs.Standing.{store_in}
use Rattle.server_rules.specs.Machine.World.{does}
use Rattle.repl_core.specs.TenantAt.{tenant_at}
use Rattle.repl_core.proofs.Behind.{does-so, refuses-so, refuses-none, accepts-so}
use Rattle.repl_core.proofs.Behind.{refuses-unmade, machine_with, stands-with}
use Rattle.repl_core.proofs.Places.{left-so, all-places}
use Rattle.repl_core.proofs.machine.Machine.drain_copied.Goals as goal

pub returns-in_default-clause-refused : goal.returns-in_default-clause-refused
returns-in_default-clause-refused c = λ g w right s.
    refuses-none g w c.args.number deeds.drains c.args.self.now c.get_mut.follows.lender-at-none s
    (sym c.in_default.ensures.value) (c.get_mut.follows.holds-at-none c.args.number ∙ sym c.in_default.ensures.value) (λ u apart. c.get_mut.follows.holds-at-none u)

pub returns-in_err-replies-clause-no_memory : goal.returns-in_err-replies-clause-no_memory
returns-in_err-replies-clause-no_memory c = λ g w right s none.
    let t = c.args.number in
    accepts-so g w t deeds.drains c.args.self.now c.in-Some.tenant.now s (sym c.in-Some.ensures.value)
    (λ kept st serves.
    c.in_err-replies.ensures.no_memory g kept.state (store_in w.around t kept.mine) st)

pub returns-in-Some-2-clause-done : goal.returns-in-Some-2-clause-done
returns-in-Some-2-clause-done c = λ g w right s.
    let t = c.args.number in
    let old = c.args.self.now in
    does-so g w t deeds.drains old (c.get_mut.follows.lender c.drain_copied.new.self) old.refs c.in-Some.tenant.now
    c.drain_copied.new.self
    (λ x. reply_given x.given.items) (Ok c.in-Some-2.replies) s (sym c.in-Some.ensures.value)
    (λ kept st serves.
    let at = store_in w.around t kept.mine in (
      rw c.in-Some-2.is at (c.in_ok-replies.ensures.drained g kept.state at st),
      serves-all-still old.refs at _ s.refs serves (drains-reached g kept.state at),
    ))
    (left-so c.in-Some.is (c.get_mut.follows.holds c.drain_copied.new.self)).put
    (left-so c.in-Some.is (c.get_mut.follows.holds c.drain_copied.new.self)).others

pub returns-in-None-clause-refused : goal.returns-in-None-clause-refused
returns-in-None-clause-refused c = λ g w right s.
    let t = c.args.number in
    let old = c.args.self.now in
    refuses-so {X = ℕ} g w t deeds.drains old (c.get_mut.follows.lender c.drain_copied.new.self) old.refs c.in-Some.tenant.now
    c.drain_copied.new.self (Err Refusal.Idle) s (sym c.in-Some.ensures.value)
    (λ kept st serves. (
      rw c.in-None.is at (c.in_ok-replies.ensures.drained g kept.state
          (store_in w.around t kept.mine) st),
      serves,
    ))
    (left-so c.in-Some.is (c.get_mut.follows.holds c.drain_copied.new.self)).put
    (left-so c.in-Some.is (c.get_mut.follows.holds c.drain_copied.new.self)).others

pub returns-in_err-replies-clause-refused : goal.returns-in_err-replies-clause-refused
returns-in_err-replies-clause-refused c = λ g w right s.
    let t = c.args.number in
    let old = c.args.self.now in
    let ts = c.get_mut.follows.lender c.drain_copied.new.self in
    let left = left-so c.in-Some.is (c.get_mut.follows.holds c.drain_copied.new.self) in
    refuses-unmade g w (does t deeds.drains) (machine_with old ts old.refs) c.from_residual.result
    c.from_residual.ensures.1
    (stands-with g old w ts s (all-places (λ u. tenant_at ts u ≡ tenant_at old.tenants u) t
    (left.put ∙ ap (λ x. Some x) c.in_err-replies.ensures.stays ∙ c.in-Some.ensures.value)
    (λ u apart is. left.others u apart)))
