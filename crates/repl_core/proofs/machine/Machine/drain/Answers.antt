use Rattle.std.proofs.Common.{ℕ, ◌∙◌, ◌∷◌, ap, sym, Ok, Err}
use Rattle.server_rules.specs.Plan as deeds
use Rattle.server_rules.specs.Plan.{reply_given}
use Rattle.server_rules.specs.declared.refusal.Refusal.{Refusal}
use Rattle.repl_core.proofs.Stores.{serves-all-still, drains-reached}
use Rattle.repl_core.specs.Standing.{store_in}
use Rattle.repl_core.proofs.Behind.{does-so, refuses-so, refuses-none}
use Rattle.repl_core.proofs.Left.{left-still, left-none, waits-so, none-waits}
use Rattle.repl_core.proofs.Places.{left-so}
use Rattle.repl_core.proofs.machine.Machine.drain.Goals as goal

pub returns-in_default-clause-refused : goal.returns-in_default-clause-refused
returns-in_default-clause-refused c = λ g w right s.
    refuses-none g w c.args.number deeds.drains c.args.self.now c.get_mut.follows.lender-at-none s
    (sym c.in_default.ensures.value) (c.get_mut.follows.holds-at-none c.args.number ∙ sym c.in_default.ensures.value) (λ u apart. c.get_mut.follows.holds-at-none u)

pub returns-in-Some-drain-clause-done : goal.returns-in-Some-drain-clause-done
returns-in-Some-drain-clause-done c = λ g w right s.
    let t = c.args.number in
    let old = c.args.self.now in
    does-so g w t deeds.drains old (c.get_mut.follows.lender c.drain.new.self) old.refs c.in-Some.tenant.now c.drain.new.self
    (λ x. reply_given x.items) (Ok c.in-Some-drain.bytes) s (sym c.in-Some.ensures.value)
    (λ kept st serves.
    let at = store_in w.around t kept.mine in (
      c.in-Some-drain.ensures.drained g kept.state at st,
      serves-all-still old.refs at _ s.refs serves (drains-reached g kept.state at),
    ))
    (left-so c.in-Some.is (c.get_mut.follows.holds c.drain.new.self)).put
    (left-so c.in-Some.is (c.get_mut.follows.holds c.drain.new.self)).others

pub returns-in-None-clause-refused : goal.returns-in-None-clause-refused
returns-in-None-clause-refused c = λ g w right s.
    let t = c.args.number in
    let old = c.args.self.now in
    refuses-so {X = ℕ} g w t deeds.drains old (c.get_mut.follows.lender c.drain.new.self) old.refs c.in-Some.tenant.now
    c.drain.new.self (Err Refusal.Idle) s (sym c.in-Some.ensures.value)
    (λ kept st serves. (
      c.in-None.ensures.drained g kept.state
          (store_in w.around t kept.mine) st,
      serves,
    ))
    (left-so c.in-Some.is (c.get_mut.follows.holds c.drain.new.self)).put
    (left-so c.in-Some.is (c.get_mut.follows.holds c.drain.new.self)).others

pub returns-in_default-clause-steps : goal.returns-in_default-clause-steps
returns-in_default-clause-steps c =
    left-none _ _ (sym c.in_default.ensures.value) (c.get_mut.follows.holds-at-none c.args.number ∙ sym c.in_default.ensures.value)

pub returns-in_default-clause-emptied : goal.returns-in_default-clause-emptied
returns-in_default-clause-emptied c =
    (none-waits _ (sym c.in_default.ensures.value), none-waits _ (c.get_mut.follows.holds-at-none c.args.number ∙ sym c.in_default.ensures.value))

pub returns-in-Some-drain-clause-steps : goal.returns-in-Some-drain-clause-steps
returns-in-Some-drain-clause-steps c =
    left-still _ _ c.in-Some.tenant.now c.drain.new.self (sym c.in-Some.ensures.value)
    (left-so c.in-Some.is (c.get_mut.follows.holds c.drain.new.self)).put c.drain.ensures.steps

pub returns-in-None-clause-steps : goal.returns-in-None-clause-steps
returns-in-None-clause-steps c =
    left-still _ _ c.in-Some.tenant.now c.drain.new.self (sym c.in-Some.ensures.value)
    (left-so c.in-Some.is (c.get_mut.follows.holds c.drain.new.self)).put c.drain.ensures.steps

pub returns-in-Some-drain-clause-oldest : goal.returns-in-Some-drain-clause-oldest
returns-in-Some-drain-clause-oldest c =
    waits-so _ c.in-Some.tenant.now (sym c.in-Some.ensures.value) ∙ c.in-Some-drain.ensures.oldest
    ∙ ap (λ more. c.in-Some-drain.bytes.items ∷ more)
    (sym (waits-so _ c.drain.new.self (left-so c.in-Some.is (c.get_mut.follows.holds c.drain.new.self)).put))

pub returns-in-None-clause-emptied : goal.returns-in-None-clause-emptied
returns-in-None-clause-emptied c = (
  waits-so _ c.in-Some.tenant.now (sym c.in-Some.ensures.value) ∙ c.in-None.ensures.oldest.0,
  waits-so _ c.drain.new.self (left-so c.in-Some.is (c.get_mut.follows.holds c.drain.new.self)).put
      ∙ c.in-None.ensures.oldest.1,
)
