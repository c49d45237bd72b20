use Rattle.std.proofs.Common.{◌∙◌, sym}
use Rattle.server_rules.specs.Plan as deeds
use Rattle.repl_core.proofs.Stores.{serves-all-still, starts-reached}
use Rattle.tenant_world.specs.Answers.{start_answer_view}
use Rattle.repl_core.specs.Standing.{store_in}
use Rattle.repl_core.proofs.Behind.{does-so, refuses-so, refuses-none, of-actor, err-with}
use Rattle.repl_core.proofs.Behind.{accepts-so}
use Rattle.repl_core.proofs.Places.{left-so}
use Rattle.repl_core.proofs.machine.Machine.start.Goals as goal

pub returns-in_default-clause-refused : goal.returns-in_default-clause-refused
returns-in_default-clause-refused c = λ g w right s.
    refuses-none g w c.args.number (deeds.starts c.args.actor) c.args.self.now c.get_mut.follows.lender-at-none s
    (sym c.in_default.ensures.value) (c.get_mut.follows.holds-at-none c.args.number ∙ sym c.in_default.ensures.value) (λ u apart. c.get_mut.follows.holds-at-none u)

pub returns-clause-done : goal.returns-clause-done
returns-clause-done c = λ g w right s.
    let t = c.args.number in
    let old = c.args.self.now in
    let d = deeds.starts c.args.actor in
    does-so g w t d old (c.get_mut.follows.lender c.start_copied.new.self) old.refs c.in-Some.tenant.now c.start_copied.new.self
    (λ x. start_answer_view x.given) c.start_copied.result s (sym c.in-Some.ensures.value)
    (λ kept st serves.
    let at = store_in w.around t kept.mine in
    of-actor g c.args.actor kept.state _ c.start_copied.new.self (λ x. start_answer_view x.given) _
    c.start_copied.result
    (c.start_copied.ensures.done g kept.state at right st)
    (serves-all-still old.refs at _ s.refs serves
    (starts-reached g kept.state at c.args.actor)))
    (left-so c.in-Some.is (c.get_mut.follows.holds c.start_copied.new.self)).put
    (left-so c.in-Some.is (c.get_mut.follows.holds c.start_copied.new.self)).others

pub returns-clause-refused : goal.returns-clause-refused
returns-clause-refused c = λ g w right s.
    let t = c.args.number in
    let old = c.args.self.now in
    let d = deeds.starts c.args.actor in
    refuses-so g w t d old (c.get_mut.follows.lender c.start_copied.new.self) old.refs c.in-Some.tenant.now c.start_copied.new.self
    c.start_copied.result s (sym c.in-Some.ensures.value)
    (λ kept st serves.
    err-with _ _ c.start_copied.result
    (c.start_copied.ensures.refused g kept.state (store_in w.around t kept.mine) right st) serves)
    (left-so c.in-Some.is (c.get_mut.follows.holds c.start_copied.new.self)).put
    (left-so c.in-Some.is (c.get_mut.follows.holds c.start_copied.new.self)).others

pub returns-clause-no_memory : goal.returns-clause-no_memory
returns-clause-no_memory c = λ g w right s none.
    let t = c.args.number in
    accepts-so g w t (deeds.starts c.args.actor) c.args.self.now c.in-Some.tenant.now s (sym c.in-Some.ensures.value)
    (λ kept st serves. c.start_copied.ensures.no_memory g kept.state (store_in w.around t kept.mine)
    right st none)
