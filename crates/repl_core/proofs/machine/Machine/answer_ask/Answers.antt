use Rattle.std.proofs.Common.{◌∙◌, sym}
use Rattle.server_rules.specs.Plan as deeds
use Rattle.repl_asks.specs.Inside.View.{ask_view}
use Rattle.tenant_asks.specs.Answers.{ask_answer_view}
use Rattle.repl_core.specs.Standing.{store_in}
use Rattle.repl_core.proofs.Behind.{does-so, refuses-so, refuses-none, ok-map}
use Rattle.repl_core.proofs.Behind.{accepts-so}
use Rattle.repl_core.proofs.Places.{left-so}
use Rattle.repl_core.proofs.machine.Machine.answer_ask.Goals as goal

pub returns-in_default-clause-refused : goal.returns-in_default-clause-refused
returns-in_default-clause-refused c = λ g w right s.
    refuses-none g w c.args.number (deeds.asks_for c.args.actor (ask_view c.args.ask.now)) c.args.self.now c.get_mut.follows.lender-at-none s
    (sym c.in_default.ensures.value) (c.get_mut.follows.holds-at-none c.args.number ∙ sym c.in_default.ensures.value) (λ u apart. c.get_mut.follows.holds-at-none u)

pub returns-clause-done : goal.returns-clause-done
returns-clause-done c = λ g w right s.
    let t = c.args.number in
    let old = c.args.self.now in
    let d = deeds.asks_for c.args.actor (ask_view c.args.ask.now) in
    does-so g w t d old (c.get_mut.follows.lender c.answer_copied.new.self) c.answer_copied.new.refs c.in-Some.tenant.now c.answer_copied.new.self
    (λ x. ask_answer_view x.given) c.answer_copied.result s (sym c.in-Some.ensures.value)
    (λ kept st serves.
    let at = store_in w.around t kept.mine in
    ok-map _ _ c.answer_copied.result (λ x it. (
      record {
        after = it.0.after;
        accepted = it.0.accepted;
        stands = it.0.stands;
      },
      it.1,
    )) (c.answer_copied.ensures.done g kept.state at s.refs right st serves))
    (left-so c.in-Some.is (c.get_mut.follows.holds c.answer_copied.new.self)).put
    (left-so c.in-Some.is (c.get_mut.follows.holds c.answer_copied.new.self)).others

pub returns-clause-refused : goal.returns-clause-refused
returns-clause-refused c = λ g w right s.
    let t = c.args.number in
    let old = c.args.self.now in
    let d = deeds.asks_for c.args.actor (ask_view c.args.ask.now) in
    refuses-so g w t d old (c.get_mut.follows.lender c.answer_copied.new.self) c.answer_copied.new.refs c.in-Some.tenant.now c.answer_copied.new.self
    c.answer_copied.result s (sym c.in-Some.ensures.value)
    (λ kept st serves.
    c.answer_copied.ensures.refused g kept.state (store_in w.around t kept.mine) s.refs right st serves)
    (left-so c.in-Some.is (c.get_mut.follows.holds c.answer_copied.new.self)).put
    (left-so c.in-Some.is (c.get_mut.follows.holds c.answer_copied.new.self)).others

pub returns-clause-no_memory : goal.returns-clause-no_memory
returns-clause-no_memory c = λ g w right s room none.
    let t = c.args.number in
    accepts-so g w t (deeds.asks_for c.args.actor (ask_view c.args.ask.now)) c.args.self.now
    c.in-Some.tenant.now s (sym c.in-Some.ensures.value)
    (λ kept st serves. c.answer_copied.ensures.no_memory g kept.state
    (store_in w.around t kept.mine) s.refs st serves none)
