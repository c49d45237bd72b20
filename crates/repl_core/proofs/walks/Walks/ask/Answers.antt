use Rattle.std.proofs.Common.{◌≡◌, ◌∙◌, sym, ap, subst, Err, true}
use Rattle.repl_asks.specs.Exchange.{AskData}
use Rattle.repl_asks.specs.Inside.View.{ask_view, answer_view}
use Rattle.repl_walker.specs.declared.steps.Reached.{Reached}
use Rattle.server_rules.specs.Plan as deeds
use Rattle.tenant_asks.proofs.Remembering.{wanted-memory}
use Rattle.tenant_asks.specs.Acting.{is_accepted}
use Rattle.tenant_asks.specs.Answers.{ask_answer_view}
use Rattle.tenant_asks.specs.declared.answers.AskAnswer.{AskAnswer}
use Rattle.tenant_world.specs.Standing as world
use Rattle.ref_table.specs.Refs.{refs_after}
use Rattle.tenant_parts.specs.Serving.{TableServes}
use Rattle.repl_core.specs.Inside.Standing.{parts, comes_to}
use Rattle.repl_core.proofs.WalkSteps.{asks-same, at-so, some-same}
use Rattle.repl_core.proofs.Steps.{does-removed, does-resumed, refused-parts}
use Rattle.repl_core.proofs.walks.Walks.ask.Goals as goal

pub returns-in_err-answer-clause-refused : goal.returns-in_err-answer-clause-refused
returns-in_err-answer-clause-refused c = λ g l r w k right s at.
    let a = c.args.actor in
    let old = parts c.args.tenant.now c.args.refs.now c.args.self.now in
    let v = c.in-Some-Asks._walk in
    let j = c.in-Some-Asks.asked in
    let kept = at-so (λ p. p.now) c.get.result _ (Reached.Asks v j) _ c.get.ensures
    c.in-Some-Asks.is c.in-Some-Asks.field-0-is in
    let same = asks-same v w j k (some-same _ _ (sym kept ∙ at)) in
    let asked = ap ask_view same in
    let P : AskData → Type 0 = λ x. world.RefusesDeed g l.state l.store
    (comes_to g l (deeds.asks_for a x)) c.answer.new.self c.in_err-answer.field-0.0
    × TableServes c.answer.new.refs l.store r in
    let told = subst P asked
    (c.in_err-answer.ensures.refused g l.state l.store r right s.tenant s.serves) in
    refused-parts g l r (deeds.asks_for a (ask_view k)) old c.answer.new.self
    c.answer.new.refs c.in_err-answer.field-0.0 c.from_residual.result s
    c.from_residual.ensures.1 told.0 told.1

pub returns-in-Answer-clause-done : goal.returns-in-Answer-clause-done
returns-in-Answer-clause-done c = λ g l r run w k right s runs at.
    let a = c.args.actor in
    let old = parts c.args.tenant.now c.args.refs.now c.args.self.now in
    let v = c.in-Some-Asks._walk in
    let j = c.in-Some-Asks.asked in
    let kept = at-so (λ p. p.now) c.get.result _ (Reached.Asks v j) _ c.get.ensures
    c.in-Some-Asks.is c.in-Some-Asks.field-0-is in
    let same = asks-same v w j k (some-same _ _ (sym kept ∙ at)) in
    let asked = ap ask_view same in
    let P : AskData → Type 0 = λ x. world.AcceptsDeedBy g a l.state
    (comes_to g l (deeds.asks_for a x)) c.answer.new.self (ask_answer_view c.in_ok-answer.field-0)
    × TableServes c.answer.new.refs (comes_to g l (deeds.asks_for a x)).store
    (refs_after (comes_to g l (deeds.asks_for a x)).store r) in
    let did = subst P asked
    (c.in_ok-answer.ensures.done g l.state l.store r right s.tenant s.serves) in
    let d = comes_to g l (deeds.asks_for a (ask_view k)) in
    let Q : AskAnswer → Type 0 = λ x. world.AcceptsDeedBy g a l.state d c.answer.new.self (ask_answer_view x) in
    does-resumed g l r a old (parts c.answer.new.self c.answer.new.refs c.resume.new.self)
    (ask_view k) (answer_view c.in-Answer.answer) run s runs (subst Q c.in-Answer.is did.0)
    did.1
    (λ p there. c.resume.ensures.resumed run w k p at (s.walked a run (Reached.Asks w k) runs at) there)
    c.resume.ensures.others

pub returns-in-Interrupted-clause-done : goal.returns-in-Interrupted-clause-done
returns-in-Interrupted-clause-done c = λ g l r run w k right s runs at.
    let a = c.args.actor in
    let old = parts c.args.tenant.now c.args.refs.now c.args.self.now in
    let v = c.in-Some-Asks._walk in
    let j = c.in-Some-Asks.asked in
    let kept = at-so (λ p. p.now) c.get.result _ (Reached.Asks v j) _ c.get.ensures
    c.in-Some-Asks.is c.in-Some-Asks.field-0-is in
    let same = asks-same v w j k (some-same _ _ (sym kept ∙ at)) in
    let asked = ap ask_view same in
    let P : AskData → Type 0 = λ x. world.AcceptsDeedBy g a l.state
    (comes_to g l (deeds.asks_for a x)) c.answer.new.self (ask_answer_view c.in_ok-answer.field-0)
    × TableServes c.answer.new.refs (comes_to g l (deeds.asks_for a x)).store
    (refs_after (comes_to g l (deeds.asks_for a x)).store r) in
    let did = subst P asked
    (c.in_ok-answer.ensures.done g l.state l.store r right s.tenant s.serves) in
    does-removed g l r (deeds.asks_for a (ask_view k)) a old
    (parts c.answer.new.self c.answer.new.refs c.remove.new.self) _ s did.0 did.1
    c.remove.ensures.gone c.remove.ensures.others

pub returns-in_err-answer-clause-no_memory : goal.returns-in_err-answer-clause-no_memory
returns-in_err-answer-clause-no_memory c = λ g l r w k s at none.
    let a = c.args.actor in
    let v = c.in-Some-Asks._walk in
    let j = c.in-Some-Asks.asked in
    let kept = at-so (λ p. p.now) c.get.result _ (Reached.Asks v j) _ c.get.ensures
    c.in-Some-Asks.is c.in-Some-Asks.field-0-is in
    let same = asks-same v w j k (some-same _ _ (sym kept ∙ at)) in
    let asked = ap ask_view same in
    let why = wanted-memory c.in_err-answer.field-0.0 c.from_residual.result
    c.from_residual.ensures.1 none in
    let P : AskData → Type 0 = λ x.
    is_accepted (comes_to g l (deeds.asks_for a x)).outcome ≡ true in
    subst P asked (c.in_err-answer.ensures.no_memory g l.state l.store r s.tenant s.serves
    (ap (λ e. Err e) why))
