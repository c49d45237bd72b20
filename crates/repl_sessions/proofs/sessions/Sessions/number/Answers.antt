use Rattle.std.proofs.Common.{◌≡◌, ◌∙◌, length, ap, sym, subst, ℕ, List, Bool, Option, IsTrue}
use Rattle.std.specs.Bool.{then_some}
use Rattle.std.specs.Option.{IfSome, SomeIff}
use Rattle.repl_sessions.specs.Sessions.{is_open}
use Rattle.repl_sessions.specs.Named.{NamedSessions, number_named}
use Rattle.repl_sessions.proofs.Naming.{range-none, range-first, first_named, named-open, named-short}
use Rattle.repl_sessions.proofs.sessions.Sessions.number.Goals as goal

pub returns-in_err-text-clause-found : goal.returns-in_err-text-clause-found
returns-in_err-text-clause-found c =
    let text = c.args.text.now in
    let long = subst (λ (o : Option (List ℕ)). SomeIff o (length text ≡ 36) text) c.in_err-text.was c.as_text.ensures in
    c.from_residual.ensures ∙ sym (named-short c.args.self.now text long)

pub returns-in_err-found-clause-found : goal.returns-in_err-found-clause-found
returns-in_err-found-clause-found c =
    let was = c.self.inside in
    c.from_residual-in_err-found.ensures
    ∙ sym (range-none was.ids was.opened was.live was.index c.self.invariant c.in_ok-text.text c.range.result c.in_err-found.ensures.steps.0 (c.range.ensures.in_range tt))
    ∙ ap (λ (t : List ℕ). first_named was.ids t was.live.entries) c.in_ok-text.ensures.1
    ∙ ap (λ (s : NamedSessions). number_named s c.args.text.now) c.self.view_is

found : goal.returns-clause-found
found c =
    let was = c.self.inside in
    let key = c.in_ok-found.field-0.now in
    c.then_some.ensures ∙ ap (λ (b : Bool). then_some b key.1) c.eq.ensures
    ∙ range-first was.ids was.opened was.live was.index c.self.invariant c.in_ok-text.text c.range.result c.next.new.self key c.in_ok-found.ensures.steps (c.range.ensures.in_range tt)
    ∙ ap (λ (t : List ℕ). first_named was.ids t was.live.entries) c.in_ok-text.ensures.1
    ∙ ap (λ (s : NamedSessions). number_named s c.args.text.now) c.self.view_is

pub returns-clause-found : goal.returns-clause-found
returns-clause-found c = found c

pub returns-clause-open : goal.returns-clause-open
returns-clause-open c =
    let P = λ (o : Option ℕ). IfSome o (λ n. IsTrue (is_open c.args.self.now.sessions n)) in
    subst P (sym (found c)) (named-open c.args.self.now c.args.text.now)
