use Rattle.std.proofs.Common.{◌≡◌, ◌∙◌, length, ap, sym, subst, ℕ, List, find, filter, Option, option_map, IsTrue, rules, tests}
use denote.Ref.{Bor}
use Rattle.std.specs.BTreeSet.{keys}
use Rattle.std.specs.Map.Iter.{deref}
use Rattle.std.specs.Option.{IfSome, SomeIff}
use Rattle.std.proofs.lemmas.Iterator.Consumers.{YieldsList-from_rest}
use Rattle.std.proofs.lemmas.Iterator.Search.{find_from_yields_List}
use Rattle.repl_sessions.specs.Sessions.{is_open}
use Rattle.repl_sessions.specs.Named.{NamedSessions, number_named}
use Rattle.repl_sessions.specs.Inside.Leaving.{remaining_named}
use Rattle.repl_sessions.proofs.SeenSessions.{seen}
use Rattle.repl_sessions.proofs.Naming.{from-text, named-open, named-short}
use Rattle.repl_sessions.proofs.Leavers.{of_text, not_among, staying, found-staying, named-remaining}
use Rattle.repl_sessions.proofs.sessions.Sessions.number_but.Goals as goal

pub returns-in_err-text-clause-found : goal.returns-in_err-text-clause-found
returns-in_err-text-clause-found c =
    let text = c.args.text.now in
    let long = subst (λ (o : Option (List ℕ)). SomeIff o (length text ≡ 36) text) c.in_err-text.was c.as_text.ensures in
    c.from_residual.ensures ∙ sym (named-short (remaining_named (keys c.args.leaving.now) c.args.self.now) text long)

pub range-requires : goal.range-requires
range-requires c = from-text c.in_ok-text.text c.self.inside.opened

pub returns-in_err-number-clause-found : goal.returns-in_err-number-clause-found
returns-in_err-number-clause-found c =
    let was = c.self.inside in
    let leaving = keys c.args.leaving.now in
    let text = c.in_ok-text.text in
    let between : c.range.result ≡ filter (of_text was.opened text) was.index.keys = search rules in
    let first : option_map deref c.find.result ≡ find (staying was.opened leaving text) was.index.keys =
    find_from_yields_List (not_among leaving) _ _ c.find.result c.find.ensures.ran (YieldsList-from_rest (filter (of_text was.opened text) was.index.keys) between)
    (λ x b q h. search (rules, tests)) ∙ found-staying was.opened leaving text was.index.keys in
    c.from_residual-in_err-number.ensures
    ∙ ap (λ (o : Option (Bor (List ℕ × ℕ))). option_map (λ k. k.1) (option_map deref o)) (sym c.in_err-number.was)
    ∙ named-remaining was.ids was.opened was.live was.index c.self.invariant c.range.ensures.ordered leaving text (option_map deref c.find.result) first
    ∙ ap (λ (t : List ℕ). number_named (remaining_named leaving (seen was.ids was.opened was.live.entries)) t) c.in_ok-text.ensures.1
    ∙ ap (λ (s : NamedSessions). number_named (remaining_named leaving s) c.args.text.now) c.self.view_is

found : goal.returns-clause-found
found c =
    let was = c.self.inside in
    let leaving = keys c.args.leaving.now in
    let text = c.in_ok-text.text in
    let between : c.range.result ≡ filter (of_text was.opened text) was.index.keys = search rules in
    let first : option_map deref c.find.result ≡ find (staying was.opened leaving text) was.index.keys =
    find_from_yields_List (not_among leaving) _ _ c.find.result c.find.ensures.ran (YieldsList-from_rest (filter (of_text was.opened text) was.index.keys) between)
    (λ x b q h. search (rules, tests)) ∙ found-staying was.opened leaving text was.index.keys in
    ap (λ (o : Option (Bor (List ℕ × ℕ))). option_map (λ k. k.1) (option_map deref o)) (sym c.in_ok-number.was)
    ∙ named-remaining was.ids was.opened was.live was.index c.self.invariant c.range.ensures.ordered leaving text (option_map deref c.find.result) first
    ∙ ap (λ (t : List ℕ). number_named (remaining_named leaving (seen was.ids was.opened was.live.entries)) t) c.in_ok-text.ensures.1
    ∙ ap (λ (s : NamedSessions). number_named (remaining_named leaving s) c.args.text.now) c.self.view_is

pub returns-clause-found : goal.returns-clause-found
returns-clause-found c = found c

pub returns-clause-open : goal.returns-clause-open
returns-clause-open c =
    let s = remaining_named (keys c.args.leaving.now) c.args.self.now in
    let P = λ (o : Option ℕ). IfSome o (λ n. IsTrue (is_open s.sessions n)) in
    subst P (sym (found c)) (named-open s c.args.text.now)
