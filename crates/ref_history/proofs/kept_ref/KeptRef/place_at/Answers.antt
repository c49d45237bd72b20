use Rattle.std.proofs.Common.{rules, tests, ◌∙◌, sym, ap}
use Rattle.std.specs.Option.{option_and_then}
use Rattle.std.proofs.lemmas.Iterator.Consumers.{YieldsList-from_deque}
use Rattle.std.proofs.lemmas.Iterator.Search.{position_from_yields_List}
use Rattle.ref_history.specs.Kept.{content_in}
use Rattle.ref_history.proofs.Standing.{is_old, read-none, read-some, some-there}
use Rattle.ref_history.proofs.kept_ref.KeptRef.place_at.Goals as goal

pub returns-in_err-behind-clause-value : goal.returns-in_err-behind-clause-value
returns-in_err-behind-clause-value c = λ r s.
    let placed = position_from_yields_List (is_old c.args.point) _ _ c.position.result
    c.position.ensures.ran
    (YieldsList-from_deque c.args.self.now.older.items c.iter.ensures.rest)
    (λ x b q h. search (rules, tests)) in
    ap (option_and_then (content_in c.args.self.now)) c.from_residual.ensures
    ∙ read-none c.args.self.now r c.args.point c.if-self-point.false s
    (sym c.in_err-behind.was ∙ placed)

pub returns-clause-kept : goal.returns-clause-kept
returns-clause-kept c =
    let placed = position_from_yields_List (is_old c.args.point) _ _ c.position.result
    c.position.ensures.ran
    (YieldsList-from_deque c.args.self.now.older.items c.iter.ensures.rest)
    (λ x b q h. search (rules, tests)) in
    some-there c.args.self.now c.args.point c.in_ok-behind.behind (sym c.in_ok-behind.was ∙ placed)

pub returns-clause-value : goal.returns-clause-value
returns-clause-value c = λ r s.
    let placed = position_from_yields_List (is_old c.args.point) _ _ c.position.result
    c.position.ensures.ran
    (YieldsList-from_deque c.args.self.now.older.items c.iter.ensures.rest)
    (λ x b q h. search (rules, tests)) in
    read-some c.args.self.now r c.args.point c.in_ok-behind.behind c.if-self-point.false s
    (sym c.in_ok-behind.was ∙ placed)
