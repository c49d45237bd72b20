use Rattle.std.proofs.Common.{◌≡◌, ◌∙◌, [], ◌∷◌, ◌++◌, sym, ap, subst}
use Rattle.std.specs.Prelude.{option_map, IfSome}
use Rattle.repl_asks.specs.Exchange.{Fits}
use Rattle.repl_asks.specs.Inside.View.{ask_view, answer_view, trace_view}
use Rattle.name_spaces.specs.Inside.Seen.{defined_bindings}
use Rattle.server_rules.specs.Shared.{SharedData, nothing_shared}
use Rattle.shared_space.specs.Holding.{HoldsShared}
use Rattle.shared_space.specs.Telling.{told_view, IsTwice, ToldBehind}
use Rattle.shared_space.specs.Told.{AreTold, shared_from}
use Rattle.shared_space.proofs.Traces.{keeps-more, told-fits}
use Rattle.shared_space.proofs.teller.TellerRefs.ask.Goals as goal

pub invariant_of-self-in-Ok-Some : goal.invariant_of-self-in-Ok-Some
invariant_of-self-in-Ok-Some c =
    let names = defined_bindings c.tell.new.names in
    let s : SharedData = shared_from nothing_shared (trace_view c.self.inside.trace.items) in
    subst
    (λ l. AreTold nothing_shared (trace_view l)
    × HoldsShared names c.tell.new.refs (shared_from nothing_shared (trace_view l)))
    (sym (c.push_reserved.ensures.items
    ∙ ap (λ l. l ++ record { ask = c.args.ask; answer = c.in-Ok-Some.field-0-0.noted } ∷ [])
    c.reserve.ensures.items))
    (keeps-more names c.tell.new.refs c.self.inside.trace.items
    (record { ask = c.args.ask; answer = c.in-Ok-Some.field-0-0.noted }) c.self.invariant.0
    (subst (λ o. ToldBehind s (ask_view c.args.ask) names c.tell.new.refs (option_map told_view o))
    c.in-Ok-Some.field-0-is (c.in-Ok-Some.ensures.told s c.self.invariant.1)))

pub invariant_of-self-in-Ok-None : goal.invariant_of-self-in-Ok-None
invariant_of-self-in-Ok-None c =
    let names = defined_bindings c.tell.new.names in
    let s : SharedData = shared_from nothing_shared (trace_view c.self.inside.trace.items) in
    subst
    (λ l. AreTold nothing_shared (trace_view l)
    × HoldsShared names c.tell.new.refs (shared_from nothing_shared (trace_view l)))
    (sym c.reserve.ensures.items) (
      c.self.invariant.0,
      (subst (λ o. ToldBehind s (ask_view c.args.ask) names c.tell.new.refs (option_map told_view o))
          c.in-Ok-None.field-0-is (c.in-Ok-None.ensures.told s c.self.invariant.1)).holds,
    )

pub invariant_of-self-in-Err : goal.invariant_of-self-in-Err
invariant_of-self-in-Err c =
    let names = defined_bindings c.tell.new.names in
    let s : SharedData = shared_from nothing_shared (trace_view c.self.inside.trace.items) in
    subst
    (λ l. AreTold nothing_shared (trace_view l)
    × HoldsShared names c.tell.new.refs (shared_from nothing_shared (trace_view l)))
    (sym c.reserve.ensures.items)
    (c.self.invariant.0, c.in-Err.ensures.stays s c.self.invariant.1)

pub returns-in-Ok-Some-clause-fits : goal.returns-in-Ok-Some-clause-fits
returns-in-Ok-Some-clause-fits c =
    let s : SharedData = shared_from nothing_shared (trace_view c.self.inside.trace.items) in
    let told = subst (λ o. ToldBehind s (ask_view c.args.ask) (defined_bindings c.tell.new.names)
    c.tell.new.refs (option_map told_view o)) c.in-Ok-Some.field-0-is
    (c.in-Ok-Some.ensures.told s c.self.invariant.1) in
    subst (Fits (ask_view c.args.ask))
    (sym (subst (λ o. IfSome o IsTwice) c.in-Ok-Some.field-0-is c.in-Ok-Some.ensures.twice))
    (told-fits (ask_view c.args.ask) s (answer_view c.in-Ok-Some.field-0-0.noted)
    (sym told.is))
