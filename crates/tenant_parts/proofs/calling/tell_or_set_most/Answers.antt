use Rattle.std.proofs.Common.{Option, sym, subst, ◌∙◌}
use Rattle.repl_asks.specs.Exchange.{AnswerData}
use Rattle.repl_asks.specs.Inside.View.{name_view}
use Rattle.tenant_parts.specs.AnswerCopies.{copies_view}
use Rattle.ref_table.specs.Calls.{performed, sets_most}
use Rattle.ref_history.specs.RingHistories.{RingStands}
use Rattle.ref_table.specs.Refs.{store_of}
use Rattle.ref_table.specs.Told.{Performs}
use Rattle.tenant_parts.specs.Bounds.{most_call}
use Rattle.tenant_parts.specs.Serving.{PerformsCall}
use Rattle.tenant_parts.specs.AnswerCopies.{told_answer}
use Rattle.tenant_parts.proofs.Numbers.{most-comes, most-set-still}
use Rattle.tenant_parts.proofs.Serving.{comes-still}
use Rattle.tenant_parts.proofs.calling.tell_or_set_most.Goals as goal

pub returns-in_ok-bounds-in-None-clause-called : goal.returns-in_ok-bounds-in-None-clause-called
returns-in_ok-bounds-in-None-clause-called c = λ s r holds.
    most-comes c.args.refs.now c.args.attempts.now s r (name_view c.args.name) c.args.set
    c.in_ok-bounds-in-None.field-0 (copies_view c.of_number.result) holds c.in-None.is
    (sym c.in_ok-bounds-in-None.was ∙ c.bounds.ensures r s.mine.points holds.serves.stands)
    c.of_number.ensures.view

pub returns-in-Some-clause-called : goal.returns-in-Some-clause-called
returns-in-Some-clause-called c = λ s r holds.
    let attempts = c.args.attempts.now in
    let name = name_view c.args.name in
    let n = c.in-Some.most in
    let told = told_answer c.ref_if_set.result in
    let P : Option AnswerData → Type 0 = λ answer. Performs RingStands c.set_most.new.self r answer
    (performed (store_of attempts.tenant s.mine.points r) (sets_most name n)) in
    let Q : Option _ → Type 0 = λ set. PerformsCall c.set_most.new.self attempts r told
    (performed s (most_call name set)) in
    subst Q (sym c.in-Some.is) (comes-still c.set_most.new.self c.args.refs.now attempts s r told
    (sets_most name n) holds (subst P (sym c.ref_if_set.ensures.told)
    (c.set_most.ensures.told r s.mine.points holds.serves.stands)) (most-set-still s name n))
