use Rattle.std.proofs.Common.{Some, sym, subst, refl}
use Rattle.value_data.specs.Datum.{Datum}
use Rattle.value_data.specs.Inside.View.{view}
use Rattle.repl_asks.specs.Exchange.{AnswerData}
use Rattle.ref_table.specs.Calls.{performed, makes}
use Rattle.ref_history.specs.RingHistories.{RingStands}
use Rattle.ref_table.specs.Refs.{store_of}
use Rattle.ref_table.specs.Told.{Performs}
use Rattle.ref_table.proofs.Telling.{on_err}
use Rattle.tenant_parts.specs.AnswerCopies.{copies_view}
use Rattle.tenant_parts.proofs.Serving.{comes-still, holds-new}
use Rattle.tenant_parts.proofs.calling.make.Goals as goal

pub returns-in_err-name-clause-stays : goal.returns-in_err-name-clause-stays
returns-in_err-name-clause-stays c = λ s r holds.
    on_err c.from_residual-in_err-name.result
    (holds-new c.make.new.self c.args.refs.now c.args.attempts.now s r holds
    (c.in_err-name.ensures.as_it_was r holds.serves.stands))

pub returns-clause-called : goal.returns-clause-called
returns-clause-called c = λ s r holds.
    let attempts = c.args.attempts.now in
    let bounds = c.args.bounds in
    let store = store_of attempts.tenant s.mine.points r in
    let P : AnswerData → Type 0 = λ answer. Performs RingStands c.make.new.self r (Some answer)
    (performed store (makes (view c.in_ok-copy.field-0) bounds.least bounds.most)) in
    let Q : Datum → Type 0 = λ d. Performs RingStands c.make.new.self r
    (Some (copies_view c.of_name.result)) (performed store (makes d bounds.least bounds.most)) in
    comes-still c.make.new.self c.args.refs.now attempts s r (Some (copies_view c.of_name.result))
    (makes (view c.args.value.now) bounds.least bounds.most) holds
    (subst Q c.in_ok-copy.ensures (subst P (sym c.of_name.ensures.view)
    (c.in_ok-name.ensures.told r s.mine.points attempts.tenant holds.serves.stands refl)))
    refl
