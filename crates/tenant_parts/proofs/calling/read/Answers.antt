use Rattle.std.proofs.Common.{Some, refl, sym, ap, ◌∙◌}
use Rattle.value_data.specs.Inside.View.{view}
use Rattle.repl_asks.specs.Inside.View.{name_view}
use Rattle.ref_table.specs.Calls.{performed, reads}
use Rattle.server_rules.specs.Tenant.{seat_of}
use Rattle.ref_table.specs.Told.{reading_told}
use Rattle.ref_table.proofs.Telling.{on_err}
use Rattle.tenant_parts.proofs.Calls.{read-found}
use Rattle.tenant_parts.proofs.Serving.{performs-so, holds-new, holds-still}
use Rattle.tenant_parts.proofs.calling.read.Goals as goal

pub returns-in_err-value-clause-stays : goal.returns-in_err-value-clause-stays
returns-in_err-value-clause-stays c = λ s r holds.
    on_err c.from_residual.result
    (holds-new c.read.new.self c.args.refs.now c.args.attempts.now s r holds
    (c.in_err-value.ensures.as_it_was r holds.serves.stands))

pub returns-in_err-of_found-in-Some-Found-clause-stays : goal.returns-in_err-of_found-in-Some-Found-clause-stays
returns-in_err-of_found-in-Some-Found-clause-stays c = λ s r holds.
    let seat = seat_of c.args.actor in
    let name = name_view c.args.name in
    let attempts = c.args.attempts.now in
    let did = performs-so c.read.new.self c.args.refs.now attempts s r
    (reading_told c.in_ok-value.field-0) (reads seat name) holds
    (c.in_ok-value.ensures.read r s.mine.points seat holds.serves.stands
    (c.point-point.ensures s.mine.points holds.reaches.points)) in
    let is = c.in-Some-Found.is ∙ ap Some c.in-Some-Found.field-0-is in
    on_err c.from_residual-in_err-of_found-in-Some-Found.result
    (holds-still c.read.new.self c.args.refs.now attempts attempts s r
    (reading_told c.in_ok-value.field-0) (performed s (reads seat name)) holds did
    (read-found s seat name (view c.in-Some-Found.value) (sym (ap reading_told is) ∙ did.told)) refl)
