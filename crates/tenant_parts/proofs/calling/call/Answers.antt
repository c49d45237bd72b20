use Rattle.std.proofs.Common.{ap, sym, subst, ◌∙◌}
use Rattle.repl_asks.specs.Inside.View.{ask_view}
use Rattle.repl_asks.specs.declared.ask.Ask.{Ask}
use Rattle.server_rules.specs.Asking.{call_of}
use Rattle.ref_table.specs.Calls.{performed}
use Rattle.ref_table.specs.Performed.{as_was}
use Rattle.server_rules.specs.Tenant.{seat_of}
use Rattle.tenant_parts.specs.Serving.{PerformsCall}
use Rattle.tenant_parts.specs.AnswerCopies.{told_answer}
use Rattle.tenant_parts.proofs.Calls.{send-told}
use Rattle.tenant_parts.proofs.Serving.{comes-told}
use Rattle.tenant_parts.proofs.calling.call.Goals as goal

pub returns-in-Send-clause-called : goal.returns-in-Send-clause-called
returns-in-Send-clause-called c = λ q s r holds allowed.
    let told = told_answer c.stand_outside.result in
    let P : Ask → Type 0 = λ ask. PerformsCall c.args.refs.now c.args.attempts.now r told
    (performed s (call_of (seat_of c.args.actor) (ask_view ask))) in
    subst P (sym c.in-Send.is) (comes-told c.args.refs.now c.args.attempts.now s r told _ holds
    (ap (as_was s) (sym (c.stand_outside.ensures.told s holds.reaches))))

pub returns-in-MaySend-clause-called : goal.returns-in-MaySend-clause-called
returns-in-MaySend-clause-called c = λ q s r holds allowed.
    let told = told_answer c.stand_to_send.result in
    let P : Ask → Type 0 = λ ask. PerformsCall c.args.refs.now c.args.attempts.now r told
    (performed s (call_of (seat_of c.args.actor) (ask_view ask))) in
    subst P (sym c.in-MaySend.is) (comes-told c.args.refs.now c.args.attempts.now s r told _ holds
    (sym (send-told (seat_of c.args.actor) s)
    ∙ ap (as_was s) (sym (c.stand_to_send.ensures.told s holds.reaches))))

pub returns-in-Await-clause-called : goal.returns-in-Await-clause-called
returns-in-Await-clause-called c = λ q s r holds allowed.
    let told = told_answer c.stand_outside-in-Await.result in
    let P : Ask → Type 0 = λ ask. PerformsCall c.args.refs.now c.args.attempts.now r told
    (performed s (call_of (seat_of c.args.actor) (ask_view ask))) in
    subst P (sym c.in-Await.is) (comes-told c.args.refs.now c.args.attempts.now s r told _ holds
    (ap (as_was s) (sym (c.stand_outside-in-Await.ensures.told s holds.reaches))))
