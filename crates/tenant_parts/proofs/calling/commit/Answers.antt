use Rattle.std.proofs.Common.{Some, sym, ap, subst, ◌∙◌, option_map}
use Rattle.repl_values.specs.Inside.FaultView.{failure_of}
use Rattle.repl_asks.specs.Exchange.{AnswerData, verdict, committed, faulted}
use Rattle.repl_asks.specs.Inside.View.{intent_view}
use Rattle.ref_table.specs.Calls.{performed, commits}
use Rattle.server_rules.specs.Tenant.{seat_of}
use Rattle.ref_history.specs.RingHistories.{RingStands}
use Rattle.ref_table.specs.Refs.{store_of}
use Rattle.ref_table.specs.Told.{Performs, outcome_told}
use Rattle.ref_table.specs.declared.outcome.CommitOutcome.{CommitOutcome}
use Rattle.ref_table.proofs.Telling.{on_err}
use Rattle.tenant_parts.specs.Serving.{PerformsCall}
use Rattle.tenant_parts.proofs.Calls.{commit-told, commit-faulted}
use Rattle.tenant_parts.proofs.Serving.{comes-left, performs-so, holds-new, holds-unended}
use Rattle.tenant_parts.proofs.calling.commit.Goals as goal

pub returns-in_err-commit-clause-stays : goal.returns-in_err-commit-clause-stays
returns-in_err-commit-clause-stays c = λ s r holds.
    on_err c.from_residual.result
    (holds-new c.commit.new.self c.args.refs.now c.args.attempts.now s r holds
    (c.in_err-commit.ensures.as_it_was r holds.serves.stands))

pub returns-in-Committed-clause-called : goal.returns-in-Committed-clause-called
returns-in-Committed-clause-called c = λ s r holds.
    let seat = seat_of c.args.actor in
    let intent = intent_view c.args.intent.now in
    let attempts = c.args.attempts.now in
    let call = commits seat intent in
    let runs = c.point.ensures s.mine.points holds.reaches.points
    ∙ ap (option_map (λ p. p.stamp)) c.in-Some.is in
    let P : CommitOutcome → Type 0 = λ o. Performs RingStands c.commit.new.self r (outcome_told o)
    (performed (store_of attempts.tenant s.mine.points r) call) in
    let did = subst P c.in-Committed.is
    (c.in_ok-commit.ensures.committed r s.mine.points seat holds.serves.stands runs) in
    let told = (performs-so c.commit.new.self c.args.refs.now attempts s r
    (Some (verdict committed)) call holds did).told in
    let Q : AnswerData → Type 0 = λ v.
    PerformsCall c.commit.new.self c.leave.new.self r (Some v) (performed s call) in
    subst Q (sym c.committed.ensures.view)
    (comes-left c.commit.new.self c.args.refs.now attempts c.leave.new.self seat s r
    (Some (verdict committed)) call holds did (commit-told s seat intent (verdict committed) told)
    c.leave.ensures.tenant c.leave.ensures.left)

pub returns-in_err-told-in-Faulted-clause-stays : goal.returns-in_err-told-in-Faulted-clause-stays
returns-in_err-told-in-Faulted-clause-stays c = λ s r holds.
    let seat = seat_of c.args.actor in
    let intent = intent_view c.args.intent.now in
    let attempts = c.args.attempts.now in
    let call = commits seat intent in
    let f = failure_of c.in-Faulted.fault in
    let runs = c.point.ensures s.mine.points holds.reaches.points
    ∙ ap (option_map (λ p. p.stamp)) c.in-Some.is in
    let P : CommitOutcome → Type 0 = λ o. Performs RingStands c.commit.new.self r (outcome_told o)
    (performed (store_of attempts.tenant s.mine.points r) call) in
    let did = performs-so c.commit.new.self c.args.refs.now attempts s r
    (Some (verdict (faulted f))) call holds (subst P c.in-Faulted.is
    (c.in_ok-commit.ensures.committed r s.mine.points seat holds.serves.stands runs)) in
    on_err c.from_residual-in_err-told-in-Faulted.result
    (holds-unended c.commit.new.self c.args.refs.now attempts seat s r (Some (verdict (faulted f)))
    (performed s call) holds did (commit-faulted s seat intent f did.told))
