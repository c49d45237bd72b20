use Rattle.std.proofs.Common.{◌++◌, Option, true, false, refl, sym, ap, ◌∙◌}
use Rattle.value_data.specs.Datum.{Datum}
use Rattle.repl_values.specs.Inside.FaultView.{failure_of}
use Rattle.repl_asks.specs.Transactions.{RefNameData}
use Rattle.repl_asks.specs.Exchange.{verdict, conflict}
use Rattle.repl_asks.specs.Inside.View.{intent_view}
use Rattle.ref_table.specs.Numbered.{part_under}
use Rattle.ref_table.specs.Store.{newest_value}
use Rattle.ref_table.specs.Commit.{all_folded}
use Rattle.ref_table.specs.Refs.{store_of}
use Rattle.ref_table.specs.Directory.{all_named}
use Rattle.ref_table.specs.Placing.{placed_changes}
use Rattle.ref_table.proofs.Committing.{acceptable, accepted, checked_commit-performs}
use Rattle.ref_table.proofs.Committing.{refused-performs, unchanged-performs, faulted-performs}
use Rattle.ref_table.proofs.Committing.{committed-performs, given-first, failed-first}
use Rattle.ref_table.proofs.Committing.{changed-names}
use Rattle.ref_table.proofs.Telling.{on_err}
use Rattle.ref_table.proofs.table.RefTable.commit.Goals as goal

pub returns-then-not-fits-clause-committed : goal.returns-then-not-fits-clause-committed
returns-then-not-fits-clause-committed g c = λ r points seat s runs.
    let stands = g.H.History.stands in
    let intent = intent_view c.args.intent.now in
    checked_commit-performs stands c.args.self.now r c.args.caller points seat c.args.point.stamp intent
    (part_under seat points) _ false _ runs
    (sym c.if-not-fits.true ∙ c.fits.ensures
    ∙ acceptable stands c.args.self.now r c.args.caller points intent s) refl
    (refused-performs stands c.args.self.now r c.args.caller points s)

pub returns-then-is_any_guarded_newer-clause-committed
    : goal.returns-then-is_any_guarded_newer-clause-committed
returns-then-is_any_guarded_newer-clause-committed g c = λ r points seat s runs.
    let stands = g.H.History.stands in
    let intent = intent_view c.args.intent.now in
    checked_commit-performs stands c.args.self.now r c.args.caller points seat c.args.point.stamp intent
    (part_under seat points) _ true true runs
    (sym c.if-not-fits.false ∙ c.fits.ensures
    ∙ acceptable stands c.args.self.now r c.args.caller points intent s)
    (sym c.if-is_any_guarded_newer.true ∙ c.is_any_guarded_newer.ensures r points s)
    (unchanged-performs stands c.args.self.now r c.args.caller points seat (verdict conflict) s)

pub returns-in_ok-put_all-in-Ok-clause-committed
    : goal.returns-in_ok-put_all-in-Ok-clause-committed
returns-in_ok-put_all-in-Ok-clause-committed g c = λ r points seat s runs.
    let stands = g.H.History.stands in
    let intent = intent_view c.args.intent.now in
    let d = c.args.self.now.directory in
    let value : RefNameData → Option Datum =
    λ name. newest_value name (store_of c.args.caller points r) in
    let fit = sym c.if-not-fits.false ∙ c.fits.ensures in
    let given = given-first (all_folded value intent.commuted)
    (λ changes. placed_changes d c.args.caller (intent.sets ++ changes)) _
    (c.in-Ok.ensures.placed r points s) in
    checked_commit-performs stands c.put_all.new.self r c.args.caller points seat c.args.point.stamp
    intent (part_under seat points) _ true false runs
    (fit ∙ acceptable stands c.args.self.now r c.args.caller points intent s)
    (sym c.if-is_any_guarded_newer.false ∙ c.is_any_guarded_newer.ensures r points s)
    (committed-performs stands c.put_all.new.self r c.args.caller points seat intent.sets given.0
    (all_folded value intent.commuted) given.1
    (c.in_ok-put_all-in-Ok.ensures.put r c.args.caller points (intent.sets ++ given.0) s
    (ap (all_named d c.args.caller) (changed-names value intent given.0 given.1)
    ∙ (accepted d c.args.caller intent (sym fit)).named)
    (sym given.2)))

pub returns-in-Err-Fault-clause-committed : goal.returns-in-Err-Fault-clause-committed
returns-in-Err-Fault-clause-committed g c = λ r points seat s runs.
    let stands = g.H.History.stands in
    let intent = intent_view c.args.intent.now in
    let value : RefNameData → Option Datum =
    λ name. newest_value name (store_of c.args.caller points r) in
    let told = rw c.in-Err-Fault.field-0-is at c.in-Err-Fault.ensures.placed in
    checked_commit-performs stands c.args.self.now r c.args.caller points seat c.args.point.stamp intent
    (part_under seat points) _ true false runs
    (sym c.if-not-fits.false ∙ c.fits.ensures
    ∙ acceptable stands c.args.self.now r c.args.caller points intent s)
    (sym c.if-is_any_guarded_newer.false ∙ c.is_any_guarded_newer.ensures r points s)
    (faulted-performs stands c.args.self.now r c.args.caller points seat intent.sets
    (failure_of c.in-Err-Fault.fault) (all_folded value intent.commuted)
    (failed-first (all_folded value intent.commuted)
    (λ changes. placed_changes c.args.self.now.directory c.args.caller (intent.sets ++ changes))
    (failure_of c.in-Err-Fault.fault) (told r points s)) s)

pub returns-in_err-put_all-in-Ok-clause-accepted
    : goal.returns-in_err-put_all-in-Ok-clause-accepted
returns-in_err-put_all-in-Ok-clause-accepted g c = λ r points s.
    on_err c.from_residual.result (sym (sym c.if-not-fits.false ∙ c.fits.ensures
    ∙ acceptable g.H.History.stands c.args.self.now r c.args.caller points
    (intent_view c.args.intent.now) s))

pub returns-in-Err-NoMemory-clause-accepted : goal.returns-in-Err-NoMemory-clause-accepted
returns-in-Err-NoMemory-clause-accepted g c = λ r points s.
    sym (sym c.if-not-fits.false ∙ c.fits.ensures
    ∙ acceptable g.H.History.stands c.args.self.now r c.args.caller points
    (intent_view c.args.intent.now) s)
