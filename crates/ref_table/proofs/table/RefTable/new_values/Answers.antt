use Rattle.std.proofs.Common.{◌++◌, Option, map, sym, ap, ◌∙◌, subst}
use Rattle.std.specs.Prelude.{Ok}
use Rattle.std.proofs.lemmas.List.{map-append}
use Rattle.value_data.specs.Datum.{Datum}
use Rattle.repl_values.specs.Inside.FaultView.{Fails}
use Rattle.repl_asks.specs.Transactions.{RefNameData}
use Rattle.repl_asks.specs.Inside.View.{name_view, change_view, commuted_view, intent_view}
use Rattle.ref_table.specs.Store.{newest_value}
use Rattle.ref_table.specs.Commit.{all_folded}
use Rattle.ref_table.specs.Refs.{store_of}
use Rattle.ref_table.specs.Directory.{ids_named}
use Rattle.ref_table.specs.Placing.{placed_view, all_placed}
use Rattle.ref_table.proofs.Commuting.{given-err, failed-then}
use Rattle.ref_table.proofs.Committing.{set-names, commuted-names}
use Rattle.ref_table.proofs.Once.{places-ids, places-same, placed-ids}
use Rattle.ref_table.proofs.table.RefTable.new_values.Goals as goal

pub returns-in_err-folded-clause-placed : goal.returns-in_err-folded-clause-placed
returns-in_err-folded-clause-placed g c = λ r points s.
    let intent = intent_view c.args.intent.now in
    let value : RefNameData → Option Datum =
    λ name. newest_value name (store_of c.args.caller points r) in
    let error = c.in_err-folded.field-0.0 in
    let failed = subst (λ cs. Fails error (all_folded value (map commuted_view cs)))
    c.deref.ensures.value (c.in_err-folded.ensures.folded r points s) in
    given-err (λ placed. map placed_view placed.items) c.from_residual.result error
    (all_placed c.args.self.now.directory c.args.caller intent.sets
    (all_folded value intent.commuted)) c.from_residual.ensures.1
    (failed-then error (all_folded value intent.commuted) _ failed)

pub returns-clause-placed : goal.returns-clause-placed
returns-clause-placed g c = λ r points s.
    let d = c.args.self.now.directory in
    let sets = c.args.intent.now.sets.items in
    let value : RefNameData → Option Datum =
    λ name. newest_value name (store_of c.args.caller points r) in
    let places = all_placed d c.args.caller (map change_view sets) in
    ap (λ cs. places (all_folded value (map commuted_view cs))) (sym c.deref.ensures.value)
    ∙ ap places (c.in_ok-folded.ensures.folded r points s)
    ∙ ap Ok (sym (places-same d c.args.caller c.deref-2.result.now sets c.deref-3.result.now
    c.in_ok-folded.folded.items (map placed_view c.in_ok-places.field-0.items)
    c.in_ok-places.ensures c.deref-2.ensures.value c.deref-3.ensures.value))

pub returns-clause-ids : goal.returns-clause-ids
returns-clause-ids g c =
    let d = c.args.self.now.directory in
    let sets = c.args.intent.now.sets.items in
    let folded = c.in_ok-folded.folded.items in
    placed-ids c.in_ok-places.field-0.items
    ∙ ap (map (λ q. q.0)) (places-same d c.args.caller c.deref-2.result.now sets
    c.deref-3.result.now folded (map placed_view c.in_ok-places.field-0.items) c.in_ok-places.ensures
    c.deref-2.ensures.value c.deref-3.ensures.value)
    ∙ places-ids d c.args.caller (map change_view sets ++ map change_view folded)
    ∙ ap (ids_named d c.args.caller)
    (map-append (λ c. c.name) (map change_view sets) (map change_view folded)
    ∙ ap (λ names. map (λ c. c.name) (map change_view sets) ++ names)
    (set-names folded ∙ c.in_ok-folded.ensures.names
    ∙ ap (map (λ c. name_view c.name)) c.deref.ensures.value
    ∙ sym (commuted-names c.args.intent.now.commuted.items)))
