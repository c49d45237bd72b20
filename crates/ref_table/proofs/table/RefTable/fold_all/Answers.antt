use Rattle.std.proofs.Common.{◌≡◌, ◌+◌, ◌∷◌, [], Option, map, drop, sym, ap, ◌∙◌, subst, append-nil}
use Rattle.std.proofs.Common.{arith}
use Rattle.std.proofs.lemmas.Grind.{common_steps}
use Rattle.std.specs.Prelude.{Ok}
use Rattle.value_data.specs.Datum.{Datum}
use Rattle.repl_values.specs.Inside.FaultView.{Gives}
use Rattle.repl_asks.specs.Transactions.{RefNameData}
use Rattle.repl_asks.specs.Inside.View.{change_view, commuted_view}
use Rattle.ref_table.specs.Store.{newest_value}
use Rattle.ref_table.specs.Commit.{all_take, all_folded}
use Rattle.ref_table.specs.Refs.{store_of}
use Rattle.ref_table.proofs.Distinct.{drop-item}
use Rattle.ref_table.proofs.Commuting.{given-err, before, folded-failed, folded-next, take-first}
use Rattle.ref_table.proofs.table.RefTable.fold_all.Goals as goal

pub returns-in_err-now-clause-folded : goal.returns-in_err-now-clause-folded
returns-in_err-now-clause-folded g c = λ r points s.
    let value : RefNameData → Option Datum =
    λ name. newest_value name (store_of c.args.caller points r) in
    let item = drop-item c.args.commuted.now c.loop-one.one-index c.one-item.result
    c.loop-one-test.true c.one-item.is in
    let rest = map commuted_view (drop (c.loop-one.one-index + 1) c.args.commuted.now) in
    let done = map change_view c.loop-one.changes.items in
    subst (Gives (λ changes. map change_view changes.items) c.from_residual-in_err-now.result)
    (sym (c.loop-one.invariant.folded r points s
    ∙ ap (λ cs. before done (all_folded value (map commuted_view cs))) item))
    (given-err (λ changes. map change_view changes.items) c.from_residual-in_err-now.result
    c.in_err-now.field-0.0
    (before done (all_folded value (commuted_view c.one-item.result ∷ rest)))
    c.from_residual-in_err-now.ensures.1
    (folded-failed value (commuted_view c.one-item.result) rest done c.in_err-now.field-0.0
    (c.in_err-now.ensures r points s)))

pub loop-one-preserved : goal.loop-one-preserved
loop-one-preserved g c =
    let item = drop-item c.args.commuted.now c.loop-one.one-index c.one-item.result
    c.loop-one-test.true c.one-item.is in
    let rest = map commuted_view (drop (c.loop-one.one-index + 1) c.args.commuted.now) in
    record {
      takes = (take-first (commuted_view c.one-item.result) rest
          (ap (λ cs. all_take (map commuted_view cs)) (sym item) ∙ c.loop-one.invariant.takes)).1;
      folded = λ r points s.
          folded-next (λ name. newest_value name (store_of c.args.caller points r)) _
          c.args.commuted.now c.loop-one.one-index c.one-item.result c.in_ok-now.now c.loop-one.changes.items
          c.push.new.self.items c.loop-one-test.true c.one-item.is
          (c.loop-one.invariant.folded r points s) (c.in_ok-now.ensures r points s)
          c.in_ok-push.ensures.items;
      names = grind (
        arith,
        common_steps,
        c.loop-one.invariant.names,
        item,
        c.in_ok-push.ensures.items,
      );
    }

pub returns-clause-folded : goal.returns-clause-folded
returns-clause-folded g c = λ r points s.
    let value : RefNameData → Option Datum =
    λ name. newest_value name (store_of c.args.caller points r) in
    let done = map change_view c.loop-one.changes.items in
    let none : drop c.loop-one.one-index c.args.commuted.now ≡ [] =
    grind (arith, common_steps, c.loop-one-test.false) in
    c.loop-one.invariant.folded r points s
    ∙ ap (λ cs. before done (all_folded value (map commuted_view cs))) none
    ∙ ap Ok (append-nil done)
