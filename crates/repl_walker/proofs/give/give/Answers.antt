use Rattle.std.proofs.Common.{refl, ap, List}
use Rattle.value_data.specs.Datum.{Datum, nil}
use Rattle.value_data.specs.Inside.View.{view}
use Rattle.evaluation_rules.specs.Rows.{value_of_last}
use Rattle.evaluation_rules.specs.Evaluation.{value_at}
use Rattle.walker_state.specs.Pending.{whole, place_of, kept_of, next_of}
use Rattle.walker_state.specs.Frames.{callee_view, call_behind, items_behind}
use Rattle.value_data.proofs.Views.{view-Nil}
use Rattle.special_forms.specs.Truth.{is_truthy}
use Rattle.special_forms.specs.Inside.Seen.{forms_view}
use Rattle.walker_machine.proofs.Evaluating.{if_ok-turned, views-last, forms-chosen}
use Rattle.repl_walker.proofs.give.give.Goals as goal

pub returns-in_ok-push-in-Arguments-clause-meaning : goal.returns-in_ok-push-in-Arguments-clause-meaning
returns-in_ok-push-in-Arguments-clause-meaning c =
    let s = c.args.state.now in
    let f = c.in-Arguments in
    if_ok-turned _ _ (rw (f.is, c.in_ok-push-in-Arguments.ensures.items)
    (ap (λ (vs : List Datum). whole s (call_behind f.room (place_of s) (callee_view f.callee) vs (forms_view f.forms) (next_of s) (kept_of s))) (views-last f.values.items c.args.value)))
    c.next_argument.ensures.meaning

pub returns-in_ok-push-in-Collection-clause-meaning : goal.returns-in_ok-push-in-Collection-clause-meaning
returns-in_ok-push-in-Collection-clause-meaning c =
    let s = c.args.state.now in
    let f = c.in-Collection in
    if_ok-turned _ _ (rw (f.is, c.in_ok-push-in-Collection.ensures.items)
    (ap (λ (vs : List Datum). whole s (items_behind f.room (place_of s) f.kind vs (forms_view f.forms) (next_of s) (kept_of s))) (views-last f.values.items c.args.value)))
    c.next_item.ensures.meaning

pub returns-in-Choice-clause-meaning : goal.returns-in-Choice-clause-meaning
returns-in-Choice-clause-meaning c =
    let s = c.args.state.now in
    let f = c.in-Choice in
    if_ok-turned _ _ (rw (f.is, view-Nil)
    (ap (λ (ds : List Datum). whole s (value_of_last (value_at f.room (place_of s)) nil ds (next_of s) (kept_of s))) (forms-chosen (is_truthy (view c.args.value)) f.consequent f.alternative c.chosen_body-body.result c.chosen_body-body.ensures)))
    c.next_in_body-in-Choice.ensures.meaning

pub returns-in_ok-bind-in-Let-clause-meaning : goal.returns-in_ok-bind-in-Let-clause-meaning
returns-in_ok-bind-in-Let-clause-meaning c =
    let e = c.in_ok-bind-in-Let.ensures in
    if_ok-turned _ _ (rw (c.in-Let.is, e.bottom, e.next, e.kept, e.place, e.text, e.setting, e.transaction) refl) c.next_binding.ensures.meaning

pub returns-in-Define-clause-meaning : goal.returns-in-Define-clause-meaning
returns-in-Define-clause-meaning c = if_ok-turned _ _ (rw c.in-Define.is refl) c.define.ensures.meaning
