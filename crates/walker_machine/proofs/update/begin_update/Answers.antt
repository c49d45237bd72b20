use Rattle.std.proofs.Common.{refl, rules, ap, List, [], ◌∷◌, ◌++◌, ◌∙◌}
use Rattle.value_data.specs.Datum.{Datum}
use Rattle.value_data.specs.declared.value.Value.{Value}
use Rattle.evaluation_rules.specs.Calling.{updating}
use Rattle.repl_asks.specs.Exchange.{store_function}
use Rattle.evaluation_rules.specs.Doing.{Kept, Doing}
use Rattle.evaluation_rules.specs.Applying.{named_callee}
use Rattle.walker_state.specs.Pending.{next_of, place_of}
use Rattle.walker_state.specs.Frames.{call_behind}
use Rattle.value_data.specs.Inside.View.{view, views}
use Rattle.special_forms.specs.Inside.Seen.{forms_view}
use Rattle.walker_machine.proofs.Evaluating.{if_ok-turned, form-taken, none-taken}
use Rattle.walker_machine.proofs.Altering.{update-none, update-alone, update-target}
use Rattle.walker_machine.proofs.update.begin_update.Goals as goal

pub returns-in_default-clause-meaning : goal.returns-in_default-clause-meaning
returns-in_default-clause-meaning c =
    let s = c.args.state.now in
    if_ok-turned _ _ (rw (c.function.ensures, c.new-values.ensures.items) (update-none c.args.by c.args.room (forms_view c.args.forms) (forms_view c.take_first.new.self) s (search rules) (search rules)))
    c.next_argument.ensures.meaning

pub returns-in_ok-push_front-in-Some-2-clause-meaning : goal.returns-in_ok-push_front-in-Some-2-clause-meaning
returns-in_ok-push_front-in-Some-2-clause-meaning c =
    let s = c.args.state.now in
    let pushed = c.in_ok-push_front-in-Some-2.ensures.items in
    let target = form-taken _ _ _ _ _ c.in_ok-target.ensures c.in-Some.is in
    let function = form-taken _ _ _ _ _ c.in_ok-function.ensures c.in-Some-2.is in
    update-target s (record s { frames = c.push_front.new.self }) c.args.by c.args.room (view c.in-Some.target) (view c.in-Some-2.function) (forms_view c.take_first-2.new.self)
    (forms_view c.args.forms) (rw pushed refl, rw pushed refl, refl, refl, refl, refl, refl) (target ∙ ap (λ (ds : List Datum). view c.in-Some.target ∷ ds) function)

pub returns-in_ok-push_front-in-None-clause-meaning : goal.returns-in_ok-push_front-in-None-clause-meaning
returns-in_ok-push_front-in-None-clause-meaning c =
    let s = c.args.state.now in
    let pushed = c.in_ok-push_front-in-None.ensures.items in
    let target = form-taken _ _ _ _ _ c.in_ok-target.ensures c.in-Some.is in
    let none = none-taken _ _ _ c.in_ok-function.ensures c.in-None.is in
    let begun : List Value → List Datum → Datum → Kept → Doing = λ vs ds v kept.
    call_behind c.args.room (place_of s) (named_callee (store_function (updating c.args.by))) (views vs ++ v ∷ []) ds (next_of s) kept in
    update-alone s (record s { frames = c.push_front-in-None.new.self }) c.args.by c.args.room (view c.in-Some.target) (forms_view c.args.forms)
    (rw (pushed, c.function.ensures) (ap (λ (vs : List Value). begun vs (forms_view c.take_first-2.new.self)) c.new-values.ensures.items ∙ ap (begun []) none.1), rw pushed refl, refl, refl, refl, refl, refl) (target ∙ ap (λ (ds : List Datum). view c.in-Some.target ∷ ds) none.0)
