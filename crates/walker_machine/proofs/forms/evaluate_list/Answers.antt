use Rattle.std.proofs.Common.{◌≡◌, ◌∷◌, ◌∙◌, ap, sym, arith, List}
use Rattle.value_data.specs.Datum.{Datum}
use Rattle.value_data.specs.Listed.{listed}
use Rattle.value_data.specs.Inside.View.{view}
use Rattle.special_forms.proofs.Sizes.{datum_size-pos, forms_size-cons}
use Rattle.special_forms.specs.Inside.Seen.{forms_view}
use Rattle.evaluation_rules.specs.Doing.{Part}
use Rattle.walker_state.specs.Pending.{from_state, place_of}
use Rattle.walker_state.specs.Frames.{list_at}
use Rattle.walker_machine.proofs.Evaluating.{if_ok-turned, form-taken, list-behind}
use Rattle.walker_machine.proofs.Going.{leads-within}
use Rattle.walker_machine.proofs.forms.evaluate_list.Goals as goal

pub returns-clause-on : goal.returns-clause-on
returns-clause-on c =
    let head = view c.in-Some.head in
    let rest = forms_view c.take_first.new.self in
    let taken = form-taken _ _ _ _ _ c.in_ok-head.ensures c.in-Some.is in
    let whole : listed c.args.items.items ≡ head ∷ rest = sym c.of_items-forms.ensures ∙ taken in
    leads-within _ _ _ _ _ (rw whole (omega (arith, forms_size-cons head rest, datum_size-pos head)))
    c.evaluate_behind.ensures.on

pub returns-clause-meaning : goal.returns-clause-meaning
returns-clause-meaning c =
    let s = c.args.state.now in
    let head = view c.in-Some.head in
    let rest = forms_view c.take_first.new.self in
    let taken = form-taken _ _ _ _ _ c.in_ok-head.ensures c.in-Some.is in
    let whole : listed c.args.items.items ≡ head ∷ rest = sym c.of_items-forms.ensures ∙ taken in
    let behind = list-behind c.args.room (place_of s) head rest c.if-room-eq0.false in
    if_ok-turned _ _ (ap (λ (part : Part Datum). from_state part s) (sym behind ∙ ap (λ (ds : List Datum). list_at c.args.room (place_of s) ds) (sym whole)))
    c.evaluate_behind.ensures.meaning
