use Rattle.std.proofs.Common.{ap, sym}
use Rattle.value_data.specs.Inside.View.{view, views}
use Rattle.evaluation_rules.specs.Doing.{Kept, Doing}
use Rattle.walker_state.specs.Pending.{whole, place_of, next_of, kept_of}
use Rattle.special_forms.specs.Inside.Seen.{forms_view}
use Rattle.walker_machine.proofs.Evaluating.{items_step, form-taken}
use Rattle.walker_machine.proofs.rows.next_item.Goals as goal

pub returns-in_ok-push_front-in-Some-clause-meaning : goal.returns-in_ok-push_front-in-Some-clause-meaning
returns-in_ok-push_front-in-Some-clause-meaning c =
    let s = c.args.state.now in
    let step = items_step c.args.room (place_of s) (c.args.kind) (views c.args.values.items) (view c.in-Some.form) (forms_view c.take_first.new.self) (next_of s) in
    let taken = form-taken _ _ _ _ _ c.in_ok-take_first.ensures c.in-Some.is in
    rw (c.in_ok-push_front-in-Some.ensures.items, taken) (ap (λ (part : Kept → Doing). whole s (part (kept_of s))) (sym step))
