use Rattle.std.proofs.Common.{ap, sym}
use Rattle.value_data.specs.Inside.View.{view, views}
use Rattle.evaluation_rules.specs.Doing.{Kept, Doing}
use Rattle.walker_state.specs.Pending.{whole, place_of, next_of, kept_of}
use Rattle.walker_state.specs.Frames.{callee_view}
use Rattle.special_forms.specs.Inside.Seen.{forms_view}
use Rattle.walker_machine.proofs.Evaluating.{call_step, form-taken}
use Rattle.walker_machine.proofs.rows.next_argument.Goals as goal

pub returns-clause-meaning : goal.returns-clause-meaning
returns-clause-meaning c =
    let s = c.args.state.now in
    let step = call_step c.args.room (place_of s) (callee_view c.args.callee) (views c.args.values.items) (view c.in-Some.form) (forms_view c.take_first.new.self) (next_of s) in
    let taken = form-taken _ _ _ _ _ c.in_ok-form.ensures c.in-Some.is in
    rw (c.in_ok-push_front.ensures.items, taken) (ap (λ (part : Kept → Doing). whole s (part (kept_of s))) (sym step))
