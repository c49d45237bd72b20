use Rattle.std.proofs.Common.{ap, sym, ◌∙◌, rules}
use Rattle.value_data.specs.Datum.{Datum}
use Rattle.evaluation_rules.specs.Evaluation.{value_at}
use Rattle.evaluation_rules.specs.Doing.{Kept, Doing, Part}
use Rattle.repl_asks.specs.Inside.View.{named_view}
use Rattle.evaluation_rules.specs.Applying.{named_callee}
use Rattle.walker_state.specs.Pending.{from_state, whole, place_of, kept_of, next_of}
use Rattle.special_forms.specs.Inside.Seen.{forms_view}
use Rattle.walker_machine.proofs.Evaluating.{if_ok-turned, call_start}
use Rattle.walker_machine.proofs.Altering.{named_call-other}
use Rattle.walker_machine.proofs.answers.begin_call.Goals as goal

pub returns-in_default-clause-meaning : goal.returns-in_default-clause-meaning
returns-in_default-clause-meaning c =
    let s = c.args.state.now in
    let f = c.args.function in
    let ds = forms_view c.args.forms in
    let start = call_start c.args.room (place_of s) (named_callee (named_view f)) ds (next_of s) in
    let other = named_call-other (value_at c.args.room) (place_of s) ds f (search rules) (search rules) (search rules) (search rules) (search rules) in
    if_ok-turned _ _ (rw c.new.ensures.items
    (ap (λ (part : Kept → Doing). whole s (part (kept_of s))) start ∙ ap (λ (part : Part Datum). from_state part s) (sym other)))
    c.next_argument.ensures.meaning
