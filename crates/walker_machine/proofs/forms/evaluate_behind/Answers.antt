use Rattle.std.proofs.Common.{ap}
use Rattle.std.specs.Arc.{arc_str_bytes}
use Rattle.evaluation_rules.specs.Doing.{Kept, Doing}
use Rattle.evaluation_rules.specs.Applying.{keyword_callee}
use Rattle.walker_state.specs.Pending.{whole, place_of, kept_of, next_of}
use Rattle.special_forms.specs.Inside.Seen.{forms_view}
use Rattle.walker_machine.proofs.Evaluating.{if_ok-turned, call_start}
use Rattle.walker_machine.proofs.forms.evaluate_behind.Goals as goal

pub returns-in-Keyword-clause-meaning : goal.returns-in-Keyword-clause-meaning
returns-in-Keyword-clause-meaning c =
    let s = c.args.state.now in
    let callee = keyword_callee (arc_str_bytes c.in-Keyword.name) in
    let start = call_start c.args.room (place_of s) callee (forms_view c.args.forms) (next_of s) in
    if_ok-turned _ _ (rw (c.in-Keyword.is, c.new.ensures.items) (ap (λ (part : Kept → Doing). whole s (part (kept_of s))) start)) c.next_argument.ensures.meaning
