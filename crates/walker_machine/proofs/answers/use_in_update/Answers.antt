use Rattle.std.proofs.Common.{ap, rules}
use Rattle.evaluation_rules.specs.Doing.{Kept, Doing}
use Rattle.repl_asks.specs.Inside.View.{named_view}
use Rattle.special_forms.specs.Inside.Seen.{forms_view}
use Rattle.walker_state.specs.Pending.{whole, place_of, kept_of, next_of}
use Rattle.walker_machine.proofs.Evaluating.{if_ok-turned}
use Rattle.walker_machine.proofs.Altering.{update_with-start}
use Rattle.walker_machine.proofs.answers.use_in_update.Goals as goal

pub returns-in_ok-push-in-Function-clause-meaning : goal.returns-in_ok-push-in-Function-clause-meaning
returns-in_ok-push-in-Function-clause-meaning c =
    let s = c.args.state.now in
    let start = update_with-start c.args.by c.args.room (place_of s) (named_view c.in-Function.function) c.args.target c.push.new.self.items (forms_view c.args.forms) (next_of s) (search rules) in
    if_ok-turned _ _ (rw c.in-Function.is (ap (λ (part : Kept → Doing). whole s (part (kept_of s))) start)) c.next_argument.ensures.meaning
