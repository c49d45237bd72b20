use Rattle.std.proofs.Common.{refl, rules}
use Rattle.value_data.specs.Inside.View.{view, views}
use Rattle.value_data.proofs.Views.{value_views}
use Rattle.repl_asks.specs.Inside.View.{name_view, named_view}
use Rattle.walker_machine.proofs.Evaluating.{if_ok-turned}
use Rattle.walker_machine.proofs.Altering.{alter_step-calls, alter_step-commutes}
use Rattle.walker_machine.proofs.alter.call_altering.Goals as goal

pub returns-in_ok-push_front-in-Alter-clause-meaning : goal.returns-in_ok-push_front-in-Alter-clause-meaning
returns-in_ok-push_front-in-Alter-clause-meaning c =
    let s = c.args.state.now in
    let pushed = c.in_ok-push_front-in-Alter.ensures.items in
    if_ok-turned _ _ (rw c.in-Alter.is (alter_step-calls s (record s { frames = c.push_front.new.self }) (named_view c.args.function) (name_view c.args.name) c.args.room (view c.args.value)
    (views c.args.values.items) c.insert.new.self.items (rw pushed refl, rw pushed refl, refl, refl, refl, refl, refl) (search (rules, value_views)))) c.call_named.ensures.meaning

pub returns-in-Commute-clause-meaning : goal.returns-in-Commute-clause-meaning
returns-in-Commute-clause-meaning c =
    let s = c.args.state.now in
    if_ok-turned _ _ (rw c.in-Commute.is (alter_step-commutes s (named_view c.args.function) (name_view c.args.name) c.args.room (view c.args.value) (views c.args.values.items)))
    c.call_commuting.ensures.meaning
