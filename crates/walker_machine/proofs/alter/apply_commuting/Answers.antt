use Rattle.std.proofs.Common.{refl, rules}
use Rattle.value_data.specs.Inside.View.{view, views}
use Rattle.value_data.proofs.Views.{value_views}
use Rattle.repl_asks.specs.Inside.View.{name_view}
use Rattle.walker_machine.proofs.Evaluating.{if_ok-turned}
use Rattle.walker_machine.proofs.Altering.{commute-applied}
use Rattle.walker_machine.proofs.alter.apply_commuting.Goals as goal

pub returns-clause-meaning : goal.returns-clause-meaning
returns-clause-meaning c =
    let s = c.args.state.now in
    let pushed = c.in_ok-push_front.ensures.items in
    if_ok-turned _ _ (commute-applied s (record s { frames = c.push_front.new.self }) c.args.function (name_view c.args.name) (view c.args.value)
    (views c.args.values.items) c.as_slice.result.now (rw pushed refl, rw pushed refl, refl, refl, refl, refl, refl) (search (rules, value_views))) c.call_core.ensures.meaning
