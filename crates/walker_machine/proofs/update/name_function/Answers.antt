use Rattle.std.proofs.Common.{refl, rules, arith}
use Rattle.value_data.specs.Inside.View.{view}
use Rattle.special_forms.specs.Inside.Seen.{forms_view}
use Rattle.walker_state.specs.Pending.{place_of}
use Rattle.walker_machine.proofs.Altering.{function_value-of, function_value-other}
use Rattle.walker_machine.proofs.update.name_function.Goals as goal

pub returns-in_ok-not_a_function-in_default : goal.returns-in_ok-not_a_function-in_default
returns-in_ok-not_a_function-in_default c = record {
  on = record { size = omega arith; calls = omega arith; around = refl };
  meaning = function_value-other c.args.state.now c.args.by c.args.room (view c.args.target) (view c.args.function) (forms_view c.args.forms) _ (function_value-of (place_of c.args.state.now) c.args.function c.in_default.not-Symbol) (search rules);
}
