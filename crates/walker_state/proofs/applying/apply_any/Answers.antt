use Rattle.value_data.specs.Inside.View.{views}
use Rattle.core_functions.specs.Meaning.{meaning}
use Rattle.evaluation_rules.specs.Applying.{outcome}
use Rattle.std.proofs.Common.{refl}
use Rattle.walker_state.proofs.Printing.{if_ok-here}
use Rattle.walker_state.proofs.applying.apply_any.Goals as goal

pub returns-in-Err-clause-meaning : goal.returns-in-Err-clause-meaning
returns-in-Err-clause-meaning c =
    let given = outcome (meaning c.args.function (views c.args.values.now)) in
    if_ok-here _ given given c.args.state.now refl
    (c.fault_control.ensures.meaning (meaning c.args.function (views c.args.values.now)) c.in-Err.ensures)
