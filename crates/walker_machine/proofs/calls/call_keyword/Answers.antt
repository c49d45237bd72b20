use Rattle.std.proofs.Common.{rules}
use Rattle.std.specs.Arc.{arc_str_bytes}
use Rattle.walker_machine.proofs.Evaluating.{keyword_call-misfits}
use Rattle.walker_machine.proofs.calls.call_keyword.Goals as goal

pub returns-clause-meaning : goal.returns-clause-meaning
returns-clause-meaning c =
    keyword_call-misfits (arc_str_bytes c.args.name) c.args.values.items _ c.args.state.now (search rules) (search rules) (search rules)
