use Rattle.std.proofs.Common.{rules}
use Rattle.std.specs.Arc.{arc_value}
use Rattle.std.proofs.lemmas.List.{length-map}
use Rattle.evaluation_rules.specs.Evaluation.{value_at}
use Rattle.special_forms.specs.Inside.Seen.{function_view}
use Rattle.walker_machine.proofs.Evaluating.{program_call-misfits}
use Rattle.walker_machine.proofs.calls.call_function.Goals as goal

pub returns-clause-meaning : goal.returns-clause-meaning
returns-clause-meaning c = λ s.
    program_call-misfits (value_at c.args.room) (function_view (arc_value c.args.function)) c.args.values.items _ s (λ e. c.if-len.false (search (rules, length-map))) (search rules)
