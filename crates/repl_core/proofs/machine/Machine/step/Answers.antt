use Rattle.repl_core.specs.Steps.{step_view}
use Rattle.repl_core.proofs.Points.{reads-of-point}
use Rattle.repl_core.proofs.machine.Machine.step.Goals as goal

pub returns-clause-reads : goal.returns-clause-reads
returns-clause-reads c = λ g w right stands.
    let it = c.in_ok-step_copied.ensures.done g w right stands in
    reads-of-point g w it.after (step_view c.args.step) _ it.accepted
