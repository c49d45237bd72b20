use Rattle.server_rules.specs.Machine.World.{opened_world}
use Rattle.machine_runs.proofs.Behind.{opened-stands}
use Rattle.machine_runs.specs.declared.runner.Runner.{Runner}
use Rattle.machine_runs.proofs.runner.Runner.new.Goals as goal

pub returns-in-Ok-clause-stands : goal.returns-in-Ok-clause-stands
returns-in-Ok-clause-stands c = λ g it.
    let made : Runner = record { machine = c.«open».new.self; walks = c.new-walks.result } in
    opened-stands g made it.right it.evaluates it.places c.new-walks.ensures
    (c.in-Ok.ensures.done g (opened_world g) it.right (c.in_ok-machine.ensures.stands g it))
