use Rattle.machine_runs.proofs.Behind.{goes-turn, halts-turn}
use Rattle.machine_runs.specs.declared.runner.Runner.{Runner}
use Rattle.machine_runs.proofs.runner_core.RunnerCore.go.Goals as goal

pub returns-clause-accepted : goal.returns-clause-accepted
returns-clause-accepted c = λ g l right s.
    let new : Runner = record { machine = c.go.new.self; walks = c.go.new.walks } in
    goes-turn g l c.args.actor c.args.self.now new c.go.result s
    (c.go.ensures.done g s.world right s.ground s.machine s.walked)

pub returns-clause-as_it_was : goal.returns-clause-as_it_was
returns-clause-as_it_was c = λ g l right s.
    let new : Runner = record { machine = c.go.new.self; walks = c.go.new.walks } in
    halts-turn g l c.args.actor c.args.self.now new c.go.result s
    (c.go.ensures.refused g s.world right s.ground s.machine s.walked)
