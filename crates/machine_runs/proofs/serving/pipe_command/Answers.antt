use Rattle.machine_runs.proofs.serving.pipe_command.Goals as goal

pub returns : goal.returns
returns g c = (c.pipe-outcome.result, c.exit_status.ensures, c.pipe-outcome.ensures.served)
