use Rattle.std.proofs.Common.{◌∙◌, ap, refl, Err}
use Rattle.server_rules.specs.Plan as deeds
use Rattle.server_rules.specs.Plan.{reply_given}
use Rattle.server_rules.specs.LoneTurns.{drains}
use Rattle.machine_runs.proofs.Behind.{does-turn, refuses-turn, drains-idle}
use Rattle.machine_runs.proofs.runner_core.RunnerCore.drain.Goals as goal

pub returns-in-Ok-clause-drained : goal.returns-in-Ok-clause-drained
returns-in-Ok-clause-drained c = λ g l s.
    let new = record c.args.self.now { machine = c.drain.new.self } in
    does-turn g l drains deeds.drains c.args.self.now new (reply_given c.in-Ok.reply.items) s tt
    refl refl (c.in-Ok.ensures.done g s.world s.right s.machine)

pub returns-in-Err-clause-drained : goal.returns-in-Err-clause-drained
returns-in-Err-clause-drained c = λ g l s.
    let new = record c.args.self.now { machine = c.drain.new.self } in
    let told = refuses-turn g l drains deeds.drains c.args.self.now new _ s refl refl
    (c.in-Err.ensures.refused g s.world s.right s.machine)
    (λ e. c.drain.ensures.free (c.in-Err.is ∙ ap (λ why. Err why) e)) in
    (drains-idle g l _ told.0, told.1)
