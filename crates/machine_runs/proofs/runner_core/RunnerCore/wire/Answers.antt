use Rattle.std.proofs.Common.{◌∙◌, ap, sym, option_map}
use Rattle.machine_runs.proofs.Behind.{tenant-of, tenant-there}
use Rattle.machine_runs.proofs.runner_core.RunnerCore.wire.Goals as goal

pub returns-in-Some : goal.returns-in-Some
returns-in-Some c = λ g l s.
    let there = sym c.tenant.ensures ∙ ap (option_map (λ it. it.now)) c.in-Some.is in
    c.wire.ensures g l.state l.store s.right
    (tenant-of g l c.args.self.now c.in-Some.tenant.now s there)

pub returns-in-None : goal.returns-in-None
returns-in-None c = λ g l s.
    absurd (tenant-there g l c.args.self.now s
    (sym c.tenant.ensures ∙ ap (option_map (λ it. it.now)) c.in-None.is))
