use Rattle.std.proofs.Common.{refl}
use Rattle.server_rules.specs.Plan as deeds
use Rattle.server_rules.specs.LoneTurns.{hears}
use Rattle.machine_runs.proofs.Behind.{does-turn, refuses-turn, accepted-so}
use Rattle.machine_runs.proofs.runner_core.RunnerCore.hear.Goals as goal

pub returns-in-Ok-clause-accepted : goal.returns-in-Ok-clause-accepted
returns-in-Ok-clause-accepted c = λ g l right s.
    let piece = c.args.piece.now in
    let new = record c.args.self.now { machine = c.hear.new.self } in
    accepted-so g l (hears piece) new _
    (does-turn g l (hears piece) (deeds.hears piece) c.args.self.now new _ s tt refl refl
    (c.in-Ok.ensures.done g s.world right s.machine))

pub returns-in-Err-clause-as_it_was : goal.returns-in-Err-clause-as_it_was
returns-in-Err-clause-as_it_was c = λ g l right s.
    let piece = c.args.piece.now in
    let new = record c.args.self.now { machine = c.hear.new.self } in
    refuses-turn g l (hears piece) (deeds.hears piece) c.args.self.now new _ s refl refl
    (c.in-Err.ensures.refused g s.world right s.machine)
