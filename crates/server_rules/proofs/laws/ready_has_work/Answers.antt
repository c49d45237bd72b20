use Rattle.server_rules.specs.Machine.World.{new_world, run}
use Rattle.server_rules.proofs.Seats.{run-seated}
use Rattle.server_rules.proofs.Starts.{start-found}
use Rattle.server_rules.proofs.laws.ready_has_work.Goals as goal

pub returns : goal.returns
returns c = λ g shared_refs steps t tenant a here e.
    start-found g (run g (new_world shared_refs) steps) t tenant a
    (run-seated g (new_world shared_refs) steps (λ n. tt)) here e
