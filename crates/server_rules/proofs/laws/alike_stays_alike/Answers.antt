use Rattle.server_rules.specs.Machine.World.{new_world, run}
use Rattle.server_rules.proofs.Alone.{run-sound}
use Rattle.server_rules.proofs.Alike.{alike}
use Rattle.server_rules.proofs.laws.alike_stays_alike.Goals as goal

pub returns : goal.returns
returns c = λ g shared_refs other_refs steps other_steps s v private in_w in_x.
    alike g s v (run g (new_world shared_refs) steps) (run g (new_world other_refs) other_steps)
    (run-sound g (new_world shared_refs) steps (λ n. tt))
    (run-sound g (new_world other_refs) other_steps (λ n. tt)) private in_w in_x
