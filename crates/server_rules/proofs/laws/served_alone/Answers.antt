use Rattle.std.proofs.Common.{refl}
use Rattle.server_rules.specs.Machine.World.{new_world}
use Rattle.server_rules.proofs.Alone.{before-alone}
use Rattle.server_rules.proofs.laws.served_alone.Goals as goal

pub returns : goal.returns
returns c = λ g shared_refs turns t first private.
    before-alone g t turns (new_world shared_refs) (new_world shared_refs) (λ n. tt) (λ n. tt) refl refl
    first private
