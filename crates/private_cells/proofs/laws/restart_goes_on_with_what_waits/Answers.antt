use Rattle.private_cells.proofs.Lawful.{restart_goes_on}
use Rattle.private_cells.specs.Agents.{restarted}
use Rattle.private_cells.proofs.Keeping.{waiting_kept}
use Rattle.private_cells.proofs.Quieting.{restarted_waiting}
use Rattle.private_cells.proofs.laws.restart_goes_on_with_what_waits.Goals as goal

pub returns : goal.returns
returns c = λ s n d h.
    let it = restart_goes_on s n d h in
    (it.0, it.1, waiting_kept (restarted d) (restarted_waiting d) n n s.agents)
