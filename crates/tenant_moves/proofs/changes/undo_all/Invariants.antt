use Rattle.std.proofs.Common.{◌≡◌}
use Rattle.tenant_parts.specs.View.{actors_view}
use Rattle.tenant_moves.specs.Undone.{sessions_and_actors, all_undone}
use Rattle.tenant_moves.proofs.changes.undo_all.Given as goal

abbrev pub invariant-loop-change : goal.invariant-loop-change
invariant-loop-change l =
    all_undone l.log.items (sessions_and_actors l.sessions (actors_view l.actors))
    ≡ all_undone l.fn.log.items (sessions_and_actors l.fn.sessions (actors_view l.fn.actors))

abbrev pub decreases-loop-change : goal.decreases-loop-change
decreases-loop-change l = goal.left-loop-change l
