use Rattle.std.proofs.Common.{◌≡◌, length}
use Rattle.std.specs.BTreeSet.{keys}
use Rattle.repl_sessions.specs.Inside.Leaving.{remaining_named}
use Rattle.tenant_parts.specs.View.{actors_view}
use Rattle.tenant_moves.specs.Scene.{all_vacated}
use Rattle.tenant_moves.proofs.handling.close_all.Given as goal

abbrev pub invariant-loop-number : goal.invariant-loop-number
invariant-loop-number l = record {
  sessions : remaining_named (keys l.leaving) l.sessions ≡ remaining_named (keys l.fn.leaving) l.fn.sessions;
  actors : all_vacated (keys l.leaving) (actors_view l.actors) ≡ all_vacated (keys l.fn.leaving) (actors_view l.fn.actors);
}

abbrev pub decreases-loop-number : goal.decreases-loop-number
decreases-loop-number l = length (keys l.leaving)
