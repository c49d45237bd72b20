-- The honest deed of an actor: what its evaluation goes on with.
use Rattle.std.specs.Prelude.{Option, None, Some}
use Rattle.repl_asks.specs.InteractionTree.{InteractionTree, finished, asks}
use Rattle.repl_asks.specs.Leading.{tree_after}
use Rattle.ref_table.specs.Numbered.{part_under}
use Rattle.server_rules.specs.Ground.{Ground}
use Rattle.server_rules.specs.Request.{WorkInHand, Run}
use Rattle.server_rules.specs.Tenant.{ActorData, seat_of, TenantState}
use Rattle.server_rules.specs.Plan.{Deed, starts, asks_for, ends}
use Rattle.server_rules.specs.declared.actor.Actor.{Actor}

-- its form asks what its evaluation asks next, or ends as that ends
abbrev pub honest_at : Actor → Run → InteractionTree → Deed
honest_at a run (asks ask behind) = asks_for a ask
honest_at a run (finished e) = ends a (record { job = run.job; trace = run.trace; end = e })

abbrev pub honest_of : Ground → Actor → Option Run → Deed
honest_of g a None = starts a
honest_of g a (Some run) = honest_at a run (tree_after (g.evaluation run.job) run.trace)

abbrev pub honest_in : Ground → Actor → Option WorkInHand → Deed
honest_in g a None = starts a
honest_in g a (Some h) = honest_of g a h.running

abbrev pub honest_by : Ground → Actor → Option ActorData → Deed
honest_by g a None = starts a
honest_by g a (Some actor) = honest_in g a actor.hand

abbrev pub honest_deed : Ground → Actor → Option (Option TenantState) → Deed
honest_deed g a (Some (Some q)) = honest_by g a (part_under (seat_of a) q.actors)
honest_deed g a _ = starts a
