-- Ending: an evaluation comes back at its end, and its form is answered. An action's value becomes the
-- state of its agent.
use Rattle.std.specs.Prelude.{ℕ, Bool, true, false, Option, None, Some, if◌then◌else◌}
use Rattle.ref_table.specs.Calls.{leaves_attempt}
use Rattle.server_rules.specs.Ground.{Ground}
use Rattle.server_rules.specs.Request.{Manner, of_action, WorkInHand, Run}
use Rattle.server_rules.specs.Cells.{CellsData, with_agents, agents_ended}
use Rattle.server_rules.specs.Asking.{sender_of}
use Rattle.server_rules.specs.Tenant.{ActorData, seat_of, TenantState, is_held, actor_state}
use Rattle.server_rules.specs.Moves.{form_ended}
use Rattle.server_rules.specs.Starting.{after_move, interrupted_in}
use Rattle.server_rules.specs.Plan.{Outcome, refuses, leaves, form_finished}
use Rattle.repl_asks.specs.Job.{EndingData}
use Rattle.server_rules.specs.Plan.{Plan, quietly, with_step_spent}
use Rattle.server_rules.specs.declared.actor.Actor.{Actor}
use Rattle.server_rules.specs.declared.refusal.Refusal.{Refusal}

-- with the form also its attempt is left, where one runs
abbrev pub with_left_attempt : Actor → Outcome → Plan
with_left_attempt a outcome = record { call = leaves_attempt (seat_of a); next = λ told. outcome }

-- what the end of an action makes of the agents; the end of another form leaves them
abbrev pub cells_ended : Manner → Actor → WorkInHand → Run → EndingData → CellsData → CellsData
cells_ended (of_action session) a h run e cells =
    with_agents (agents_ended (sender_of a h) run.trace e.end.result cells.agents) cells
cells_ended manner a h run e cells = cells

abbrev pub with_cells_ended : Actor → WorkInHand → Run → EndingData → TenantState → TenantState
with_cells_ended a h run e q = record q { cells = cells_ended h.manner a h run e q.cells }

abbrev pub end_accepted : Actor → ActorData → WorkInHand → Run → EndingData → TenantState → Plan
end_accepted a actor h run e q = with_left_attempt a
    (leaves (with_step_spent (after_move a actor (form_ended h e.end (actor_state a q))
    (with_cells_ended a h run e q)))
    form_finished)

abbrev pub end_compared : Actor → ActorData → WorkInHand → Run → EndingData → TenantState → Bool → Option ℕ
    → Plan
end_compared a actor h run e q false difference = quietly (refuses (Refusal.TraceMismatch 0))
end_compared a actor h run e q true (Some place) = quietly (refuses (Refusal.TraceMismatch place))
end_compared a actor h run e q true None = end_accepted a actor h run e q

-- its job is the one that runs, and its trace the recorded one
abbrev pub end_checked : Ground → Actor → ActorData → WorkInHand → Run → EndingData → TenantState → Plan
end_checked g a actor h run e q = end_compared a actor h run e q
    (g.comparisons.is_same_job e.job run.job) (g.comparisons.difference e.trace run.trace)

abbrev pub end_running : Ground → Actor → ActorData → WorkInHand → EndingData → TenantState → Option Run → Plan
end_running g a actor h e q None = quietly (refuses Refusal.Idle)
end_running g a actor h e q (Some run) =
    if actor.is_closed then with_left_attempt a (interrupted_in a h q)
    else if is_held q then quietly (refuses Refusal.Held) else end_checked g a actor h run e q

abbrev pub end_of : Ground → Actor → ActorData → EndingData → TenantState → Option WorkInHand → Plan
end_of g a actor e q None = quietly (refuses Refusal.Idle)
end_of g a actor e q (Some h) = end_running g a actor h e q h.running
