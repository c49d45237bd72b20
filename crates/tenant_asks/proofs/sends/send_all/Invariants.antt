use Rattle.std.proofs.Common.{◌≡◌, ◌≤◌, length, map}
use Rattle.private_cells.specs.Inside.View.{agents_view, room_of}
use Rattle.tenant_asks.specs.Sends.{all_sent, outgoing_view}
use Rattle.tenant_asks.proofs.sends.send_all.Given as goal

abbrev pub invariant-loop-it : goal.invariant-loop-it
invariant-loop-it l = (all_sent (map outgoing_view l.prepared.items) (agents_view l.agents)
    ≡ all_sent (map outgoing_view l.fn.prepared.items) (agents_view l.fn.agents))
    × (length l.prepared.items ≤ room_of l.agents)

abbrev pub decreases-loop-it : goal.decreases-loop-it
decreases-loop-it l = length l.prepared.items
