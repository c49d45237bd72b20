use Rattle.std.proofs.Common.{◌≡◌, take, map}
use Rattle.repl_asks.specs.Inside.View.{sending_view}
use Rattle.tenant_asks.specs.Sends.{outgoing_from, outgoing_view, sender_view}
use Rattle.tenant_asks.proofs.sends.prepare.Given as goal

abbrev pub invariant-loop-sending : goal.invariant-loop-sending
invariant-loop-sending l = map outgoing_view l.prepared.items
    ≡ map (outgoing_from (sender_view l.sender)) (map sending_view (take l.sending-index l.sends))
