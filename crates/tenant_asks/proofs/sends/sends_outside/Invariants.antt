use Rattle.std.proofs.Common.{◌≡◌, ◌++◌, drop, false, map}
use Rattle.tenant_parts.specs.View.{kept_trace}
use Rattle.tenant_asks.specs.Sends.{outgoing_in, outgoing_view, sender_view}
use Rattle.tenant_asks.proofs.sends.sends_outside.Given as goal

abbrev pub invariant-loop-exchange : goal.invariant-loop-exchange
invariant-loop-exchange l = map outgoing_view l.sends.items
    ++ outgoing_in (sender_view l.sender) l.is_inside (kept_trace (drop l.exchange-index l.trace))
    ≡ outgoing_in (sender_view l.sender) false (kept_trace l.trace)
