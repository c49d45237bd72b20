use Rattle.std.proofs.Common.{◌≡◌, drop, map}
use Rattle.repl_asks.specs.Inside.View.{sending_view}
use Rattle.server_rules.specs.Cells.{has_receivers}
use Rattle.tenant_asks.specs.Cells.{cells_data}
use Rattle.tenant_asks.proofs.cells.Cells.has_receivers.Given as goal

abbrev pub invariant-loop-sending : goal.invariant-loop-sending
invariant-loop-sending l = has_receivers (map sending_view l.sends) (cells_data l.self)
    ≡ has_receivers (map sending_view (drop l.sending-index l.sends)) (cells_data l.self)
