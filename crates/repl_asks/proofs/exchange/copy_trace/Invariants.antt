use Rattle.std.proofs.Common.{◌≡◌, take}
use Rattle.repl_asks.specs.Inside.View.{trace_view}
use Rattle.repl_asks.proofs.exchange.copy_trace.Given as goal

abbrev pub invariant-loop-exchange : goal.invariant-loop-exchange
invariant-loop-exchange l = trace_view l.copies.items ≡ trace_view (take l.exchange-index l.trace)
