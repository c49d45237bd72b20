use Rattle.std.proofs.Common.{◌≡◌, map, take}
use Rattle.repl_asks.specs.Inside.View.{exchange_view, trace_view}
use Rattle.trace_comparison.proofs.traces.first_difference.Given as goal

abbrev pub invariant-loop-place : goal.invariant-loop-place
invariant-loop-place l = take l.place (trace_view l.told)
    ≡ take l.place (map (λ e. exchange_view e.value) l.recorded)
