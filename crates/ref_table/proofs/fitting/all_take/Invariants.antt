use Rattle.std.proofs.Common.{◌≡◌, map, drop}
use Rattle.repl_asks.specs.Inside.View.{commuted_view}
use Rattle.ref_table.specs.Commit.{all_take}
use Rattle.ref_table.proofs.fitting.all_take.Given as goal

abbrev pub invariant-loop-one : goal.invariant-loop-one
invariant-loop-one l = all_take (map commuted_view l.commuted)
    ≡ all_take (map commuted_view (drop l.one-index l.commuted))
