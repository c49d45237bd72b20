use Rattle.std.proofs.Common.{◌≡◌, map, drop}
use Rattle.repl_asks.specs.Inside.View.{change_view}
use Rattle.ref_table.specs.Commit.{all_fit}
use Rattle.ref_table.proofs.fitting.all_fit.Given as goal

abbrev pub invariant-loop-change : goal.invariant-loop-change
invariant-loop-change l = all_fit (map change_view l.sets)
    ≡ all_fit (map change_view (drop l.change-index l.sets))
