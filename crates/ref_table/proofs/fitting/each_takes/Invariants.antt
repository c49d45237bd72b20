use Rattle.std.proofs.Common.{◌≡◌, map, drop}
use Rattle.std.specs.List.{list_all}
use Rattle.repl_asks.specs.Inside.View.{commute_view}
use Rattle.ref_table.specs.Commit.{takes_its_arguments}
use Rattle.ref_table.proofs.fitting.each_takes.Given as goal

abbrev pub invariant-loop-commute : goal.invariant-loop-commute
invariant-loop-commute l = list_all takes_its_arguments (map commute_view l.commutes)
    ≡ list_all takes_its_arguments (map commute_view (drop l.commute-index l.commutes))
