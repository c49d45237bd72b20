use Rattle.std.proofs.Common.{◌≡◌, true, map, drop}
use Rattle.std.specs.List.{list_all}
use Rattle.value_data.specs.Inside.View.{view}
use Rattle.repl_asks.specs.Inside.View.{commute_view}
use Rattle.ref_table.specs.Commit.{takes_its_arguments, folded_value}
use Rattle.ref_table.proofs.folding.fold_commutes.Given as goal

-- where the rest comes to from here, all comes to from the start
abbrev pub invariant-loop-commute : goal.invariant-loop-commute
invariant-loop-commute l = record {
  takes : list_all takes_its_arguments (map commute_view (drop l.commute-index l.commutes)) ≡ true;
  folded_value : folded_value (map commute_view l.commutes) (view l.fn.value)
      ≡ folded_value (map commute_view (drop l.commute-index l.commutes)) (view l.now);
}
