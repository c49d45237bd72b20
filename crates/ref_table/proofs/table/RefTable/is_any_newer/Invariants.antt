use Rattle.std.proofs.Common.{◌≡◌, ℕ, List, map, drop}
use Rattle.repl_asks.specs.Inside.View.{name_view}
use Rattle.ref_table.specs.Numbered.{Entry}
use Rattle.ref_table.specs.Commit.{any_newer}
use Rattle.ref_table.specs.Refs.{TableRefs, store_of}
use Rattle.ref_table.specs.Standing.{TableStands}
use Rattle.ref_table.proofs.table.RefTable.is_any_newer.Given as goal

abbrev pub invariant-loop-name : goal.invariant-loop-name
invariant-loop-name g l = (r : TableRefs) (points : List (Entry ℕ)) → TableStands g.H.History.stands l.self r
    → any_newer l.point.stamp (map name_view l.names) (store_of l.caller points r)
    ≡ any_newer l.point.stamp (map name_view (drop l.name-index l.names)) (store_of l.caller points r)
