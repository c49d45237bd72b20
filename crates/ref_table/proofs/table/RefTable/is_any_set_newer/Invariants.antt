use Rattle.std.proofs.Common.{◌≡◌, ℕ, List, map, drop}
use Rattle.repl_asks.specs.Inside.View.{name_view}
use Rattle.ref_table.specs.Numbered.{Entry}
use Rattle.ref_table.specs.Commit.{any_newer}
use Rattle.ref_table.specs.Refs.{TableRefs, store_of}
use Rattle.ref_table.specs.Standing.{TableStands}
use Rattle.ref_table.proofs.table.RefTable.is_any_set_newer.Given as goal

abbrev pub invariant-loop-change : goal.invariant-loop-change
invariant-loop-change g l = (r : TableRefs) (points : List (Entry ℕ)) → TableStands g.H.History.stands l.self r
    → any_newer l.point.stamp (map (λ c. name_view c.name) l.sets) (store_of l.caller points r)
    ≡ any_newer l.point.stamp (map (λ c. name_view c.name) (drop l.change-index l.sets))
    (store_of l.caller points r)
