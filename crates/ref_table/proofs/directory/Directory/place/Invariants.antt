use Rattle.std.proofs.Common.{◌≡◌, ◌++◌, map, drop}
use Rattle.repl_asks.specs.Inside.View.{change_view}
use Rattle.ref_table.specs.Placing.{placed_view, placed_changes}
use Rattle.ref_table.proofs.directory.Directory.place.Given as goal

-- what is placed and what is left to be placed
abbrev pub invariant-loop-change : goal.invariant-loop-change
invariant-loop-change l = map placed_view l.placed.items
    ++ placed_changes l.self l.caller (map change_view (drop l.change-index l.changes))
    ≡ map placed_view l.fn.placed.items ++ placed_changes l.self l.caller (map change_view l.changes)
