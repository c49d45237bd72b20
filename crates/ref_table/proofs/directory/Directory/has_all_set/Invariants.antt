use Rattle.std.proofs.Common.{◌≡◌, map, drop}
use Rattle.repl_asks.specs.Inside.View.{name_view}
use Rattle.ref_table.specs.Directory.{all_named}
use Rattle.ref_table.proofs.directory.Directory.has_all_set.Given as goal

abbrev pub invariant-loop-change : goal.invariant-loop-change
invariant-loop-change l = all_named l.self l.caller (map (λ c. name_view c.name) l.sets)
    ≡ all_named l.self l.caller (map (λ c. name_view c.name) (drop l.change-index l.sets))
