use Rattle.std.proofs.Common.{◌≡◌, map, drop}
use Rattle.repl_asks.specs.Inside.View.{name_view}
use Rattle.ref_table.specs.Directory.{all_named}
use Rattle.ref_table.proofs.directory.Directory.has_all.Given as goal

abbrev pub invariant-loop-name : goal.invariant-loop-name
invariant-loop-name l = all_named l.self l.caller (map name_view l.names)
    ≡ all_named l.self l.caller (map name_view (drop l.name-index l.names))
