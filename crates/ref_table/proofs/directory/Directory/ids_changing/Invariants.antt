use Rattle.std.proofs.Common.{◌≡◌, ◌++◌, map, drop}
use Rattle.repl_asks.specs.Inside.View.{name_view}
use Rattle.ref_table.specs.Directory.{ids_named}
use Rattle.ref_table.proofs.directory.Directory.ids_changing.Given as goal

-- the ids that are noted and those that are left to be noted

abbrev pub invariant-loop-change : goal.invariant-loop-change
invariant-loop-change l = l.ids.items
    ++ ids_named l.self l.caller
    (map (λ c. name_view c.name) (drop l.change-index l.intent.sets.items))
    ≡ ids_named l.self l.caller (map (λ c. name_view c.name) l.intent.sets.items)

abbrev pub invariant-loop-one : goal.invariant-loop-one
invariant-loop-one l = l.ids.items
    ++ ids_named l.self l.caller
    (map (λ c. name_view c.name) (drop l.one-index l.intent.commuted.items))
    ≡ ids_named l.self l.caller (map (λ c. name_view c.name) l.intent.sets.items)
    ++ ids_named l.self l.caller (map (λ c. name_view c.name) l.intent.commuted.items)
