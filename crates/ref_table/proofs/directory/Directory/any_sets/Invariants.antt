use Rattle.std.proofs.Common.{◌≡◌, map, drop}
use Rattle.std.specs.List.{list_any}
use Rattle.std.specs.Ordering.{eq_by_cmp}
use Rattle.repl_asks.specs.Inside.View.{name_view}
use Rattle.ref_history.specs.contracts.ref_id.RefIdOrd.TheImpl as order
use Rattle.ref_table.specs.Directory.{ids_named}
use Rattle.ref_table.proofs.directory.Directory.any_sets.Given as goal

abbrev pub invariant-loop-change : goal.invariant-loop-change
invariant-loop-change l =
    list_any (eq_by_cmp (order.ghosts).cmp l.id)
    (ids_named l.self l.caller (map (λ c. name_view c.name) l.sets))
    ≡ list_any (eq_by_cmp (order.ghosts).cmp l.id)
    (ids_named l.self l.caller (map (λ c. name_view c.name) (drop l.change-index l.sets)))
