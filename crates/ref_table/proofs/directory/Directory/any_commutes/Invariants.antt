use Rattle.std.proofs.Common.{◌≡◌, map, drop}
use Rattle.std.specs.List.{list_any}
use Rattle.std.specs.Ordering.{eq_by_cmp}
use Rattle.repl_asks.specs.Inside.View.{name_view}
use Rattle.ref_history.specs.contracts.ref_id.RefIdOrd.TheImpl as order
use Rattle.ref_table.specs.Directory.{ids_named}
use Rattle.ref_table.proofs.directory.Directory.any_commutes.Given as goal

abbrev pub invariant-loop-one : goal.invariant-loop-one
invariant-loop-one l =
    list_any (eq_by_cmp (order.ghosts).cmp l.id)
    (ids_named l.self l.caller (map (λ c. name_view c.name) l.commuted))
    ≡ list_any (eq_by_cmp (order.ghosts).cmp l.id)
    (ids_named l.self l.caller (map (λ c. name_view c.name) (drop l.one-index l.commuted)))
