use Rattle.std.proofs.Common.{◌≡◌, map, length}
use Rattle.std.specs.Ordering.{eq_by_cmp}
use Rattle.repl_asks.specs.Inside.View.{name_view}
use Rattle.ref_history.specs.contracts.ref_id.RefIdOrd.TheImpl as order
use Rattle.ref_table.specs.Directory.{ids_named}
use Rattle.ref_table.specs.Placing.{all_distinct}
use Rattle.ref_table.proofs.directory.Directory.commutes_each_once.Given as goal

-- what was looked through comes once
abbrev pub invariant-loop-one : goal.invariant-loop-one
invariant-loop-one l =
    all_distinct (eq_by_cmp (order.ghosts).cmp)
    (ids_named l.self l.caller (map (λ c. name_view c.name) l.commuted))
    ≡ all_distinct (eq_by_cmp (order.ghosts).cmp)
    (ids_named l.self l.caller (map (λ c. name_view c.name) l.left))

abbrev pub decreases-loop-one : goal.decreases-loop-one
decreases-loop-one l = length l.left
