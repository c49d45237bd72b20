use Rattle.std.proofs.Common.{◌≡◌, drop}
use Rattle.std.specs.Ordering.{eq_by_cmp}
use Rattle.std.specs.BTreeSet as set
use Rattle.ref_history.specs.contracts.ref_id.RefIdOrd.TheImpl as order
use Rattle.ref_table.specs.Placing.{all_distinct}
use Rattle.ref_table.proofs.Distinct.{all_new}
use Rattle.ref_table.proofs.placing.are_distinct.Given as goal

-- what is left is distinct, and nothing of it was seen
abbrev pub invariant-loop-id : goal.invariant-loop-id
invariant-loop-id l =
    all_new (eq_by_cmp (order.ghosts).cmp) (set.contains (order.ghosts).cmp l.seen)
    (drop l.id-index l.ids)
    ≡ all_distinct (eq_by_cmp (order.ghosts).cmp) l.ids
