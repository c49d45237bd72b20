use Rattle.std.proofs.Common.{◌+◌, drop, sym, ap, ◌∙◌}
use Rattle.std.specs.Ordering.{eq_by_cmp}
use Rattle.std.specs.BTreeSet as set
use Rattle.ref_history.specs.contracts.ref_id.RefIdOrd.TheImpl as order
use Rattle.ref_table.proofs.Distinct.{all_new, all_new-start, all_new-more, all_new-repeat}
use Rattle.ref_table.proofs.Distinct.{drop-got}
use Rattle.ref_table.proofs.placing.are_distinct.Goals as goal

pub loop-id-init : goal.loop-id-init
loop-id-init c =
    all_new-start (order.ghosts).cmp c.new-seen.result c.args.ids.now c.new-seen.ensures.empty

pub loop-id-preserved : goal.loop-id-preserved
loop-id-preserved c =
    let rest = drop (c.loop-id.id-index + 1) c.args.ids.now in
    sym (all_new-more (order.ghosts).cmp c.loop-id.seen c.insert.new.self _ rest
    c.in_ok-insert.field-0 c.if-not-branch.false c.in_ok-insert.ensures.added
    c.in_ok-insert.ensures.updates.0)
    ∙ ap (all_new (eq_by_cmp (order.ghosts).cmp) (set.contains (order.ghosts).cmp c.loop-id.seen))
    (sym (drop-got c.args.ids.now c.loop-id.id-index (record { place = 0 }) c.loop-id-test.true))
    ∙ c.loop-id.invariant

pub returns-then-not-branch : goal.returns-then-not-branch
returns-then-not-branch c =
    let rest = drop (c.loop-id.id-index + 1) c.args.ids.now in
    sym (all_new-repeat (order.ghosts).cmp c.loop-id.seen _ rest
    c.in_ok-insert.field-0 c.if-not-branch.true c.in_ok-insert.ensures.added)
    ∙ ap (all_new (eq_by_cmp (order.ghosts).cmp) (set.contains (order.ghosts).cmp c.loop-id.seen))
    (sym (drop-got c.args.ids.now c.loop-id.id-index (record { place = 0 }) c.loop-id-test.true))
    ∙ c.loop-id.invariant
