use Rattle.std.proofs.Common.{ap, ◌∙◌, arith}
use Rattle.std.proofs.lemmas.Grind.{common_steps}
use Rattle.value_data.specs.Inside.Nodes.{items_held}
use Rattle.value_data.proofs.Rows.{held-push, held-take}
use Rattle.value_data.proofs.copies.share_items.Goals as goal

pub loop-item-preserved : goal.loop-item-preserved
loop-item-preserved c = record {
  so_far = grind (arith, common_steps);
  same_size =
      ap items_held c.push_reserved.ensures.items
      ∙ held-push c.loop-item.copies.items c.in_ok-share.field-0
      ∙ omega (
        arith,
        c.loop-item.invariant.same_size,
        c.in_ok-share.ensures.held,
        held-take c.args.items.now c.loop-item.item-index c.item-item.result c.item-item.is c.loop-item-test.true,
      );
  room = grind (arith, common_steps);
}
