use Rattle.std.proofs.Common.{◌∙◌}
use Rattle.chunked_list.proofs.InOrder.{in-order-keeps, in-order-places}
use Rattle.chunked_list.proofs.places.RankedPlaces.in_order.Goals as goal

pub invariant_of-result : goal.invariant_of-result
invariant_of-result c =
    in-order-keeps c.args.order.now _ _ (c.in_ok-from_slice.ensures ∙ c.deref.ensures.value ∙ c.in_ok-tickets.ensures) c.in_ok-from_slice-2.ensures c.requires

pub returns : goal.returns
returns c =
    in-order-places c.args.order.now _ _ (c.in_ok-from_slice.ensures ∙ c.deref.ensures.value ∙ c.in_ok-tickets.ensures) c.in_ok-from_slice-2.ensures c.requires
