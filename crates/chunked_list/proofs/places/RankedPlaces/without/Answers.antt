use Rattle.std.proofs.Common.{ℕ, ap, ◌∙◌, arith}
use Rattle.chunked_list.specs.Places.{below}
use Rattle.chunked_list.proofs.Tickets.{less-keeps, less-places, ranks-are, place-fits}
use Rattle.chunked_list.proofs.places.RankedPlaces.without.Goals as goal

pub remove-requires : goal.remove-requires
remove-requires c =
    omega (
      arith,
      c.count_below-place.ensures,
      ap (λ (t : ℕ). below t c.self.inside.tickets) c.at.ensures,
      place-fits c.self.inside.tickets c.self.inside.ranked c.self.inside.next c.args.rank c.self.invariant
          (omega (arith, c.requires, ranks-are c.self.inside.tickets c.self.inside.ranked c.args.self c.self.view_is)),
    )

pub invariant_of-result : goal.invariant_of-result
invariant_of-result c =
    less-keeps c.self.inside.tickets c.self.inside.ranked c.remove.new.self c.remove-2.new.self c.self.inside.next c.args.rank c.count_below-place.result c.self.invariant
    (omega (arith, c.requires, ranks-are c.self.inside.tickets c.self.inside.ranked c.args.self c.self.view_is))
    (c.count_below-place.ensures ∙ ap (λ (t : ℕ). below t c.self.inside.tickets) c.at.ensures) c.in_ok-remove.ensures.removed c.in_ok-remove-2.ensures.removed

pub returns : goal.returns
returns c =
    less-places c.self.inside.tickets c.self.inside.ranked c.remove.new.self c.remove-2.new.self c.args.self c.self.inside.next c.args.rank c.count_below-place.result c.self.invariant
    (omega (arith, c.requires, ranks-are c.self.inside.tickets c.self.inside.ranked c.args.self c.self.view_is))
    (c.count_below-place.ensures ∙ ap (λ (t : ℕ). below t c.self.inside.tickets) c.at.ensures) c.in_ok-remove.ensures.removed c.in_ok-remove-2.ensures.removed c.self.view_is
