use Rattle.std.proofs.Common.{List, ℕ, get_or, ap, sym, ◌∙◌, arith}
use Rattle.std.proofs.lemmas.List.{get_or-map}
use Rattle.chunked_list.specs.Places.{below}
use Rattle.chunked_list.proofs.Tickets.{own-place, ranks-are}
use Rattle.chunked_list.proofs.places.RankedPlaces.at.Goals as goal

pub returns-then-len-self : goal.returns-then-len-self
returns-then-len-self c =
    let ts = c.self.inside.tickets in
    let rs = c.self.inside.ranked in
    c.at-ticket.ensures
    ∙ own-place ts rs c.self.inside.next c.args.rank c.self.invariant (omega (arith, c.len.ensures, c.if-len-self.true)) (omega (arith, c.requires, ranks-are ts rs c.args.self.now c.self.view_is))
    ∙ sym (get_or-map (λ t. below t ts) rs c.args.rank 0 0 (omega (arith, c.requires, ranks-are ts rs c.args.self.now c.self.view_is)))
    ∙ ap (λ (ns : List ℕ). get_or ns c.args.rank 0) c.self.view_is
