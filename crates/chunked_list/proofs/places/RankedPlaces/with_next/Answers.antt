use Rattle.std.proofs.Common.{arith}
use Rattle.chunked_list.proofs.Tickets.{grown-keeps, grown-places, ranks-are}
use Rattle.chunked_list.proofs.places.RankedPlaces.with_next.Goals as goal

pub invariant_of-result : goal.invariant_of-result
invariant_of-result c =
    grown-keeps c.self.inside.tickets c.self.inside.ranked c.insert.new.self c.insert-2.new.self c.self.inside.next c.in-Some.later c.args.rank c.len-count.result c.self.invariant
    (omega (arith, c.requires, ranks-are c.self.inside.tickets c.self.inside.ranked c.args.self c.self.view_is)) c.len-count.ensures
    c.in_ok-insert.ensures.inserted c.in_ok-insert-2.ensures.inserted c.in-Some.ensures.1

pub returns : goal.returns
returns c =
    grown-places c.self.inside.tickets c.self.inside.ranked c.insert.new.self c.insert-2.new.self c.args.self c.self.inside.next c.args.rank c.len-count.result c.self.invariant
    (omega (arith, c.requires, ranks-are c.self.inside.tickets c.self.inside.ranked c.args.self c.self.view_is)) c.len-count.ensures
    c.in_ok-insert.ensures.inserted c.in_ok-insert-2.ensures.inserted c.self.view_is
