use Rattle.std.proofs.Common.{sym, arith}
use Rattle.chunked_list.proofs.Tickets.{below-split}
use Rattle.chunked_list.proofs.reads.count_among.Goals as goal

pub returns : goal.returns
returns c =
    sym (below-split c.args.number c.args.numbers.now c.loop-low.low (omega (arith, c.loop-low.invariant.ordered, c.loop-low.invariant.within)) c.loop-low.invariant.before
    (λ i l k. c.loop-low.invariant.behind i (omega (arith, l, c.loop-low-test.false)) k))
