use Rattle.chunked_list.proofs.Tickets.{last-got-slice}
use Rattle.chunked_list.proofs.reads.last_number.Goals as goal

pub returns-in-Some : goal.returns-in-Some
returns-in-Some c = last-got-slice c.args.numbers.now c.in-Some.number.now c.in-Some.ensures.value
