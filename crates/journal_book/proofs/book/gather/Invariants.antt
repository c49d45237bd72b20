use Rattle.std.proofs.Common.{◌≡◌, ◌+◌, vec_len}
use Rattle.journal_book.specs.Rows.{all_counted}
use Rattle.journal_book.proofs.book.gather.Given as goal

abbrev pub invariant-loop-seat : goal.invariant-loop-seat
invariant-loop-seat g l = (l.all.parts + vec_len l.seats ≡ vec_len l.fn.seats)
    × (l.all.amount + all_counted l.seats.items ≡ all_counted l.fn.seats.items)

abbrev pub decreases-loop-seat : goal.decreases-loop-seat
decreases-loop-seat g l = vec_len l.seats
