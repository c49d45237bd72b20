use Rattle.std.proofs.Common.{◌≡◌, ◌≤◌, ◌%◌, ◌^◌, ℕ, length, take}
use Rattle.journal_book.specs.Rows.{made_row, row_of, counted_of}
use Rattle.journal_book.proofs.report.Report.add_seats.Given as goal

abbrev pub invariant-loop-i : goal.invariant-loop-i
invariant-loop-i g l = ((t : ℕ) → row_of t l.self
    ≡ made_row (row_of t l.fn.self).journalled (counted_of t (take l.i l.seats) % 2 ^ 64))
    × (l.i ≤ length l.seats)
