use Rattle.std.proofs.Common.{◌≡◌, ◌+◌, ◌≤◌, ℕ, length, take}
use Rattle.std.specs.Prelude.{sum_by}
use Rattle.journal_book.specs.Rows.{made_row, row_of, entries_by}
use Rattle.journal_book.proofs.report.Report.add_pages.Given as goal

abbrev pub invariant-loop-i : goal.invariant-loop-i
invariant-loop-i l = ((t : ℕ) → row_of t l.self
    ≡ made_row ((row_of t l.fn.self).journalled
    + sum_by (λ page. entries_by t page.items) (take l.i l.pages)) (row_of t l.fn.self).made)
    × (l.i ≤ length l.pages)
