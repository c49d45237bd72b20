-- What a report of a server says of its book.
use Rattle.std.specs.Prelude.{◌≡◌, ℕ, List, length}
use Rattle.journal_book.specs.View.{BookData, SeatData, entries}
use Rattle.journal_book.specs.Rows.{made_row, row_of, entries_of, counted_of, all_counted}
use Rattle.journal_book.specs.declared.report.Report.{Report}

-- of each tenant how many entries are its, and how many steps were counted on its seats; on all
-- seats as many steps were counted as the journal has entries
pub record IsReportOf (book : BookData) (report : Report) : Type 0 where
  pub seats : List SeatData
  pub rows : (t : ℕ) → row_of t report
      ≡ made_row (entries_of t (entries book.journal)) (counted_of t seats)
  pub all : all_counted seats ≡ length book.journal
