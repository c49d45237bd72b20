use Rattle.std.proofs.Common.{◌∙◌, ap}
use Rattle.journal_book.specs.View.{entries}
use Rattle.journal_book.specs.Rows.{made_row, row_of, entries_of}
use Rattle.journal_book.proofs.Counting.{rows-so}
use Rattle.journal_book.proofs.report.Report.add_entries.Goals as goal

pub returns : goal.returns
returns c = λ t.
    rows-so (λ page. page.items) t _ _ _ c.pages.result.0.now c.pages.result.1.now (c.requires t)
    (c.in_ok-add_pages.ensures t) (c.in_ok-add_page.ensures t)
    ∙ ap (λ es. made_row (entries_of t (entries es)) 0) c.pages.ensures
