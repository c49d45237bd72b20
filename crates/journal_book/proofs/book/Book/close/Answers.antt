use Rattle.std.proofs.Common.{◌≡◌, ◌<◌, ◌^◌, ◌%◌, ◌∙◌, ap, lt_of_le_of_lt, mod-eq_of_lt}
use Rattle.journal_book.specs.View.{entries}
use Rattle.journal_book.specs.Rows.{made_row, entries_of, counted_of}
use Rattle.journal_book.proofs.Counting.{counted-le}
use Rattle.journal_book.proofs.book.Book.close.Goals as goal

pub returns-clause-rows : goal.returns-clause-rows
returns-clause-rows g c = λ t.
    let seats = c.args.seats.items in
    let fits : counted_of t seats < 2 ^ 64 =
    lt_of_le_of_lt (counted-le t seats) c.gather.ensures.bound in
    let journal = ap (λ b. entries_of t (entries b.journal)) c.self.view_is in
    let counted = ap (λ s. counted_of t s % 2 ^ 64) c.as_slice.ensures.value
    ∙ mod-eq_of_lt fits in
    c.in-Ok.ensures t ∙ ap (λ n. made_row n (counted_of t c.as_slice.result.now % 2 ^ 64)) journal
    ∙ ap (made_row (entries_of t (entries c.args.self.journal))) counted
