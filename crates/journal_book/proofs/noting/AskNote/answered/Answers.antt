use Rattle.std.proofs.Common.{subst}
use Rattle.journal_book.specs.Inside.Noting.{IsNarrowFor}
use Rattle.journal_book.proofs.noting.AskNote.answered.Goals as goal

pub returns-in-Some : goal.returns-in-Some
returns-in-Some c = λ ask said note.
    c.narrow_entry.ensures ask said note.wide
    (subst (λ n. IsNarrowFor n ask) c.in-Some.is note.narrow)

pub returns-in-None : goal.returns-in-None
returns-in-None c = λ ask said note. c.wide_entry.ensures ask said note.wide
