use Rattle.journal_book.proofs.Journals.{join}
use Rattle.journal_book.proofs.laws.journals_join.Goals as goal

pub returns : goal.returns
returns c = join
