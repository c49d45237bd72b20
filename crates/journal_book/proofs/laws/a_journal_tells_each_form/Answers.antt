use Rattle.journal_book.proofs.FormsTold.{tells-forms}
use Rattle.journal_book.proofs.laws.a_journal_tells_each_form.Goals as goal

pub returns : goal.returns
returns c = tells-forms
