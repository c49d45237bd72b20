use Rattle.journal_book.proofs.Journals.{leads-to-one}
use Rattle.journal_book.proofs.laws.a_journal_leads_to_one_server.Goals as goal

pub returns : goal.returns
returns c = leads-to-one
