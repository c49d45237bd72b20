use Rattle.repl_core.specs.Steps.{step_view}
use Rattle.journal_book.proofs.Spelling.{not-spelled}
use Rattle.journal_book.proofs.book.Book.act.Goals as goal

pub act_with-requires-clause-spelled : goal.act_with-requires-clause-spelled
act_with-requires-clause-spelled g c =
    not-spelled c.nothing.result.aside.spelled (step_view c.args.step) c.nothing.ensures
