use Rattle.repl_core.specs.Steps.{step_view}
use Rattle.journal_book.proofs.Spelling.{not-spelled}
use Rattle.knowing_book.proofs.book.KnowingBook.act.Goals as goal

pub make-requires-clause-spelled : goal.make-requires-clause-spelled
make-requires-clause-spelled g c =
    not-spelled c.nothing.result.aside.spelled (step_view c.args.step) c.nothing.ensures
