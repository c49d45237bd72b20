use Rattle.std.proofs.Common.{◌∙◌}
use Rattle.knowing_book.proofs.Telling.{passed}
use Rattle.knowing_book.specs.Keys.{entry_key}
use Rattle.knowing_book.proofs.book.follow.Goals as goal

pub returns-in-Some : goal.returns-in-Some
returns-in-Some c = λ before e are its long.
    c.follow_key.ensures before e are (its ∙ c.in-Some.is) long

pub returns-in-None : goal.returns-in-None
returns-in-None c = λ before e are its long.
    passed entry_key before e c.args.lasts.now are (its ∙ c.in-None.is)
