use Rattle.std.proofs.Common.{refl}
use Rattle.journal_book.specs.View.{entries}
use Rattle.knowing_book.proofs.Knowing.{later-told}
use Rattle.knowing_book.proofs.book.KnowingBook.later.Goals as goal

pub returns-then-shares-clause-known : goal.returns-then-shares-clause-known
returns-then-shares-clause-known g c = λ before e form now is true-last knows made.
    c.fact-now.ensures.known now
    (later-told c.args.fact.tenant c.args.fact.actor (entries c.args.self.now.journal) before e
    c.fact-now.result.known c.args.fact.known c.args.kept c.args.fact.last form now is true-last
    knows made c.fact-now.ensures.whole (c.if-shares.ensures refl))
