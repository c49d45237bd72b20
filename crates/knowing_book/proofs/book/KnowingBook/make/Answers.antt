use Rattle.std.proofs.Common.{◌≡◌, ◌∙◌, IfSome, sym, ap, subst, length}
use Rattle.knowing_book.specs.Lasts.{AreLasts}
use Rattle.repl_core.specs.Steps.{step_view, step_answer_view}
use Rattle.journal_book.specs.Standing.{entry_of}
use Rattle.journal_book.specs.View.{entries}
use Rattle.knowing_book.specs.Keys.{entry_key}
use Rattle.knowing_book.proofs.Entries.{length-entries, length-known}
use Rattle.knowing_book.proofs.Knowing.{known-before}
use Rattle.knowing_book.proofs.book.KnowingBook.make.Goals as goal

pub invariant_of-self-2 : goal.invariant_of-self-2
invariant_of-self-2 g c =
    let b = c.self.inside in
    let e = entry_of (step_view c.args.step) (step_answer_view c.in_ok-receipt.receipt.answer) in
    let now = c.in_ok-receipt.ensures.made.1.journal.journal in
    let long : length (entries b.book.journal) ≡ c.in_ok-receipt.receipt.place =
    length-entries b.book.journal ∙ sym c.in_ok-receipt.ensures.made.0 in (
      subst (λ js. IfSome c.add.new.known (λ es. entries es ≡ entries js)) c.journal.ensures
          (c.add.ensures e (known-before b.known (entries b.book.journal) (entries c.journal.result.now.items) e
          c.self.invariant.0 (ap entries c.journal.ensures ∙ now))),
      subst (λ js. AreLasts entry_key js c.follow.new.lasts) (sym now)
          (c.follow.ensures (entries b.book.journal) e c.self.invariant.1 (sym c.step_key-key.ensures)
          long),
    )

pub add-requires : goal.add-requires
add-requires g c =
    length-known c.self.inside.known c.self.inside.book.journal c.in_ok-receipt.receipt.place
    c.self.invariant.0 c.in_ok-receipt.ensures.made.0
