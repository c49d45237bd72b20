use Rattle.std.proofs.Common.{rules, ◌+◌, ◌∙◌, length, sym, ap, subst, refl}
use Rattle.repl_core.specs.Steps.{step_view, step_answer_view}
use Rattle.journal_book.specs.Forms.{EndsAsTold}
use Rattle.journal_book.specs.View.{BookData, entries}
use Rattle.journal_book.specs.Standing.{IsAnswered, IsRefusedBehind, Notes, entry_of}
use Rattle.journal_book.proofs.Keeping.{err-so}
use Rattle.journal_book.proofs.book.Book.act_with.Goals as goal

pub invariant_of-self : goal.invariant_of-self
invariant_of-self g c =
    let kept = c.self.invariant in (
      c.write.ensures.keeps c.self.inside.config kept.0,
      kept.1 ∙ ap length (sym c.in_err-answer.ensures.stays),
      kept.2,
      kept.3,
      kept.4,
    )

pub invariant_of-self-2 : goal.invariant_of-self-2
invariant_of-self-2 g c =
    let kept = c.self.invariant in (
      c.write.ensures.keeps c.self.inside.config kept.0,
      c.count.ensures.total ∙ ap (λ n. n + 1) kept.1 ∙ sym c.in_ok-answer.ensures.one.0,
      kept.2,
      kept.3,
      kept.4,
    )

pub returns-in_err-answer-clause-declined : goal.returns-in_err-answer-clause-declined
returns-in_err-answer-clause-declined g c =
    let it = c.in_err-answer.field-0.0 in
    let P : BookData → Type 0 = λ b. IsRefusedBehind b.config (entries b.journal) (step_view c.args.step) it.why in
    err-so _ c.from_residual.result it c.from_residual.ensures.1 (
      search rules,
      record {
        refused = subst P c.self.view_is
            (c.in_err-answer.ensures.declined c.self.inside.config c.self.invariant.0);
        book = search rules;
        seat = search rules;
      },
    )

pub returns-clause-made : goal.returns-clause-made
returns-clause-made g c =
    let answer = step_answer_view c.in_ok-answer.answer in
    let after : BookData = record {
      config = c.self.inside.config;
      journal = c.write.new.journal.items;
      tenants = c.self.inside.tenants;
    } in
    let written = c.in_ok-answer.ensures.written c.self.inside.config c.self.invariant.0 in
    let P : BookData → Type 0 = λ b. Notes b after (entry_of (step_view c.args.step) answer) in
    let Q : BookData → Type 0 = λ b. IsAnswered b.config (entries b.journal) (step_view c.args.step) answer in (
      search rules,
      record {
        journal = subst P c.self.view_is (record { config = refl; journal = written.0 });
        answer = subst Q c.self.view_is written.1;
        counted = search rules;
        tenants = search rules;
      },
    )

pub write-requires-clause-told : goal.write-requires-clause-told
write-requires-clause-told g c = λ is.
    subst (λ b. EndsAsTold (entries b.journal) (step_view c.args.step)) (sym c.self.view_is)
    (c.requires.as_told is)
