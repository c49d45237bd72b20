use Rattle.std.proofs.Common.{rules, ◌≡◌, ◌+◌, ◌*◌, ◌∙◌, length, sym, ap, subst, refl, arith, inr}
use Rattle.server_rules.specs.Plan.{tenant_opened}
use Rattle.server_rules.specs.Machine.World.{opens}
use Rattle.journal_book.specs.View.{BookData, entries}
use Rattle.journal_book.specs.Standing.{IsAnswered, Notes, RefusesTenant, entry_of}
use Rattle.journal_book.proofs.Keeping.{err-so}
use Rattle.journal_book.proofs.book.Book.admit.Goals as goal

pub invariant_of-self : goal.invariant_of-self
invariant_of-self g c =
    let kept = c.self.invariant in (
      c.open.ensures.keeps c.self.inside.config kept.0,
      kept.1 ∙ ap length (sym c.in_err-open.ensures.stays),
      kept.2,
      kept.3,
      kept.4,
    )

pub invariant_of-self-2 : goal.invariant_of-self-2
invariant_of-self-2 g c =
    let kept = c.self.invariant in
    let all : c.self.inside.rest.parts + 5 * c.self.inside.tenants ≡ 5000001 = kept.2 in
    let one = c.taken_from-reader.ensures.parts in
    let two = c.taken_from-worker.ensures.parts in
    let three = c.taken_from-other_worker.ensures.parts in
    let four = c.taken_from-writer.ensures.parts in
    let five = c.taken_from-runner.ensures.parts in (
      c.open.ensures.keeps c.self.inside.config kept.0,
      c.count.ensures.total ∙ ap (λ n. n + 1) kept.1 ∙ sym c.in_ok-open.ensures.one.0,
      omega arith,
      c.taken_from-runner.ensures.amount,
      omega arith,
    )

pub returns-in_err-open-clause-declined : goal.returns-in_err-open-clause-declined
returns-in_err-open-clause-declined g c =
    let why = c.in_err-open.field-0.0 in
    err-so _ c.from_residual.result why c.from_residual.ensures.1 (
      search rules,
      subst (λ b. RefusesTenant b why) c.self.view_is
          (inr (c.in_err-open.ensures.declined c.self.inside.config c.self.invariant.0)),
    )

pub returns-clause-admitted : goal.returns-clause-admitted
returns-clause-admitted g c =
    let written = c.in_ok-open.ensures.written c.self.inside.config c.self.invariant.0 in
    let after : BookData = record {
      config = c.self.inside.config;
      journal = c.open.new.journal.items;
      tenants = c.self.inside.tenants + 1;
    } in
    let P : BookData → Type 0 = λ b. Notes b after (entry_of (opens c.self.inside.tenants) tenant_opened) in
    let Q : BookData → Type 0 = λ b. IsAnswered b.config (entries b.journal) (opens b.tenants)
    tenant_opened in
    record {
      number = search rules;
      journal = subst P c.self.view_is (record { config = refl; journal = written.0 });
      answer = subst Q c.self.view_is written.1;
      tenants = search rules;
    }
