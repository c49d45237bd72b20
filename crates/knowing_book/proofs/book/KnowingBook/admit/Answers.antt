use Rattle.std.proofs.Common.{◌≡◌, ◌∙◌, IfSome, refl, sym, ap, subst, length}
use Rattle.knowing_book.specs.Lasts.{AreLasts}
use Rattle.server_rules.specs.Machine.World.{opens}
use Rattle.server_rules.specs.Plan.{tenant_opened}
use Rattle.journal_book.specs.Standing.{entry_of}
use Rattle.journal_book.specs.View.{entries}
use Rattle.knowing_book.specs.Keys.{entry_key}
use Rattle.knowing_book.proofs.Entries.{length-entries, length-known}
use Rattle.knowing_book.proofs.Knowing.{known-before}
use Rattle.knowing_book.proofs.book.KnowingBook.admit.Goals as goal

pub invariant_of-self-2 : goal.invariant_of-self-2
invariant_of-self-2 g c =
    let b = c.self.inside in
    let e = entry_of (opens c.in_ok-places.places.tenant) tenant_opened in
    let now = c.in_ok-places.ensures.admitted.journal.journal in
    let long : length (entries b.book.journal) ≡ c.len-place.result =
    length-entries b.book.journal ∙ ap length (sym c.journal.ensures) ∙ sym c.len-place.ensures in (
      subst (λ js. IfSome c.add.new.known (λ es. entries es ≡ entries js)) c.journal-2.ensures
          (c.add.ensures e (known-before b.known (entries b.book.journal)
          (entries c.journal-2.result.now.items) e c.self.invariant.0 (ap entries c.journal-2.ensures ∙ now))),
      subst (λ js. AreLasts entry_key js c.follow.new.lasts) (sym now)
          (c.follow.ensures (entries b.book.journal) e c.self.invariant.1 refl long),
    )

pub add-requires : goal.add-requires
add-requires g c =
    length-known c.self.inside.known c.self.inside.book.journal c.len-place.result c.self.invariant.0
    (c.len-place.ensures ∙ ap length c.journal.ensures)
