use Rattle.journal_book.proofs.book.Book.drop_departed.Goals as goal

pub invariant_of-self : goal.invariant_of-self
invariant_of-self g c =
    let kept = c.self.invariant in (
      (
        kept.0.0,
        λ ground configured.
            let it = kept.0.1 ground configured in
            record {
              world = it.world;
              leads = it.leads;
              stands = c.drop_departed.ensures ground it.world it.stands;
            },
      ),
      kept.1,
      kept.2,
      kept.3,
      kept.4,
    )
