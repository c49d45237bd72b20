use Rattle.std.proofs.Common.{◌≡◌, ◌∙◌, Some, sym, ap, subst}
use Rattle.repl_walker.specs.Ends.{ending_view}
use Rattle.knowing_book.specs.Lasts.{last_at}
use Rattle.journal_book.specs.Forms.{form_told, form_of}
use Rattle.journal_book.specs.View.{entries}
use Rattle.knowing_book.specs.Keys.{actor_key}
use Rattle.knowing_book.specs.Knowledge.{Knows}
use Rattle.knowing_book.proofs.Knowing.{kept-last, end-told}
use Rattle.knowing_book.proofs.book.KnowingBook.end.Goals as goal

pub make-requires-clause-as_told : goal.make-requires-clause-as_told
make-requires-clause-as_told g c = λ is.
    let b = c.self.inside in
    let journal = entries b.book.journal in
    let t = c.tenant-tenant.result in
    let fact = c.of-fact.result in
    let a = fact.actor in
    let kept = c.get-kept.result in
    let form = form_of (ending_view c.finish.inside.ending.value) in
    let knows : Knows fact.known t a fact.last form =
    subst (λ x. Knows fact.known t x fact.last form) (sym c.of-fact.ensures.actor)
    (c.of-fact.ensures.known form c.finish.invariant.0) in
    let found : kept ≡ last_at b.lasts (actor_key t a) =
    c.get-kept.ensures ∙ ap (last_at b.lasts) c.actor_key.ensures in
    let last = kept-last t a journal b.lasts kept c.self.invariant.1 found in
    let told : form_told t a journal ≡ Some form =
    end-told t a journal b.known fact.known kept fact.last form c.self.invariant.0 knows last
    (c.shares-is_known.ensures is) in
    subst (λ book. form_told t a (entries book.journal) ≡ Some form) c.self.view_is told

pub make-requires-clause-spelled : goal.make-requires-clause-spelled
make-requires-clause-spelled g c = c.finish.invariant.1
