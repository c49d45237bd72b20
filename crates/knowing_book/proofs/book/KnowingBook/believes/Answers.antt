use Rattle.std.proofs.Common.{◌≡◌, ◌∙◌, Some, ap, subst}
use Rattle.repl_walker.specs.Ends.{ending_view}
use Rattle.journal_book.specs.Forms.{form_told, form_of}
use Rattle.journal_book.specs.View.{BookData, entries}
use Rattle.knowing_book.specs.Keys.{actor_key}
use Rattle.knowing_book.specs.Knowledge.{Knows}
use Rattle.knowing_book.specs.Lasts.{last_at}
use Rattle.knowing_book.specs.View.{FinishData}
use Rattle.knowing_book.proofs.Knowing.{kept-last, end-told}
use Rattle.knowing_book.proofs.book.KnowingBook.believes.Goals as goal

pub returns : goal.returns
returns g c = λ is.
    let b = c.self.inside in
    let journal = entries b.book.journal in
    let fact = c.finish.inside.fact in
    let t = fact.tenant in
    let a = fact.actor in
    let kept = c.get-kept.result in
    let form = form_of (ending_view c.finish.inside.ending.value) in
    let knows : Knows fact.known t a fact.last form = c.finish.invariant.0 in
    let found : kept ≡ last_at b.lasts (actor_key t a) =
    c.get-kept.ensures ∙ ap (last_at b.lasts) c.actor_key.ensures in
    let last = kept-last t a journal b.lasts kept c.self.invariant.1 found in
    let told : form_told t a journal ≡ Some form =
    end-told t a journal b.known fact.known kept fact.last form c.self.invariant.0 knows last
    (c.shares.ensures is) in (
      t,
      subst (λ (f : FinishData). form_told t f.actor (entries c.args.self.now.journal)
          ≡ Some (form_of (ending_view f.ending))) c.finish.view_is
          (subst (λ (book : BookData). form_told t a (entries book.journal) ≡ Some form)
          c.self.view_is told),
    )
