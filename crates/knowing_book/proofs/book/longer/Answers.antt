use Rattle.std.proofs.Common.{◌≡◌, ◌∙◌, ◌++◌, ◌∷◌, [], flat_map, refl, sym, ap, append_assoc}
use Rattle.knowing_book.proofs.Seeing.{ends-with}
use Rattle.journal_book.specs.View.{entries}
use Rattle.knowing_book.proofs.Entries.{adds-entries}
use Rattle.knowing_book.proofs.book.longer.Goals as goal

pub returns-then-add : goal.returns-then-add
returns-then-add g c = λ e is.
    let known = c.args.known in
    let journal = c.args.journal.now.items in
    let entry = c.in-Some.entry.now in
    let full = flat_map (λ page. page.items) c.pages.result.0.now in
    let page = ends-with c.pages.result.1.now entry (sym c.in-Some.ensures.value) in
    let parts : journal ≡ (full ++ page.0) ++ entry ∷ [] =
    sym c.pages.ensures ∙ ap (λ es. full ++ es) page.1
    ∙ sym (append_assoc full page.0 (entry ∷ [])) in
    ap entries (c.if-add.ensures refl)
    ∙ adds-entries known journal (full ++ page.0) entry e is parts
