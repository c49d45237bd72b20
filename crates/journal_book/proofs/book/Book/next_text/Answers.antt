use Rattle.std.proofs.Common.{◌≡◌, ◌∙◌, [], ap, sym, subst, refl, Some, None, option_map}
use Rattle.std.proofs.Common.{option_and_then}
use Rattle.std.specs.Option.{option_copied}
use Rattle.server_rules.specs.Ground.{Ground}
use Rattle.server_rules.specs.Machine.World.{World, opened_world}
use Rattle.tenant_parts.specs.Ahead.{next_text_of}
use Rattle.repl_core.specs.Configured.{IsConfigured}
use Rattle.repl_core.specs.Standing.{open_in}
use Rattle.journal_book.specs.Ahead.{next_text_in}
use Rattle.journal_book.specs.Journal.{IsJournal}
use Rattle.journal_book.specs.View.{BookData, entries}
use Rattle.journal_book.proofs.Keeping.{told-so, there-so, gone-so}
use Rattle.journal_book.proofs.book.Book.next_text.Goals as goal

pub returns-in_err-tenant : goal.returns-in_err-tenant
returns-in_err-tenant g c =
    let book = c.self.inside in
    let t = c.args.tenant in
    let a = c.args.actor in
    let P : BookData → Type 0 = λ b. (ground : Ground) (w : World) → IsConfigured ground b.config
    → IsJournal ground (opened_world ground) (entries b.journal) w
    → None ≡ next_text_in a (open_in t w) in
    let gone = sym c.tenant.ensures ∙ ap (option_map (λ it. it.now)) c.in_err-tenant.was in
    let told = subst P c.self.view_is (λ ground w conf leads.
    let k = c.self.invariant.0.1 ground conf in
    told-so ground book.machine (entries book.journal.items) k w leads
    (λ x. None ≡ next_text_in a (open_in t x))
    (gone-so ground book.machine k.world t (λ o. None ≡ next_text_in a o) k.stands gone refl)) in
    λ ground w conf leads. ap option_copied c.from_residual.ensures ∙ told ground w conf leads

pub returns : goal.returns
returns g c =
    let book = c.self.inside in
    let t = c.args.tenant in
    let a = c.args.actor in
    let text = option_copied c.next_text.result in
    let P : BookData → Type 0 = λ b. (ground : Ground) (w : World) → IsConfigured ground b.config
    → IsJournal ground (opened_world ground) (entries b.journal) w
    → text ≡ next_text_in a (open_in t w) in
    let there = sym c.tenant.ensures ∙ ap (option_map (λ it. it.now)) c.in_ok-tenant.was in
    subst P c.self.view_is (λ ground w conf leads.
    let k = c.self.invariant.0.1 ground conf in
    told-so ground book.machine (entries book.journal.items) k w leads
    (λ x. text ≡ next_text_in a (open_in t x))
    (there-so ground book.machine k.world t _ (λ o. text ≡ next_text_in a o) k.stands there
    (λ kept st stands. c.next_text.ensures ∙ ap (next_text_of a) stands.actors)))
