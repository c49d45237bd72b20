use Rattle.std.proofs.Common.{◌≡◌, ◌∙◌, ap, sym, subst, Some, IfSome, option_map}
use Rattle.server_rules.specs.Ground.{Ground}
use Rattle.server_rules.specs.Machine.World.{World, opened_world}
use Rattle.repl_core.specs.Configured.{IsConfigured}
use Rattle.repl_core.specs.Standing.{open_in}
use Rattle.journal_book.specs.Ahead.{IsAddresseeIn}
use Rattle.journal_book.specs.Journal.{IsJournal}
use Rattle.journal_book.specs.View.{BookData, entries}
use Rattle.journal_book.proofs.Keeping.{told-so, there-so}
use Rattle.journal_book.proofs.book.Book.addressee.Goals as goal

pub returns : goal.returns
returns g c =
    let book = c.self.inside in
    let t = c.args.tenant in
    let a = c.args.actor in
    let told = c.addressee.result in
    let P : BookData → Type 0 = λ b. (ground : Ground) (w : World) → IsConfigured ground b.config
    → IsJournal ground (opened_world ground) (entries b.journal) w
    → IfSome told (IsAddresseeIn a (open_in t w)) in
    let there = sym c.tenant.ensures ∙ ap (option_map (λ it. it.now)) c.in_ok-tenant.was in
    subst P c.self.view_is (λ ground w conf leads.
    let k = c.self.invariant.0.1 ground conf in
    told-so ground book.machine (entries book.journal.items) k w leads
    (λ x. IfSome told (IsAddresseeIn a (open_in t x)))
    (there-so ground book.machine k.world t _ (λ o. IfSome told (IsAddresseeIn a o)) k.stands there
    (λ kept st stands. c.addressee.ensures ground kept.state st stands)))
