use Rattle.std.proofs.Common.{◌≡◌, [], option_and_then, subst}
use Rattle.server_rules.specs.Ground.{Ground}
use Rattle.server_rules.specs.Machine.Ready as rules
use Rattle.server_rules.specs.Machine.World.{World, opened_world}
use Rattle.repl_core.specs.Configured.{IsConfigured}
use Rattle.repl_core.specs.Standing.{open_in}
use Rattle.journal_book.specs.Journal.{IsJournal}
use Rattle.journal_book.specs.View.{BookData, entries}
use Rattle.journal_book.proofs.Keeping.{told-so}
use Rattle.journal_book.proofs.book.Book.ready.Goals as goal

pub returns : goal.returns
returns g c =
    let book = c.self.inside in
    let P : BookData → Type 0 = λ b. (ground : Ground) (w : World) → IsConfigured ground b.config
    → IsJournal ground (opened_world ground) (entries b.journal) w
    → c.ready.result ≡ option_and_then (λ it. rules.ready it.state) (open_in c.args.tenant w) in
    subst P c.self.view_is (λ ground w conf leads.
    let k = c.self.invariant.0.1 ground conf in
    told-so ground book.machine (entries book.journal.items) k w leads
    (λ x. c.ready.result ≡ option_and_then (λ it. rules.ready it.state) (open_in c.args.tenant x))
    (c.ready.ensures ground k.world k.stands))
