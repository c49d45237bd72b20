use Rattle.std.proofs.Common.{◌≡◌, ◌∙◌, [], ap, sym, subst, Some, None, option_map}
use Rattle.server_rules.specs.Ground.{Ground}
use Rattle.server_rules.specs.Tenant.{TenantState}
use Rattle.server_rules.specs.Machine.World.{World, opened_world}
use Rattle.server_rules.specs.Inside.Wires.{wire_at}
use Rattle.server_rules.specs.declared.turns.Wire.{Wire}
use Rattle.repl_core.specs.Configured.{IsConfigured}
use Rattle.repl_core.specs.Standing.{open_in}
use Rattle.journal_book.specs.Journal.{IsJournal}
use Rattle.journal_book.specs.View.{BookData, entries}
use Rattle.journal_book.proofs.Keeping.{told-so, shown-some, shown-none}
use Rattle.journal_book.proofs.book.Book.wire.Goals as goal

abbrev shows : Ground → TenantState → Wire
shows g q = wire_at (g.readings.stream q.heard).ending

pub returns-in_err-tenant : goal.returns-in_err-tenant
returns-in_err-tenant g c =
    let book = c.self.inside in
    let t = c.args.tenant in
    let P : BookData → Type 0 = λ b. (ground : Ground) (w : World) → IsConfigured ground b.config
    → IsJournal ground (opened_world ground) (entries b.journal) w
    → None ≡ option_map (λ it. shows ground it.state) (open_in t w) in
    let gone = sym c.tenant.ensures ∙ ap (option_map (λ it. it.now)) c.in_err-tenant.was in
    let told = subst P c.self.view_is (λ ground w conf leads.
    let k = c.self.invariant.0.1 ground conf in
    told-so ground book.machine (entries book.journal.items) k w leads
    (λ x. None ≡ option_map (λ it. shows ground it.state) (open_in t x))
    (shown-none ground book.machine k.world t (shows ground) k.stands gone)) in
    λ ground w conf leads. c.from_residual.ensures ∙ told ground w conf leads

pub returns : goal.returns
returns g c =
    let book = c.self.inside in
    let t = c.args.tenant in
    let P : BookData → Type 0 = λ b. (ground : Ground) (w : World) → IsConfigured ground b.config
    → IsJournal ground (opened_world ground) (entries b.journal) w
    → Some c.wire.result ≡ option_map (λ it. shows ground it.state) (open_in t w) in
    let there = sym c.tenant.ensures ∙ ap (option_map (λ it. it.now)) c.in_ok-tenant.was in
    subst P c.self.view_is (λ ground w conf leads.
    let k = c.self.invariant.0.1 ground conf in
    told-so ground book.machine (entries book.journal.items) k w leads
    (λ x. Some c.wire.result ≡ option_map (λ it. shows ground it.state) (open_in t x))
    (shown-some ground book.machine k.world t _ (shows ground) c.wire.result k.stands there
    (λ q st stands. c.wire.ensures ground q st conf.right stands)))
