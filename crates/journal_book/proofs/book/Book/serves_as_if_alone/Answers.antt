use Rattle.std.proofs.Common.{◌≡◌, ℕ, [], subst}
use Rattle.server_rules.specs.Ground.{Ground}
use Rattle.server_rules.specs.Machine.Turns.{serve}
use Rattle.server_rules.specs.Machine.World.{opened_world}
use Rattle.repl_core.specs.Configured.{IsConfigured}
use Rattle.journal_book.specs.Alone.{bytes_to, NamesNoSharedIn, own_steps, own_turns, IsHonest}
use Rattle.journal_book.specs.View.{BookData, entries}
use Rattle.journal_book.proofs.Alone.{steps-alone, turns-alone}
use Rattle.journal_book.proofs.book.Book.serves_as_if_alone.Goals as goal

pub returns-clause-steps : goal.returns-clause-steps
returns-clause-steps g c =
    let journal = entries c.self.inside.journal.items in
    let P : BookData → Type 0 = λ b. (ground : Ground) (t : ℕ) → IsConfigured ground b.config
    → NamesNoSharedIn t (entries b.journal)
    → bytes_to t (entries b.journal)
    ≡ serve ground (opened_world ground) (own_steps t (entries b.journal)) t in
    subst P c.self.view_is (λ ground t conf private.
    let k = c.self.invariant.0.1 ground conf in
    steps-alone ground t k.world journal k.leads private)

pub returns-clause-turns : goal.returns-clause-turns
returns-clause-turns g c =
    let journal = entries c.self.inside.journal.items in
    let P : BookData → Type 0 = λ b. (ground : Ground) (t : ℕ) → IsConfigured ground b.config
    → NamesNoSharedIn t (entries b.journal)
    → IsHonest ground (opened_world ground) t (entries b.journal)
    → bytes_to t (entries b.journal)
    ≡ serve ground (opened_world ground) (own_turns t (entries b.journal)) t in
    subst P c.self.view_is (λ ground t conf private honest.
    let k = c.self.invariant.0.1 ground conf in
    turns-alone ground t k.world journal k.leads private honest)
