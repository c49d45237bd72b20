use Rattle.std.proofs.Common.{◌∙◌, ap, sym}
use Rattle.server_rules.specs.Machine.World.{does}
use Rattle.server_rules.specs.Plan.{asks_for}
use Rattle.tenant_asks.specs.Answers.{ask_answer_view}
use Rattle.journal_book.specs.Standing.{entry_of}
use Rattle.journal_book.proofs.noting.narrow_entry.Goals as goal

pub returns-in-Answer : goal.returns-in-Answer
returns-in-Answer c = λ ask said wide narrow.
    c.wide_entry.ensures ask said wide
    ∙ ap (λ x. entry_of (does c.args.tenant (asks_for c.args.actor ask)) (ask_answer_view x))
    (sym c.in-Answer.is)
