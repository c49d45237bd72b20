use Rattle.std.proofs.Common.{[], ◌∷◌, ◌∙◌, ◌++◌, ap}
use Rattle.server_rules.specs.Machine.World.{does}
use Rattle.server_rules.specs.Plan.{starts}
use Rattle.tenant_world.specs.Answers.{start_answer_view}
use Rattle.journal_book.specs.Standing.{entry_of}
use Rattle.journal_book.specs.View.{entries}
use Rattle.journal_book.proofs.Written.{keeps-written, is-written, keeps-unwritten, is-refused, keeps-same}
use Rattle.journal_book.proofs.writing.begin.Goals as goal

pub returns-in_default-clause-keeps : goal.returns-in_default-clause-keeps
returns-in_default-clause-keeps c = λ config keeps.
    keeps-same config c.args.machine.now c.args.journal.now.items c.make_room.new.self.items keeps
    c.make_room.ensures.items

pub returns-in_default-start_to_note-clause-keeps : goal.returns-in_default-start_to_note-clause-keeps
returns-in_default-start_to_note-clause-keeps c = λ config keeps.
    keeps-same config c.args.machine.now c.args.journal.now.items c.make_room.new.self.items keeps
    c.make_room.ensures.items

pub returns-in-Ok-start-clause-keeps : goal.returns-in-Ok-start-clause-keeps
returns-in-Ok-start-clause-keeps c = λ config keeps.
    keeps-written config c.args.machine.now c.start.new.self c.args.journal.now.items
    c.put.new.self.items c.start_entry.result (does c.args.tenant (starts c.args.actor)) (start_answer_view c.in-Ok-start.answers.given) keeps
    (c.put.ensures ∙ ap (λ es. es ++ c.start_entry.result ∷ []) c.make_room.ensures.items)
    (c.start_entry.ensures (entries c.args.journal.now.items)
    ∙ ap (entry_of (does c.args.tenant (starts c.args.actor))) c.in-Ok-start.ensures.same)
    (λ g conf k. c.in-Ok-start.ensures.done g k.world conf.right k.stands)

pub returns-in-Ok-start-clause-written : goal.returns-in-Ok-start-clause-written
returns-in-Ok-start-clause-written c = λ config keeps.
    is-written config c.args.machine.now c.start.new.self c.args.journal.now.items
    c.put.new.self.items c.start_entry.result (does c.args.tenant (starts c.args.actor)) (start_answer_view c.in-Ok-start.answers.given) keeps
    (c.put.ensures ∙ ap (λ es. es ++ c.start_entry.result ∷ []) c.make_room.ensures.items)
    (c.start_entry.ensures (entries c.args.journal.now.items)
    ∙ ap (entry_of (does c.args.tenant (starts c.args.actor))) c.in-Ok-start.ensures.same)
    (λ g conf k. c.in-Ok-start.ensures.done g k.world conf.right k.stands)

pub returns-in-Err-clause-keeps : goal.returns-in-Err-clause-keeps
returns-in-Err-clause-keeps c = λ config keeps.
    keeps-unwritten config c.args.machine.now c.start.new.self c.args.journal.now.items (does c.args.tenant (starts c.args.actor)) c.in-Err.why keeps
    (λ g conf k. c.in-Err.ensures.refused g k.world conf.right k.stands)
    c.make_room.new.self.items c.make_room.ensures.items

pub returns-in-Err-clause-declined : goal.returns-in-Err-clause-declined
returns-in-Err-clause-declined c = λ config keeps.
    is-refused config c.args.machine.now c.start.new.self c.args.journal.now.items (does c.args.tenant (starts c.args.actor)) c.in-Err.why keeps
    (λ g conf k. c.in-Err.ensures.refused g k.world conf.right k.stands)
