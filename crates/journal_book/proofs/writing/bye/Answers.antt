use Rattle.std.proofs.Common.{[], ◌∷◌, ◌∙◌, ◌++◌, ap}
use Rattle.server_rules.specs.Machine.World.{closes}
use Rattle.server_rules.specs.Plan.{tenant_gone}
use Rattle.journal_book.specs.View.{entries}
use Rattle.journal_book.proofs.Written.{keeps-written, is-written, keeps-unwritten, is-refused, keeps-same}
use Rattle.journal_book.proofs.writing.bye.Goals as goal

pub returns-in_default-clause-keeps : goal.returns-in_default-clause-keeps
returns-in_default-clause-keeps c = λ config keeps.
    keeps-same config c.args.machine.now c.args.journal.now.items c.make_room.new.self.items keeps
    c.make_room.ensures.items

pub returns-in_default-step_to_note-clause-keeps : goal.returns-in_default-step_to_note-clause-keeps
returns-in_default-step_to_note-clause-keeps c = λ config keeps.
    keeps-same config c.args.machine.now c.args.journal.now.items c.make_room.new.self.items keeps
    c.make_room.ensures.items

pub returns-in-Ok-close-clause-keeps : goal.returns-in-Ok-close-clause-keeps
returns-in-Ok-close-clause-keeps c = λ config keeps.
    keeps-written config c.args.machine.now c.close.new.self c.args.journal.now.items
    c.put.new.self.items c.step_entry.result (closes c.args.tenant) tenant_gone keeps
    (c.put.ensures ∙ ap (λ es. es ++ c.step_entry.result ∷ []) c.make_room.ensures.items)
    (c.step_entry.ensures (entries c.args.journal.now.items))
    (λ g conf k. c.in-Ok-close.ensures.done g k.world k.stands)

pub returns-in-Ok-close-clause-written : goal.returns-in-Ok-close-clause-written
returns-in-Ok-close-clause-written c = λ config keeps.
    is-written config c.args.machine.now c.close.new.self c.args.journal.now.items
    c.put.new.self.items c.step_entry.result (closes c.args.tenant) tenant_gone keeps
    (c.put.ensures ∙ ap (λ es. es ++ c.step_entry.result ∷ []) c.make_room.ensures.items)
    (c.step_entry.ensures (entries c.args.journal.now.items))
    (λ g conf k. c.in-Ok-close.ensures.done g k.world k.stands)

pub returns-in-Err-clause-keeps : goal.returns-in-Err-clause-keeps
returns-in-Err-clause-keeps c = λ config keeps.
    keeps-unwritten config c.args.machine.now c.close.new.self c.args.journal.now.items (closes c.args.tenant) c.in-Err.why keeps
    (λ g conf k. c.in-Err.ensures.refused g k.world k.stands)
    c.make_room.new.self.items c.make_room.ensures.items

pub returns-in-Err-clause-declined : goal.returns-in-Err-clause-declined
returns-in-Err-clause-declined c = λ config keeps.
    is-refused config c.args.machine.now c.close.new.self c.args.journal.now.items (closes c.args.tenant) c.in-Err.why keeps
    (λ g conf k. c.in-Err.ensures.refused g k.world k.stands)
