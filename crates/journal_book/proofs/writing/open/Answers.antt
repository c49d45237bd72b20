use Rattle.std.proofs.Common.{[], ◌∷◌, ◌∙◌, ◌++◌, ap}
use Rattle.server_rules.specs.Machine.World.{opens}
use Rattle.server_rules.specs.Plan.{tenant_opened}
use Rattle.journal_book.specs.View.{entries}
use Rattle.journal_book.proofs.Written.{keeps-written, is-written, keeps-unwritten, is-refused, keeps-same}
use Rattle.journal_book.proofs.writing.open.Goals as goal

pub returns-in_default-clause-keeps : goal.returns-in_default-clause-keeps
returns-in_default-clause-keeps c = λ config keeps.
    keeps-same config c.args.machine.now c.args.journal.now.items c.make_room.new.self.items keeps
    c.make_room.ensures.items

pub returns-in_default-step_to_note-clause-keeps : goal.returns-in_default-step_to_note-clause-keeps
returns-in_default-step_to_note-clause-keeps c = λ config keeps.
    keeps-same config c.args.machine.now c.args.journal.now.items c.make_room.new.self.items keeps
    c.make_room.ensures.items

pub returns-in-Ok-open-clause-keeps : goal.returns-in-Ok-open-clause-keeps
returns-in-Ok-open-clause-keeps c = λ config keeps.
    keeps-written config c.args.machine.now c.open.new.self c.args.journal.now.items
    c.put.new.self.items c.step_entry.result (opens c.args.tenant) tenant_opened keeps
    (c.put.ensures ∙ ap (λ es. es ++ c.step_entry.result ∷ []) c.make_room.ensures.items)
    (c.step_entry.ensures (entries c.args.journal.now.items))
    (λ g conf k. c.in-Ok-open.ensures.done g k.world conf.right k.stands)

pub returns-in-Ok-open-clause-written : goal.returns-in-Ok-open-clause-written
returns-in-Ok-open-clause-written c = λ config keeps.
    is-written config c.args.machine.now c.open.new.self c.args.journal.now.items
    c.put.new.self.items c.step_entry.result (opens c.args.tenant) tenant_opened keeps
    (c.put.ensures ∙ ap (λ es. es ++ c.step_entry.result ∷ []) c.make_room.ensures.items)
    (c.step_entry.ensures (entries c.args.journal.now.items))
    (λ g conf k. c.in-Ok-open.ensures.done g k.world conf.right k.stands)

pub returns-in-Err-clause-keeps : goal.returns-in-Err-clause-keeps
returns-in-Err-clause-keeps c = λ config keeps.
    keeps-unwritten config c.args.machine.now c.open.new.self c.args.journal.now.items (opens c.args.tenant) c.in-Err.why keeps
    (λ g conf k. c.in-Err.ensures.refused g k.world conf.right k.stands)
    c.make_room.new.self.items c.make_room.ensures.items

pub returns-in-Err-clause-declined : goal.returns-in-Err-clause-declined
returns-in-Err-clause-declined c = λ config keeps.
    is-refused config c.args.machine.now c.open.new.self c.args.journal.now.items (opens c.args.tenant) c.in-Err.why keeps
    (λ g conf k. c.in-Err.ensures.refused g k.world conf.right k.stands)
