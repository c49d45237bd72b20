use Rattle.std.proofs.Common.{[], ◌∷◌, ◌∙◌, ◌++◌, ap}
use Rattle.server_rules.specs.Machine.World.{does}
use Rattle.server_rules.specs.Plan.{hears, messages_heard}
use Rattle.journal_book.specs.Standing.{entry_of}
use Rattle.journal_book.specs.View.{entries}
use Rattle.journal_book.proofs.Written.{keeps-written, is-written, keeps-unwritten, is-refused, keeps-same}
use Rattle.journal_book.proofs.writing.hear.Goals as goal

pub returns-in_default-clause-keeps : goal.returns-in_default-clause-keeps
returns-in_default-clause-keeps c = λ config keeps.
    keeps-same config c.args.machine.now c.args.journal.now.items c.make_room.new.self.items keeps
    c.make_room.ensures.items

pub returns-in_default-piece_to_note-clause-keeps : goal.returns-in_default-piece_to_note-clause-keeps
returns-in_default-piece_to_note-clause-keeps c = λ config keeps.
    keeps-same config c.args.machine.now c.args.journal.now.items c.make_room.new.self.items keeps
    c.make_room.ensures.items

pub returns-in-Ok-hear-clause-keeps : goal.returns-in-Ok-hear-clause-keeps
returns-in-Ok-hear-clause-keeps c = λ config keeps.
    keeps-written config c.args.machine.now c.hear.new.self c.args.journal.now.items
    c.put.new.self.items c.heard_entry.result (does c.args.tenant (hears c.args.piece.now)) (messages_heard c.in-Ok-hear.messages) keeps
    (c.put.ensures ∙ ap (λ es. es ++ c.heard_entry.result ∷ []) c.make_room.ensures.items)
    (c.heard_entry.ensures (entries c.args.journal.now.items)
    ∙ ap (λ p. entry_of (does c.args.tenant (hears p)) (messages_heard c.in-Ok-hear.messages))
    c.in-Ok-piece_to_note.ensures)
    (λ g conf k. c.in-Ok-hear.ensures.done g k.world conf.right k.stands)

pub returns-in-Ok-hear-clause-written : goal.returns-in-Ok-hear-clause-written
returns-in-Ok-hear-clause-written c = λ config keeps.
    is-written config c.args.machine.now c.hear.new.self c.args.journal.now.items
    c.put.new.self.items c.heard_entry.result (does c.args.tenant (hears c.args.piece.now)) (messages_heard c.in-Ok-hear.messages) keeps
    (c.put.ensures ∙ ap (λ es. es ++ c.heard_entry.result ∷ []) c.make_room.ensures.items)
    (c.heard_entry.ensures (entries c.args.journal.now.items)
    ∙ ap (λ p. entry_of (does c.args.tenant (hears p)) (messages_heard c.in-Ok-hear.messages))
    c.in-Ok-piece_to_note.ensures)
    (λ g conf k. c.in-Ok-hear.ensures.done g k.world conf.right k.stands)

pub returns-in-Err-clause-keeps : goal.returns-in-Err-clause-keeps
returns-in-Err-clause-keeps c = λ config keeps.
    keeps-unwritten config c.args.machine.now c.hear.new.self c.args.journal.now.items (does c.args.tenant (hears c.args.piece.now)) c.in-Err.why keeps
    (λ g conf k. c.in-Err.ensures.refused g k.world conf.right k.stands)
    c.make_room.new.self.items c.make_room.ensures.items

pub returns-in-Err-clause-declined : goal.returns-in-Err-clause-declined
returns-in-Err-clause-declined c = λ config keeps.
    is-refused config c.args.machine.now c.hear.new.self c.args.journal.now.items (does c.args.tenant (hears c.args.piece.now)) c.in-Err.why keeps
    (λ g conf k. c.in-Err.ensures.refused g k.world conf.right k.stands)
