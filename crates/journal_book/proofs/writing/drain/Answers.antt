use Rattle.std.proofs.Common.{[], ◌∷◌, ◌∙◌, ◌++◌, ap}
use Rattle.server_rules.specs.Machine.World.{does}
use Rattle.server_rules.specs.Plan.{drains, reply_given}
use Rattle.journal_book.specs.Standing.{entry_of}
use Rattle.journal_book.specs.declared.entry.JournalEntry.{JournalEntry}
use Rattle.journal_book.proofs.Written.{keeps-written, is-written, keeps-unwritten, is-refused, keeps-same}
use Rattle.journal_book.proofs.writing.drain.Goals as goal

pub returns-in_default-clause-keeps : goal.returns-in_default-clause-keeps
returns-in_default-clause-keeps c = λ config keeps.
    keeps-same config c.args.machine.now c.args.journal.now.items c.make_room.new.self.items keeps
    c.make_room.ensures.items

pub returns-in-Ok-drain_copied-clause-keeps : goal.returns-in-Ok-drain_copied-clause-keeps
returns-in-Ok-drain_copied-clause-keeps c = λ config keeps.
    keeps-written config c.args.machine.now c.drain_copied.new.self c.args.journal.now.items
    c.put.new.self.items (JournalEntry.Drained c.args.tenant c.in-Ok-drain_copied.replies.noted) (does c.args.tenant drains) (reply_given c.in-Ok-drain_copied.replies.given.items) keeps
    (c.put.ensures ∙ ap (λ es. es ++ (JournalEntry.Drained c.args.tenant c.in-Ok-drain_copied.replies.noted) ∷ []) c.make_room.ensures.items)
    (ap (λ bytes. entry_of (does c.args.tenant drains) (reply_given bytes)) c.in-Ok-drain_copied.ensures.same)
    (λ g conf k. c.in-Ok-drain_copied.ensures.done g k.world conf.right k.stands)

pub returns-in-Ok-drain_copied-clause-written : goal.returns-in-Ok-drain_copied-clause-written
returns-in-Ok-drain_copied-clause-written c = λ config keeps.
    is-written config c.args.machine.now c.drain_copied.new.self c.args.journal.now.items
    c.put.new.self.items (JournalEntry.Drained c.args.tenant c.in-Ok-drain_copied.replies.noted) (does c.args.tenant drains) (reply_given c.in-Ok-drain_copied.replies.given.items) keeps
    (c.put.ensures ∙ ap (λ es. es ++ (JournalEntry.Drained c.args.tenant c.in-Ok-drain_copied.replies.noted) ∷ []) c.make_room.ensures.items)
    (ap (λ bytes. entry_of (does c.args.tenant drains) (reply_given bytes)) c.in-Ok-drain_copied.ensures.same)
    (λ g conf k. c.in-Ok-drain_copied.ensures.done g k.world conf.right k.stands)

pub returns-in-Err-clause-keeps : goal.returns-in-Err-clause-keeps
returns-in-Err-clause-keeps c = λ config keeps.
    keeps-unwritten config c.args.machine.now c.drain_copied.new.self c.args.journal.now.items (does c.args.tenant drains) c.in-Err.why keeps
    (λ g conf k. c.in-Err.ensures.refused g k.world conf.right k.stands)
    c.make_room.new.self.items c.make_room.ensures.items

pub returns-in-Err-clause-declined : goal.returns-in-Err-clause-declined
returns-in-Err-clause-declined c = λ config keeps.
    is-refused config c.args.machine.now c.drain_copied.new.self c.args.journal.now.items (does c.args.tenant drains) c.in-Err.why keeps
    (λ g conf k. c.in-Err.ensures.refused g k.world conf.right k.stands)
