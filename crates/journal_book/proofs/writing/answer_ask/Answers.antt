use Rattle.std.proofs.Common.{[], ◌∷◌, ◌∙◌, ◌++◌, ap}
use Rattle.server_rules.specs.Machine.World.{does}
use Rattle.server_rules.specs.Plan.{asks_for}
use Rattle.repl_asks.specs.Inside.View.{ask_view}
use Rattle.tenant_asks.specs.Answers.{ask_answer_view}
use Rattle.journal_book.specs.Standing.{entry_of}
use Rattle.journal_book.specs.View.{entries}
use Rattle.journal_book.proofs.Written.{keeps-written, is-written, keeps-unwritten, is-refused, keeps-same}
use Rattle.journal_book.proofs.writing.answer_ask.Goals as goal

pub returns-in_default-clause-keeps : goal.returns-in_default-clause-keeps
returns-in_default-clause-keeps c = λ config keeps.
    keeps-same config c.args.machine.now c.args.journal.now.items c.make_room.new.self.items keeps
    c.make_room.ensures.items

pub returns-in_default-of-clause-keeps : goal.returns-in_default-of-clause-keeps
returns-in_default-of-clause-keeps c = λ config keeps.
    keeps-same config c.args.machine.now c.args.journal.now.items c.make_room.new.self.items keeps
    c.make_room.ensures.items

pub returns-in-Ok-answer_ask-clause-keeps : goal.returns-in-Ok-answer_ask-clause-keeps
returns-in-Ok-answer_ask-clause-keeps c = λ config keeps.
    keeps-written config c.args.machine.now c.answer_ask.new.self c.args.journal.now.items
    c.put.new.self.items c.answered.result (does c.args.tenant (asks_for c.args.actor (ask_view c.args.ask.now))) (ask_answer_view c.in-Ok-answer_ask.answers.given) keeps
    (c.put.ensures ∙ ap (λ es. es ++ c.answered.result ∷ []) c.make_room.ensures.items)
    (c.answered.ensures (ask_view c.args.ask.now) (entries c.args.journal.now.items) c.in-Ok-of.ensures
    ∙ ap (entry_of (does c.args.tenant (asks_for c.args.actor (ask_view c.args.ask.now))))
    c.in-Ok-answer_ask.ensures.same)
    (λ g conf k. c.in-Ok-answer_ask.ensures.done g k.world conf.right k.stands)

pub returns-in-Ok-answer_ask-clause-written : goal.returns-in-Ok-answer_ask-clause-written
returns-in-Ok-answer_ask-clause-written c = λ config keeps.
    is-written config c.args.machine.now c.answer_ask.new.self c.args.journal.now.items
    c.put.new.self.items c.answered.result (does c.args.tenant (asks_for c.args.actor (ask_view c.args.ask.now))) (ask_answer_view c.in-Ok-answer_ask.answers.given) keeps
    (c.put.ensures ∙ ap (λ es. es ++ c.answered.result ∷ []) c.make_room.ensures.items)
    (c.answered.ensures (ask_view c.args.ask.now) (entries c.args.journal.now.items) c.in-Ok-of.ensures
    ∙ ap (entry_of (does c.args.tenant (asks_for c.args.actor (ask_view c.args.ask.now))))
    c.in-Ok-answer_ask.ensures.same)
    (λ g conf k. c.in-Ok-answer_ask.ensures.done g k.world conf.right k.stands)

pub returns-in-Err-clause-keeps : goal.returns-in-Err-clause-keeps
returns-in-Err-clause-keeps c = λ config keeps.
    keeps-unwritten config c.args.machine.now c.answer_ask.new.self c.args.journal.now.items (does c.args.tenant (asks_for c.args.actor (ask_view c.args.ask.now))) c.in-Err.why keeps
    (λ g conf k. c.in-Err.ensures.refused g k.world conf.right k.stands)
    c.make_room.new.self.items c.make_room.ensures.items

pub returns-in-Err-clause-declined : goal.returns-in-Err-clause-declined
returns-in-Err-clause-declined c = λ config keeps.
    is-refused config c.args.machine.now c.answer_ask.new.self c.args.journal.now.items (does c.args.tenant (asks_for c.args.actor (ask_view c.args.ask.now))) c.in-Err.why keeps
    (λ g conf k. c.in-Err.ensures.refused g k.world conf.right k.stands)
