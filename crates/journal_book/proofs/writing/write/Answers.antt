use Rattle.std.proofs.Common.{◌∙◌, ap, refl, sym}
use Rattle.repl_asks.specs.Inside.View.{ask_view}
use Rattle.server_rules.specs.Machine.World.{does}
use Rattle.server_rules.specs.Plan.{asks_for}
use Rattle.repl_core.specs.Steps.{step_view}
use Rattle.journal_book.proofs.Written.{same-written}
use Rattle.journal_book.proofs.writing.write.Goals as goal

pub returns-in-Ok-clause-written : goal.returns-in-Ok-clause-written
returns-in-Ok-clause-written c = λ config keeps.
    same-written config c.args.journal.now.items c.begin.new.journal.items _ _ _ _
    (ap step_view c.in-Start.is) c.of_start.ensures (c.in-Ok.ensures.written config keeps)

pub returns-in-Ok-answer_ask-clause-written : goal.returns-in-Ok-answer_ask-clause-written
returns-in-Ok-answer_ask-clause-written c = λ config keeps.
    same-written config c.args.journal.now.items c.answer_ask.new.journal.items _ _ _ _
    (ap step_view c.in-Asked.is
    ∙ ap (λ x. does c.in-Asked.tenant (asks_for c.in-Asked.actor (ask_view x))) (sym c.deref.ensures))
    c.of_ask.ensures (c.in-Ok-answer_ask.ensures.written config keeps)

pub returns-in-Ok-end-clause-written : goal.returns-in-Ok-end-clause-written
returns-in-Ok-end-clause-written c = λ config keeps.
    same-written config c.args.journal.now.items c.end.new.journal.items _ _ _ _
    (ap step_view c.in-Ended.is) c.of_end.ensures (c.in-Ok-end.ensures.written config keeps)

pub returns-in-Ok-drain-clause-written : goal.returns-in-Ok-drain-clause-written
returns-in-Ok-drain-clause-written c = λ config keeps.
    same-written config c.args.journal.now.items c.drain.new.journal.items _ _ _ _
    (ap step_view c.in-Drain.is) refl (c.in-Ok-drain.ensures.written config keeps)

pub returns-in-Ok-hear-clause-written : goal.returns-in-Ok-hear-clause-written
returns-in-Ok-hear-clause-written c = λ config keeps.
    same-written config c.args.journal.now.items c.hear.new.journal.items _ _ _ _
    (ap step_view c.in-Hear.is) refl (c.in-Ok-hear.ensures.written config keeps)

pub returns-in-Ok-open-clause-written : goal.returns-in-Ok-open-clause-written
returns-in-Ok-open-clause-written c = λ config keeps.
    same-written config c.args.journal.now.items c.open.new.journal.items _ _ _ _
    (ap step_view c.in-Open.is) refl (c.in-Ok-open.ensures.written config keeps)

pub returns-in-Ok-bye-clause-written : goal.returns-in-Ok-bye-clause-written
returns-in-Ok-bye-clause-written c = λ config keeps.
    same-written config c.args.journal.now.items c.bye.new.journal.items _ _ _ _
    (ap step_view c.in-Bye.is) refl (c.in-Ok-bye.ensures.written config keeps)
