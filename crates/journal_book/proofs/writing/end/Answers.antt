use Rattle.std.proofs.Common.{[], ◌∷◌, ◌∙◌, ◌++◌, ap, sym, subst}
use Rattle.repl_asks.specs.Inside.Jobs.{finished_view}
use Rattle.repl_walker.specs.Ends.{ending_view}
use Rattle.repl_core.specs.Kept.{EndsAsKept}
use Rattle.repl_core.specs.Steps.{AcceptsStep, RefusesStep}
use Rattle.journal_book.proofs.FormsTold.{ends-as-kept}
use Rattle.server_rules.specs.Machine.World.{does}
use Rattle.server_rules.specs.Plan.{ends}
use Rattle.tenant_world.specs.Answers.{end_answer_view}
use Rattle.journal_book.specs.View.{entries}
use Rattle.journal_book.proofs.Written.{keeps-written, is-written, keeps-unwritten, is-refused}
use Rattle.journal_book.proofs.Written.{keeps-same, says-ended, same-refused}
use Rattle.journal_book.proofs.writing.end.Goals as goal

pub returns-in_default-clause-keeps : goal.returns-in_default-clause-keeps
returns-in_default-clause-keeps c = λ config keeps.
    keeps-same config c.args.machine.now c.args.journal.now.items c.make_room.new.self.items keeps
    c.make_room.ensures.items

pub returns-in_default-end_to_note-clause-keeps : goal.returns-in_default-end_to_note-clause-keeps
returns-in_default-end_to_note-clause-keeps c = λ config keeps.
    keeps-same config c.args.machine.now c.args.journal.now.items c.make_room.new.self.items keeps
    c.make_room.ensures.items

pub returns-in-Ok-end_form-clause-keeps : goal.returns-in-Ok-end_form-clause-keeps
returns-in-Ok-end_form-clause-keeps c = λ config keeps.
    keeps-written config c.args.machine.now c.end_form.new.machine c.args.journal.now.items
    c.put.new.self.items c.end_entry-entry.result.0 (does c.args.tenant (ends c.args.actor (ending_view c.args.ending.value))) (end_answer_view c.in-Ok-end_form.answer) keeps
    (c.put.ensures ∙ ap (λ es. es ++ c.end_entry-entry.result.0 ∷ []) c.make_room.ensures.items)
    (says-ended config c.args.machine.now c.end_form.new.machine c.args.journal.now.items c.args.tenant
    c.args.actor c.in-Ok-end_to_note.noted c.args.ending c.in-Ok-end_form.answer c.end_entry-entry.result.0
    c.end_entry-entry.ensures.finished c.end_entry-entry.ensures.interrupted keeps
    (λ g conf k. subst (λ x. AcceptsStep g k.world (does c.args.tenant (ends c.args.actor (ending_view x))) c.end_form.new.machine
    (end_answer_view c.in-Ok-end_form.answer)) c.deref-2.ensures
    (c.in-Ok-end_form.ensures.done g k.world conf.right k.stands
    (λ is. subst (λ x. EndsAsKept k.world (does c.args.tenant (ends c.args.actor (ending_view x)))) (sym c.deref-2.ensures)
    (ends-as-kept g k.world (entries c.args.journal.now.items)
    (does c.args.tenant (ends c.args.actor (ending_view c.args.ending.value))) k.leads (c.requires.told is)))))
    (c.in-Ok-end_to_note.ensures ∙ ap (λ x. finished_view x.finished) c.deref.ensures))
    (λ g conf k. subst (λ x. AcceptsStep g k.world (does c.args.tenant (ends c.args.actor (ending_view x))) c.end_form.new.machine
    (end_answer_view c.in-Ok-end_form.answer)) c.deref-2.ensures
    (c.in-Ok-end_form.ensures.done g k.world conf.right k.stands
    (λ is. subst (λ x. EndsAsKept k.world (does c.args.tenant (ends c.args.actor (ending_view x)))) (sym c.deref-2.ensures)
    (ends-as-kept g k.world (entries c.args.journal.now.items)
    (does c.args.tenant (ends c.args.actor (ending_view c.args.ending.value))) k.leads (c.requires.told is)))))

pub returns-in-Ok-end_form-clause-written : goal.returns-in-Ok-end_form-clause-written
returns-in-Ok-end_form-clause-written c = λ config keeps.
    is-written config c.args.machine.now c.end_form.new.machine c.args.journal.now.items
    c.put.new.self.items c.end_entry-entry.result.0 (does c.args.tenant (ends c.args.actor (ending_view c.args.ending.value))) (end_answer_view c.in-Ok-end_form.answer) keeps
    (c.put.ensures ∙ ap (λ es. es ++ c.end_entry-entry.result.0 ∷ []) c.make_room.ensures.items)
    (says-ended config c.args.machine.now c.end_form.new.machine c.args.journal.now.items c.args.tenant
    c.args.actor c.in-Ok-end_to_note.noted c.args.ending c.in-Ok-end_form.answer c.end_entry-entry.result.0
    c.end_entry-entry.ensures.finished c.end_entry-entry.ensures.interrupted keeps
    (λ g conf k. subst (λ x. AcceptsStep g k.world (does c.args.tenant (ends c.args.actor (ending_view x))) c.end_form.new.machine
    (end_answer_view c.in-Ok-end_form.answer)) c.deref-2.ensures
    (c.in-Ok-end_form.ensures.done g k.world conf.right k.stands
    (λ is. subst (λ x. EndsAsKept k.world (does c.args.tenant (ends c.args.actor (ending_view x)))) (sym c.deref-2.ensures)
    (ends-as-kept g k.world (entries c.args.journal.now.items)
    (does c.args.tenant (ends c.args.actor (ending_view c.args.ending.value))) k.leads (c.requires.told is)))))
    (c.in-Ok-end_to_note.ensures ∙ ap (λ x. finished_view x.finished) c.deref.ensures))
    (λ g conf k. subst (λ x. AcceptsStep g k.world (does c.args.tenant (ends c.args.actor (ending_view x))) c.end_form.new.machine
    (end_answer_view c.in-Ok-end_form.answer)) c.deref-2.ensures
    (c.in-Ok-end_form.ensures.done g k.world conf.right k.stands
    (λ is. subst (λ x. EndsAsKept k.world (does c.args.tenant (ends c.args.actor (ending_view x)))) (sym c.deref-2.ensures)
    (ends-as-kept g k.world (entries c.args.journal.now.items)
    (does c.args.tenant (ends c.args.actor (ending_view c.args.ending.value))) k.leads (c.requires.told is)))))

pub returns-in-Err-clause-keeps : goal.returns-in-Err-clause-keeps
returns-in-Err-clause-keeps c = λ config keeps.
    keeps-unwritten config c.args.machine.now c.end_form.new.machine c.args.journal.now.items (does c.args.tenant (ends c.args.actor (ending_view c.args.ending.value))) c.in-Err.why keeps
    (λ g conf k. subst (λ x. RefusesStep g k.world (does c.args.tenant (ends c.args.actor (ending_view x))) c.end_form.new.machine c.in-Err.why)
    c.deref-2.ensures (c.in-Err.ensures.refused g k.world conf.right k.stands
    (λ is. subst (λ x. EndsAsKept k.world (does c.args.tenant (ends c.args.actor (ending_view x)))) (sym c.deref-2.ensures)
    (ends-as-kept g k.world (entries c.args.journal.now.items)
    (does c.args.tenant (ends c.args.actor (ending_view c.args.ending.value))) k.leads (c.requires.told is)))))
    c.make_room.new.self.items c.make_room.ensures.items

pub returns-in-Err-clause-declined : goal.returns-in-Err-clause-declined
returns-in-Err-clause-declined c = λ config keeps.
    same-refused config (entries c.args.journal.now.items)
    (does c.args.tenant (ends c.args.actor (ending_view c.args.ending.value))) c.in-Err.why
    c.refused-in-Err.result.why c.refused-in-Err.ensures.why
    (is-refused config c.args.machine.now c.end_form.new.machine c.args.journal.now.items
    (does c.args.tenant (ends c.args.actor (ending_view c.args.ending.value))) c.in-Err.why keeps
    (λ g conf k. subst (λ x. RefusesStep g k.world (does c.args.tenant (ends c.args.actor (ending_view x))) c.end_form.new.machine c.in-Err.why)
    c.deref-2.ensures (c.in-Err.ensures.refused g k.world conf.right k.stands
    (λ is. subst (λ x. EndsAsKept k.world (does c.args.tenant (ends c.args.actor (ending_view x)))) (sym c.deref-2.ensures)
    (ends-as-kept g k.world (entries c.args.journal.now.items)
    (does c.args.tenant (ends c.args.actor (ending_view c.args.ending.value))) k.leads (c.requires.told is))))))
