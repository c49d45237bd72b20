use Rattle.std.proofs.Common.{ap, option_map, subst, sym, ◌∙◌}
use Rattle.value_data.specs.Inside.View.{items_view}
use Rattle.repl_values.specs.Inside.FaultView.{failure_of}
use Rattle.repl_reader.specs.Inside.View.{fault_option}
use Rattle.shared_space.specs.Loaded.{IsFaultIn, IsFaultOf}
use Rattle.shared_space.specs.Told.{shared_so_far}
use Rattle.shared_space.proofs.Leading.{err-so, begun}
use Rattle.shared_space.proofs.Leading.{forms-fault-in, text-fault-in, text-comes, text-clear}
use Rattle.shared_space.proofs.loading.load.Goals as goal

pub returns-in_err-evaluate_all-clause-fault : goal.returns-in_err-evaluate_all-clause-fault
returns-in_err-evaluate_all-clause-fault c =
    err-so (IsFaultIn c.args.text.now) c.from_residual-in_err-evaluate_all.result
    c.in_err-evaluate_all.field-0.0 c.from_residual-in_err-evaluate_all.ensures.1
    (forms-fault-in c.readings_are_unique.ensures c.args.text.now
    (items_view c.in_ok-forms.field-0.forms.items) (fault_option c.in_ok-forms.field-0.fault)
    c.in_err-evaluate_all.field-0.0 c.in_ok-forms.ensures
    (λ e evaluates. subst (λ r. IsFaultOf r c.in_err-evaluate_all.field-0.0)
    (begun e (items_view c.as_slice.result.now) (items_view c.in_ok-forms.field-0.forms.items)
    c.new-teller.result (ap items_view c.as_slice.ensures.value) c.new-teller.ensures)
    (c.in_err-evaluate_all.ensures.fault e evaluates)))

pub returns-in-Some-clause-fault : goal.returns-in-Some-clause-fault
returns-in-Some-clause-fault c =
    text-fault-in c.readings_are_unique.ensures c.args.text.now
    (items_view c.in_ok-forms.field-0.forms.items) (fault_option c.in_ok-forms.field-0.fault)
    (shared_so_far c.evaluate_all.new.teller) c.in-Some.fault c.in_ok-forms.ensures
    (λ e evaluates. sym (begun e (items_view c.as_slice.result.now)
    (items_view c.in_ok-forms.field-0.forms.items) c.new-teller.result
    (ap items_view c.as_slice.ensures.value) c.new-teller.ensures)
    ∙ c.in_ok-evaluate_all.ensures.evaluated e evaluates)
    (sym (ap (option_map failure_of) c.in-Some.is) ∙ c.in_ok-told.ensures)

pub returns-clause-loaded : goal.returns-clause-loaded
returns-clause-loaded c = λ r e right evaluates.
    let s = shared_so_far c.evaluate_all.new.teller in
    let fault = fault_option c.in_ok-forms.field-0.fault in (
      s,
      text-comes c.readings_are_unique.ensures r e right c.args.text.now
          (items_view c.in_ok-forms.field-0.forms.items) fault s c.in_ok-forms.ensures
          (sym (begun e (items_view c.as_slice.result.now) (items_view c.in_ok-forms.field-0.forms.items)
          c.new-teller.result (ap items_view c.as_slice.ensures.value) c.new-teller.ensures) ∙ c.in_ok-evaluate_all.ensures.evaluated e evaluates)
          ∙ text-clear fault s (sym (ap (option_map failure_of) c.in-None.is) ∙ c.in_ok-told.ensures),
      c.in_ok-finish-in-None.ensures,
    )
