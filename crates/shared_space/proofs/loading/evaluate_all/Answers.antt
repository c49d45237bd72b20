use Rattle.std.proofs.Common.{◌∙◌, ◌+◌, refl, sym, ap, drop}
use Rattle.value_data.specs.Inside.View.{view, items_view}
use Rattle.server_rules.specs.Shared.{shared_by_forms}
use Rattle.shared_space.specs.Told.{shared_so_far}
use Rattle.shared_space.proofs.Leading.{forms-from, forms-more}
use Rattle.shared_space.proofs.loading.evaluate_all.Goals as goal

pub loop-form-init : goal.loop-form-init
loop-form-init c = record {
  goes_on = c.requires;
  so_far = λ e evaluates. refl;
}

pub loop-form-preserved : goal.loop-form-preserved
loop-form-preserved c =
    let l = c.loop-form in
    let rest = items_view (drop (l.form-index + 1) c.args.forms.now) in
    record {
      goes_on = c.in_ok-evaluate.ensures.goes_on;
      so_far = λ e evaluates.
          sym (forms-more e (view c.form-item.result) rest (shared_so_far l.teller)
          (shared_so_far c.evaluate.new.teller) (c.in_ok-evaluate.ensures.evaluated e evaluates))
          ∙ sym (ap (λ ds. shared_by_forms e ds (shared_so_far l.teller)) (forms-from
          c.args.forms.now l.form-index c.form-item.result c.form-item.is c.loop-form-test.true))
          ∙ l.invariant.so_far e evaluates;
    }
