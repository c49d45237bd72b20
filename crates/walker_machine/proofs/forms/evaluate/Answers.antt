use Rattle.std.proofs.Common.{ap, sym, refl, arith, rules}
use Rattle.value_data.specs.Datum.{Datum}
use Rattle.value_data.specs.Inside.View.{view}
use Rattle.evaluation_rules.specs.Doing.{Part}
use Rattle.walker_state.specs.Pending.{place_of, from_state}
use Rattle.value_data.proofs.Views.{value_views}
use Rattle.std.specs.Arc.{arc_str_bytes}
use Rattle.walker_machine.proofs.Altering.{symbol-at}
use Rattle.special_forms.proofs.Sizes.{datum_size-pos}
use Rattle.walker_machine.proofs.Evaluating.{if_ok-turned, list-at}
use Rattle.walker_machine.proofs.forms.evaluate.Goals as goal

pub returns-in-List-clause-meaning : goal.returns-in-List-clause-meaning
returns-in-List-clause-meaning c =
    let s = c.args.state.now in
    if_ok-turned _ _ (rw c.in-List.is
    (ap (λ (part : Part Datum). from_state part s) (sym (list-at c.args.room (place_of s) c.in-List.items.items))))
    c.evaluate_list.ensures.meaning

pub returns-in_default : goal.returns-in_default
returns-in_default c =
    record {
      on = record {
        size = omega (arith, datum_size-pos (view c.args.form));
        calls = omega arith;
        around = refl;
      };
      meaning = search (rules, value_views);
    }

pub returns-in_ok-copy_text-in-Symbol-clause-meaning : goal.returns-in_ok-copy_text-in-Symbol-clause-meaning
returns-in_ok-copy_text-in-Symbol-clause-meaning c =
    let s = c.args.state.now in
    if_ok-turned _ _ (rw (c.in-Symbol.is, c.in_ok-copy_text-in-Symbol.ensures)
    (ap (λ (part : Part Datum). from_state part s) (sym (symbol-at c.args.room (place_of s) (arc_str_bytes c.in-Symbol.symbol)))))
    c.evaluate_symbol.ensures.meaning
