use Rattle.std.proofs.Common.{◌∙◌, sym, arith}
use Rattle.value_data.specs.Inside.View.{view}
use Rattle.value_data.specs.Measures.{is_plain}
use Rattle.value_data.proofs.Sums.{factor-one, addend-one, and-true}
use Rattle.value_data.proofs.node_measures.ItemsMeasure.of_one.Goals as goal

pub returns : goal.returns
returns c =
    let d = view c.args.item.now in
    record {
      weighed = omega (arith, c.weight.ensures);
      nested = omega (arith, c.nesting.ensures);
      all_plain = c.is_plain.ensures ∙ and-true (is_plain d);
      factored = sym (factor-one d);
      added = c.hash_of.ensures ∙ sym (addend-one d (omega (arith, c.hash_of.ensures, c.hash_of.type_inv)));
    }
