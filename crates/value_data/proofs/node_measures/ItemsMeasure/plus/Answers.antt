use Rattle.std.proofs.Common.{◌&&◌, ◌∙◌, ap, sym, arith}
use Rattle.value_data.specs.Listed.{items_of}
use Rattle.value_data.specs.Measures.{are_plain}
use Rattle.value_data.proofs.Sums.{weight-append, nesting-append, plain-append, factor-append, addend-append}
use Rattle.value_data.proofs.node_measures.ItemsMeasure.plus.Goals as goal

pub returns : goal.returns
returns c = λ xs ys f g. record {
  weighed = omega (arith, f.weighed, g.weighed, weight-append xs ys);
  nested = omega (arith, f.nested, g.nested, nesting-append xs ys);
  all_plain =
      c.both.ensures
      ∙ ap (λ b. b && c.args.other.plain) f.all_plain
      ∙ ap (λ b. are_plain (items_of xs) && b) g.all_plain
      ∙ sym (plain-append xs ys);
  factored = rw (f.factored, g.factored) (sym (factor-append xs ys));
  added = rw (f.added, g.added, g.factored) (sym (addend-append xs ys));
}
