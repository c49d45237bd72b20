use Rattle.std.proofs.Common.{◌∙◌, sym, ap, map, arith}
use Rattle.std.proofs.lemmas.List.{nil_from_length}
use Rattle.value_data.specs.Inside.View.{pair_view}
use Rattle.value_data.specs.Listed.{items_of}
use Rattle.repl_reader.proofs.Rows.{in_front_some, in_front_none, keys_of-pairs}
use Rattle.repl_reader.proofs.maps.split_forms.Goals as goal

pub returns-in-None-pending-2 : goal.returns-in-None-pending-2
returns-in-None-pending-2 c =
    let none = nil_from_length c.loop-form.form-iterator.rest.items (omega (arith, c.loop-form.form-iterator.rest.ok, c.in-None.ensures.steps)) in (
      sym c.loop-form.invariant.pairs ∙ rw (c.in-None-pending-2.is, none) (in_front_some (map pair_view c.loop-form.pairs.items)),
      keys_of-pairs (map pair_view c.loop-form.pairs.items) ∙ ap items_of c.loop-form.invariant.keys,
    )

pub returns-in-Some-pending-2 : goal.returns-in-Some-pending-2
returns-in-Some-pending-2 c =
    let none = nil_from_length c.loop-form.form-iterator.rest.items (omega (arith, c.loop-form.form-iterator.rest.ok, c.in-None.ensures.steps)) in
    sym c.loop-form.invariant.pairs ∙ rw (c.in-Some-pending-2.is, none) (in_front_none (map pair_view c.loop-form.pairs.items))
