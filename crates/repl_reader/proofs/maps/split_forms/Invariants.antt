use Rattle.std.proofs.Common.{◌≡◌, map}
use Rattle.value_data.specs.Datum.{Datum}
use Rattle.value_data.specs.Inside.View.{view, pair_view, items_view}
use Rattle.repl_reader.specs.Maps.{paired}
use Rattle.repl_reader.proofs.Rows.{in_front, behind}
use Rattle.repl_reader.proofs.maps.split_forms.Given as goal

-- the pairs so far, before those that what is left makes
abbrev pub invariant-loop-form : goal.invariant-loop-form
invariant-loop-form l = record {
  keys : map (λ (p : Datum × Datum). p.0) (map pair_view l.pairs.items) ≡ map view l.keys.items;
  pairs : in_front (map pair_view l.pairs.items) (behind l.pending (items_view l.form-iterator.rest.items)) ≡ paired (items_view l.fn.forms.items);
}
