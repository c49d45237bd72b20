use Rattle.std.proofs.Common.{◌≡◌, take, map}
use Rattle.value_data.specs.Inside.View.{view}
use Rattle.repl_values.specs.Inside.Rows.{pair_vectors}
use Rattle.repl_values.proofs.row.copy_pairs.Given as goal

abbrev pub invariant-loop-place : goal.invariant-loop-place
invariant-loop-place l = map view l.copies.items ≡ take l.place (pair_vectors l.pairs.pairs)
