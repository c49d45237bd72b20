-- How many values stand in a value: what a recursion goes down by.
use Rattle.std.specs.Prelude.{ℕ, ◌+◌}
use Rattle.value_data.specs.Datum.{Datum, list, vector, map, Items, no_items, item, Pairs, no_pairs, pair}

abbrev mutual
  pub nodes : Datum → ℕ
  nodes (list ds) = 1 + items_nodes ds
  nodes (vector ds) = 1 + items_nodes ds
  nodes (map ps) = 1 + pairs_nodes ps
  nodes _ = 1

  pub items_nodes : Items → ℕ
  items_nodes no_items = 0
  items_nodes (item d ds) = nodes d + items_nodes ds

  pub pairs_nodes : Pairs → ℕ
  pairs_nodes no_pairs = 0
  pairs_nodes (pair k v ps) = nodes k + nodes v + pairs_nodes ps
