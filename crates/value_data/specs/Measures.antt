-- How large and how deep a value is, and whether it is plain.
use Rattle.std.specs.Prelude.{ℕ, ◌+◌, ◌-◌, ◌^◌, min, max, Bool, true, false, ◌&&◌, length}
use Rattle.value_data.specs.Datum.{Datum, string, keyword, symbol, list, vector, map, ref, atom}
use Rattle.value_data.specs.Datum.{agent, var, fault, Items, no_items, item, Pairs, no_pairs, pair}

-- what 64 bits hold of a number
abbrev pub capped : ℕ → ℕ
capped n = min n (2 ^ 64 - 1)

-- 1 for each value, and the bytes of each text in it: a keyword's without its colon, both names of
-- a var, and class and text of a fault
abbrev mutual
  pub weight : Datum → ℕ
  weight (string s) = 1 + length s
  weight (keyword s) = 1 + length s
  weight (symbol s) = 1 + length s
  weight (list ds) = 1 + items_weight ds
  weight (vector ds) = 1 + items_weight ds
  weight (map ps) = 1 + pairs_weight ps
  weight (var space name) = 1 + length space + length name
  weight (fault class text) = 1 + length class + length text
  weight _ = 1

  pub items_weight : Items → ℕ
  items_weight no_items = 0
  items_weight (item d ds) = weight d + items_weight ds

  pub pairs_weight : Pairs → ℕ
  pairs_weight no_pairs = 0
  pairs_weight (pair k v ps) = weight k + weight v + pairs_weight ps

-- a list, a vector or a map is one deeper than the deepest value in it
abbrev mutual
  pub nesting : Datum → ℕ
  nesting (list ds) = 1 + items_nesting ds
  nesting (vector ds) = 1 + items_nesting ds
  nesting (map ps) = 1 + pairs_nesting ps
  nesting _ = 0

  pub items_nesting : Items → ℕ
  items_nesting no_items = 0
  items_nesting (item d ds) = max (nesting d) (items_nesting ds)

  pub pairs_nesting : Pairs → ℕ
  pairs_nesting no_pairs = 0
  pairs_nesting (pair k v ps) = max (max (nesting k) (nesting v)) (pairs_nesting ps)

-- no ref, atom, agent or var stands anywhere inside
abbrev mutual
  pub is_plain : Datum → Bool
  is_plain (list ds) = are_plain ds
  is_plain (vector ds) = are_plain ds
  is_plain (map ps) = pairs_are_plain ps
  is_plain (ref owner number) = false
  is_plain (atom number) = false
  is_plain (agent number) = false
  is_plain (var space name) = false
  is_plain _ = true

  pub are_plain : Items → Bool
  are_plain no_items = true
  are_plain (item d ds) = is_plain d && are_plain ds

  pub pairs_are_plain : Pairs → Bool
  pairs_are_plain no_pairs = true
  pairs_are_plain (pair k v ps) = (is_plain k && is_plain v) && pairs_are_plain ps
