-- Items and pairs as lists.
use Rattle.std.specs.Prelude.{List, [], ◌∷◌}
use Rattle.value_data.specs.Datum.{Datum, vector, Items, no_items, item, Pairs, no_pairs, pair}

abbrev pub listed : Items → List Datum
listed no_items = []
listed (item d ds) = d ∷ listed ds

abbrev pub items_of : List Datum → Items
items_of [] = no_items
items_of (d ∷ ds) = item d (items_of ds)

abbrev pub pairs_listed : Pairs → List (Datum × Datum)
pairs_listed no_pairs = []
pairs_listed (pair k v ps) = (k, v) ∷ pairs_listed ps

abbrev pub pairs_of : List (Datum × Datum) → Pairs
pairs_of [] = no_pairs
pairs_of (p ∷ ps) = pair p.0 p.1 (pairs_of ps)

abbrev pub vector_of_two : Datum × Datum → Datum
vector_of_two p = vector (item p.0 (item p.1 no_items))
