-- Putting pairs into a map, and taking keys out of it.
use Rattle.std.specs.Prelude.{List, [], ◌∷◌, filter, not, if◌then◌else◌}
use Rattle.value_data.specs.Datum.{Datum, Items, Pairs, no_pairs, pair}
use Rattle.value_data.specs.Repeats.{is_one_of}
use Rattle.value_data.specs.Listed.{pairs_listed, pairs_of}
use Rattle.value_data.specs.Same.{same}

-- a key there keeps its place and takes the value; another stands behind all
abbrev pub put_pair : Datum → Datum → Pairs → Pairs
put_pair key value no_pairs = pair key value no_pairs
put_pair key value (pair k v ps) = if same k key then pair k value ps
    else pair k v (put_pair key value ps)

-- one after another
abbrev pub put_pairs : Pairs → List (Datum × Datum) → Pairs
put_pairs ps [] = ps
put_pairs ps (q ∷ qs) = put_pairs (put_pair q.0 q.1 ps) qs

-- the pairs whose keys equal none of these
abbrev pub without_keys : Pairs → Items → Pairs
without_keys ps keys = pairs_of (filter (λ p. not (is_one_of keys p.0)) (pairs_listed ps))
