-- The values that stand directly in another: items, keys and a map's values.
use Rattle.std.specs.Prelude.{◌≡◌, ◌⊎◌}
use Rattle.value_data.specs.Datum.{Datum, list, vector, map, Items, no_items, item, Pairs, no_pairs}
use Rattle.value_data.specs.Datum.{pair}

abbrev pub IsItemOf : Datum → Items → Type 0
IsItemOf d no_items = ⊥
IsItemOf d (item e ds) = (d ≡ e) ⊎ IsItemOf d ds

abbrev pub IsKeyOrValueOf : Datum → Pairs → Type 0
IsKeyOrValueOf d no_pairs = ⊥
IsKeyOrValueOf d (pair k v ps) = ((d ≡ k) ⊎ (d ≡ v)) ⊎ IsKeyOrValueOf d ps

abbrev pub IsPartOf : Datum → Datum → Type 0
IsPartOf d (list ds) = IsItemOf d ds
IsPartOf d (vector ds) = IsItemOf d ds
IsPartOf d (map ps) = IsKeyOrValueOf d ps
IsPartOf d _ = ⊥
