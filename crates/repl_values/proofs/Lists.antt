-- Items as lists, and back.
use Rattle.std.proofs.Common.{◌≡◌, refl, ap}
use Rattle.value_data.specs.Datum.{Items, no_items, item}
use Rattle.value_data.specs.Listed.{listed, items_of}
use Rattle.value_data.proofs.Lists as values

pub of-listed : (ds : Items) → items_of (listed ds) ≡ ds
of-listed no_items = refl
of-listed (item d ds) = ap (item d) (of-listed ds)

pub ruleset lists = (values.lists, of-listed)
