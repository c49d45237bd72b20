-- Items with one more behind them, and what stands behind the first.
use Rattle.value_data.specs.Datum.{Datum, Items, no_items, item}

abbrev pub with_last : Items → Datum → Items
with_last no_items d = item d no_items
with_last (item e es) d = item e (with_last es d)

abbrev pub behind_first : Items → Items
behind_first no_items = no_items
behind_first (item d ds) = ds
