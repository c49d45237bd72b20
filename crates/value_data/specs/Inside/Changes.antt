-- What a change does to items.
use Rattle.std.specs.Prelude.{ℕ, ◌<◌, ◌≤◌, List, slice_set}
use Rattle.std.specs.List.{insert, remove}
use Rattle.value_data.specs.Datum.{Datum}
use Rattle.value_data.specs.Inside.View.{view}
use Rattle.value_data.specs.declared.changes.ItemChange.{ItemChange}

abbrev pub changed : ItemChange → ℕ → List Datum → List Datum
changed (ItemChange.Insert v) n ds = insert ds n (view v)
changed (ItemChange.Replace v) n ds = slice_set ds n (view v)
changed ItemChange.Remove n ds = remove ds n

-- the place is one of so many, or one more where an item is put in
abbrev pub HasPlace : ItemChange → ℕ → ℕ → Type 0
HasPlace (ItemChange.Insert v) n count = n ≤ count
HasPlace (ItemChange.Replace v) n count = n < count
HasPlace ItemChange.Remove n count = n < count
