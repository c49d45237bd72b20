-- What a change does to numbers.
use Rattle.std.specs.Prelude.{ℕ, ◌<◌, ◌≤◌, List}
use Rattle.std.specs.List.{insert, remove}
use Rattle.chunked_list.specs.declared.changes.NumberChange.{NumberChange}
use Rattle.chunked_list.specs.declared.changes.NumberChange.TheVariants.{Insert, Remove}

abbrev pub numbers_changed : NumberChange → ℕ → List ℕ → List ℕ
numbers_changed (Insert v) n ds = insert ds n v
numbers_changed Remove n ds = remove ds n

-- the place is one of so many, or one more where a number is put in
abbrev pub HasNumberPlace : NumberChange → ℕ → ℕ → Type 0
HasNumberPlace (Insert v) n count = n ≤ count
HasNumberPlace Remove n count = n < count
