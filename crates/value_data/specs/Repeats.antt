-- The first of some values to which an equal one stands before.
use Rattle.std.specs.Prelude.{ℕ, suc, Bool, false, ◌||◌, Option, Some, None, option_map}
use Rattle.std.specs.Prelude.{if◌then◌else◌}
use Rattle.value_data.specs.Datum.{Datum, Items, no_items, item}
use Rattle.value_data.specs.Same.{same}

-- one of the values is equal to d
abbrev pub is_one_of : Items → Datum → Bool
is_one_of no_items d = false
is_one_of (item e es) d = same e d || is_one_of es d

-- where the values of `before` stand already
abbrev pub repeat_behind : Items → Items → Option ℕ
repeat_behind before no_items = None
repeat_behind before (item d ds) =
    if is_one_of before d then Some 0
    else option_map (λ n. suc n) (repeat_behind (item d before) ds)

-- the index of the first value to which an equal one stands before
abbrev pub first_repeat : Items → Option ℕ
first_repeat = repeat_behind no_items
