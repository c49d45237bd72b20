-- What is true (the Clojure reference, Special Forms, `if`; `and` and `or` of clojure.core).
use Rattle.std.specs.Prelude.{Bool, true, false, not}
use Rattle.value_data.specs.Datum.{Datum, nil, boolean}
use Rattle.special_forms.specs.declared.shapes.Logic.{Logic}

-- only nil and false are false
abbrev pub is_truthy : Datum → Bool
is_truthy nil = false
is_truthy (boolean b) = b
is_truthy d = true

-- `and` ends at the first value that is false, `or` at the first that is true
abbrev pub decides : Logic → Datum → Bool
decides Logic.And d = not (is_truthy d)
decides Logic.Or d = is_truthy d

abbrev pub before : Logic → Datum
before Logic.And = boolean true
before Logic.Or = nil
