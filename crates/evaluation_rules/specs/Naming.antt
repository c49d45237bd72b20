-- What symbols name (the Clojure reference, Evaluation): a local, a function of `clojure.core`
-- where it is written so, or what the namespace says.
use Rattle.std.specs.Prelude.{ℕ, List, Option, Some, None, ◌+◌, if◌then◌else◌, take, drop, codes}
use Rattle.std.specs.List.{position}
use Rattle.std.specs.Str.{bytes_eq}
use Rattle.value_data.specs.Datum.{Datum, symbol}
use Rattle.repl_values.specs.Failure as failures
use Rattle.core_functions.specs.Names.{function_named}
use Rattle.core_functions.specs.StoreNames.{store_function_named}
use Rattle.core_functions.specs.declared.function.CoreFunction.{CoreFunction}
use Rattle.core_functions.specs.declared.store.StoreFunction.{StoreFunction}
use Rattle.repl_asks.specs.Exchange.{resolve, NamedFunctionData, core_function, store_function}
use Rattle.repl_asks.specs.Exchange.{ResolutionData, names_value, names_function, names_nothing}
use Rattle.special_forms.specs.Locals.{local_value}
use Rattle.repl_values.specs.Slash.{is_slash}
use Rattle.evaluation_rules.specs.Doing.{Part, ◌|>◌, pure_part, fails, resolving}
use Rattle.evaluation_rules.specs.Places.{PlaceData, space_of}

-- what follows the slash of a name in `clojure.core`
abbrev pub core_name_at : List ℕ → Option ℕ → Option (List ℕ)
core_name_at s (Some slash) = if bytes_eq (take slash s) (codes "clojure.core")
    then Some (drop (slash + 1) s) else None
core_name_at s None = None

unfoldable pub core_name : List ℕ → Option (List ℕ)
core_name s = core_name_at s (position is_slash s)

-- `clojure.core/f` is the function f of the language, which asks the store or does not
abbrev pub store_resolution : List ℕ → Option StoreFunction → ResolutionData
store_resolution s (Some f) = names_function (store_function f)
store_resolution s None = names_nothing (failures.no_such_var s)

abbrev pub core_resolution : List ℕ → List ℕ → Option CoreFunction → ResolutionData
core_resolution s name (Some f) = names_function (core_function f)
core_resolution s name None = store_resolution s (store_function_named name)

abbrev pub local_resolution : Option Datum → Option ResolutionData
local_resolution (Some d) = Some (names_value d)
local_resolution None = None

-- as far as that can be known without an ask
abbrev pub known_by : PlaceData → List ℕ → Option (List ℕ) → Option ResolutionData
known_by p s (Some name) = Some (core_resolution s name (function_named name))
known_by p s None = local_resolution (local_value p.locals s)

abbrev pub known_resolution : PlaceData → List ℕ → Option ResolutionData
known_resolution p s = known_by p s (core_name s)

abbrev pub asked_resolution : PlaceData → List ℕ → Part ResolutionData
asked_resolution p s next kept = resolving (resolve (space_of p kept) s) next kept

abbrev pub known_or_asked : PlaceData → List ℕ → Option ResolutionData → Part ResolutionData
known_or_asked p s (Some r) = pure_part r
known_or_asked p s None = asked_resolution p s

abbrev pub resolution : PlaceData → List ℕ → Part ResolutionData
resolution p s = known_or_asked p s (known_resolution p s)

-- in a value's place
abbrev pub as_value : List ℕ → ResolutionData → Part Datum
as_value s (names_value d) = pure_part d
as_value s (names_function f) = fails (failures.not_a_value s)
as_value s (names_nothing f) = fails f

abbrev pub symbol_value : PlaceData → List ℕ → Part Datum
symbol_value p s = resolution p s |> as_value s

-- at the head of a list
abbrev pub as_function : ResolutionData → Part NamedFunctionData
as_function (names_value d) = fails (failures.not_a_function d)
as_function (names_function f) = pure_part f
as_function (names_nothing f) = fails f

-- in the place of a function's argument, which is a function's name
abbrev pub function_value : PlaceData → Datum → Part NamedFunctionData
function_value p (symbol s) = resolution p s |> as_function
function_value p d = fails (failures.not_a_function d)
