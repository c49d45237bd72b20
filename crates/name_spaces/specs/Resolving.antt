-- How symbols are resolved (the Clojure reference, Evaluation and Namespaces).
use Rattle.std.specs.Prelude.{ℕ, List, Option, Some, None, ◌+◌, if◌then◌else◌, take, drop, codes}
use Rattle.std.specs.List.{position}
use Rattle.std.specs.Str.{bytes_eq}
use Rattle.repl_values.specs.Slash.{is_slash}
use Rattle.repl_values.specs.Failure as failures
use Rattle.core_functions.specs.Names.{function_named}
use Rattle.core_functions.specs.StoreNames.{store_function_named}
use Rattle.core_functions.specs.declared.function.CoreFunction.{CoreFunction}
use Rattle.core_functions.specs.declared.store.StoreFunction.{StoreFunction}
use Rattle.repl_asks.specs.Exchange.{BindingData, bound_value, bound_function, ResolutionData}
use Rattle.repl_asks.specs.Exchange.{names_value, names_function, names_nothing, core_function}
use Rattle.repl_asks.specs.Exchange.{store_function, program_function}
use Rattle.name_spaces.specs.declared.latest.Latest.{Latest}
use Rattle.name_spaces.specs.Latest.{latest_named}
use Rattle.name_spaces.specs.Bindings.{Bindings}
use Rattle.name_spaces.specs.Namespaces.{Namespaces, bindings_of}

pub data FoundData : Type 0 where
  -- what the symbol names, or why nothing
  found_resolution : ResolutionData → FoundData
  -- one of the session's latest results
  found_latest : Latest → FoundData

abbrev pub bound_resolution : BindingData → ResolutionData
bound_resolution (bound_value d) = names_value d
bound_resolution (bound_function f) = names_function (program_function f)

abbrev pub resolution_outside_core : List ℕ → Option StoreFunction → ResolutionData
resolution_outside_core symbol (Some f) = names_function (store_function f)
resolution_outside_core symbol None = names_nothing (failures.unresolved_symbol symbol)

abbrev pub unbound_resolution : List ℕ → Option CoreFunction → ResolutionData
unbound_resolution symbol (Some f) = names_function (core_function f)
unbound_resolution symbol None = resolution_outside_core symbol (store_function_named symbol)

abbrev pub unbound_symbol : List ℕ → Option Latest → FoundData
unbound_symbol symbol (Some latest) = found_latest latest
unbound_symbol symbol None = found_resolution (unbound_resolution symbol (function_named symbol))

-- A symbol without a slash: what it is bound to, else the latest result of that name, else the core
-- function, else the function that asks the store, else nothing.
abbrev pub simple_symbol : List ℕ → Option BindingData → FoundData
simple_symbol symbol (Some binding) = found_resolution (bound_resolution binding)
simple_symbol symbol None = unbound_symbol symbol (latest_named symbol)

abbrev pub var_resolution : List ℕ → Option BindingData → ResolutionData
var_resolution symbol (Some binding) = bound_resolution binding
var_resolution symbol None = names_nothing (failures.no_such_var symbol)

abbrev pub var_in : Option Bindings → List ℕ → List ℕ → List ℕ → ResolutionData
var_in (Some bindings) symbol space name = var_resolution symbol (bindings name)
var_in None symbol space name = names_nothing (failures.no_such_namespace space)

-- The namespace of this name: `shared`, which every tenant sees, or one of the tenant's own.
-- `clojure.core` is neither, so it is not found: evaluation knows its symbols and asks for none.
abbrev pub namespace_named : Bindings → Namespaces → List ℕ → Option Bindings
namespace_named shared namespaces space =
    if bytes_eq space (codes "shared") then Some shared else namespaces space

-- A symbol with a slash names its namespace and a name in it, and nothing else.
abbrev pub qualified_symbol : Bindings → Namespaces → List ℕ → List ℕ → List ℕ → ResolutionData
qualified_symbol shared namespaces symbol space name =
    var_in (namespace_named shared namespaces space) symbol space name

-- where the first slash parts a symbol; `/` alone has no parts
abbrev pub slash_of : List ℕ → Option ℕ
slash_of symbol = if bytes_eq symbol (codes "/") then None else position is_slash symbol

abbrev pub resolved_by_slash : Bindings → Namespaces → List ℕ → List ℕ → Option ℕ → FoundData
resolved_by_slash shared namespaces namespace symbol None =
    simple_symbol symbol (bindings_of (namespace_named shared namespaces namespace) symbol)
resolved_by_slash shared namespaces namespace symbol (Some slash) = found_resolution
    (qualified_symbol shared namespaces symbol (take slash symbol) (drop (slash + 1) symbol))

-- what a symbol of this namespace names, where `shared` binds that
unfoldable pub resolved : Bindings → Namespaces → List ℕ → List ℕ → FoundData
resolved shared namespaces namespace symbol =
    resolved_by_slash shared namespaces namespace symbol (slash_of symbol)
