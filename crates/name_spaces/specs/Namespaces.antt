-- The namespaces of a tenant (the Clojure reference, Namespaces).
use Rattle.std.specs.Prelude.{ℕ, List, Bool, Option, Some, None, if◌then◌else◌, is_some, codes}
use Rattle.std.specs.Str.{bytes_eq}
use Rattle.repl_asks.specs.Namespaces.{is_fixed}
use Rattle.repl_asks.specs.Exchange.{BindingData}
use Rattle.name_spaces.specs.Bindings.{Bindings, nothing_bound, rebound}

-- of each namespace, by its name, what it binds; none where it is not there
abbrev pub Namespaces : Type 0
Namespaces = List ℕ → Option Bindings

-- none is there
abbrev pub no_namespaces : Namespaces
no_namespaces name = None

unfoldable pub is_there : Namespaces → List ℕ → Bool
is_there namespaces name = is_some (namespaces name)

-- what a namespace binds: nothing, where it is not there
abbrev pub bindings_of : Option Bindings → Bindings
bindings_of (Some bindings) = bindings
bindings_of None = nothing_bound

-- at the start there is `user`, and it is empty
unfoldable pub at_start : Namespaces
at_start q = if bytes_eq q (codes "user") then Some nothing_bound else None

-- One namespace binds this, in place of what it bound, and every other stays. A fixed one is never
-- a tenant's own.
abbrev pub with_namespace : Namespaces → List ℕ → Bindings → Namespaces
with_namespace namespaces name bindings q =
    if is_fixed name then namespaces q else (
    if bytes_eq q name then Some bindings else namespaces q)

-- a namespace that is new is empty; one that is there stays as it is
unfoldable pub with_entered_namespace : Namespaces → List ℕ → Namespaces
with_entered_namespace namespaces name =
    with_namespace namespaces name (bindings_of (namespaces name))

-- a name is bound in a namespace, which is made where it is new
unfoldable pub with_definition : Namespaces → List ℕ → List ℕ → BindingData → Namespaces
with_definition namespaces namespace name binding =
    with_namespace namespaces namespace (rebound (bindings_of (namespaces namespace)) name binding)
