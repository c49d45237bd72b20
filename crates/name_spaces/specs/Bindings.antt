-- What the names of a namespace are bound to (the Clojure reference, Namespaces).
use Rattle.std.specs.Prelude.{ℕ, List, Option, Some, None, if◌then◌else◌}
use Rattle.std.specs.Str.{bytes_eq}
use Rattle.repl_asks.specs.Exchange.{BindingData}

-- of each name what it is bound to, or nothing
abbrev pub Bindings : Type 0
Bindings = List ℕ → Option BindingData

abbrev pub nothing_bound : Bindings
nothing_bound name = None

-- one name is bound to this, in place of what it was bound to, and every other stays
abbrev pub rebound : Bindings → List ℕ → BindingData → Bindings
rebound bindings name binding q = if bytes_eq q name then Some binding else bindings q
