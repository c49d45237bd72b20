-- Namespaces that no program changes (the Clojure reference, Namespaces).
use Rattle.std.specs.Prelude.{ℕ, List, Bool, ◌||◌, codes}
use Rattle.std.specs.Str.{bytes_eq}

-- `shared` and `clojure.core` are the same for all tenants: nobody enters them or defines there
unfoldable pub is_fixed : List ℕ → Bool
is_fixed name = bytes_eq name (codes "shared") || bytes_eq name (codes "clojure.core")
