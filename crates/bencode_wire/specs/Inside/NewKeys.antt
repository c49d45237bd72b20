-- A key whose value has to come stands nowhere in its dictionary yet.
use Rattle.std.specs.Prelude.{List, Bool, true, not, Option, Some, None, Vec, ℕ}
use Rattle.std.specs.declared.alloc.Global.{Global}
use Rattle.bencode_wire.specs.Tree.{holds_key}
use Rattle.bencode_wire.specs.Inside.View.{entries_view}
use Rattle.bencode_wire.specs.declared.ben.Ben.{Ben}

abbrev pub is_new : List (Vec ℕ Global × Ben) → Option (Vec ℕ Global) → Bool
is_new entries None = true
is_new entries (Some key) = not (holds_key key.items (entries_view entries))
