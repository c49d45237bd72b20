-- How a reply's fields are written, one behind another.
use Rattle.std.specs.Prelude.{ℕ, List, [], ◌++◌, Option, Some, None}
use Rattle.bencode_wire.specs.Tree.{Tree}
use Rattle.bencode_wire.specs.Spelling.{canonical}

-- a value behind the spelling of its key, if there is a value
abbrev pub behind : List ℕ → Option Tree → List ℕ
behind head None = []
behind head (Some t) = head ++ canonical t
