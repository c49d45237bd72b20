-- What the value of a field is read as.
use Rattle.std.specs.Prelude.{ℕ, List, Option, Some, None, if◌then◌else◌}
use Rattle.std.specs.Str.{is_utf8}
use Rattle.bencode_wire.specs.Tree.{Tree, integer, string, list, dictionary}

-- a value's bytes, if it is a string
abbrev pub as_string : Tree → Option (List ℕ)
as_string (integer n) = None
as_string (string bytes) = Some bytes
as_string (list ts) = None
as_string (dictionary ps) = None

-- a field's text, if it is a string in UTF-8
abbrev pub text_of : Option Tree → Option (List ℕ)
text_of None = None
text_of (Some (integer n)) = None
text_of (Some (string bytes)) = if is_utf8 bytes then Some bytes else None
text_of (Some (list ts)) = None
text_of (Some (dictionary ps)) = None
