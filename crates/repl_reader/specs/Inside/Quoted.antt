-- A string of which a part was read. Only the private functions that read strings speak of it.
use Rattle.std.specs.Prelude.{ℕ, List, ◌++◌}
use Rattle.repl_reader.specs.Reading.{FormReading, Contents, closed, refused, contents}
use Rattle.repl_reader.specs.Reading.{escape_contents, string_of}

-- the bytes that were read, before those that are left
abbrev pub onto : List ℕ → Contents → Contents
onto s (closed t rest) = closed (s ++ t) rest
onto s (refused f) = refused f

abbrev pub string_from : List ℕ → List ℕ → FormReading
string_from s text = string_of (onto s (contents text))

-- the same behind a backslash
abbrev pub escape_from : List ℕ → List ℕ → FormReading
escape_from s text = string_of (onto s (escape_contents text))
