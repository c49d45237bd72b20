-- What a text begins with, as far as its first characters tell.
use Rattle.std.specs.Prelude.{ℕ, ℤ, List, [], ◌∷◌, Bool, Option, None, Some, ◌==◌, ◌||◌, ◌+◌}
use Rattle.std.specs.Prelude.{if◌then◌else◌, codes, length}
use Rattle.value_data.specs.Datum as datum
use Rattle.value_data.specs.Datum.{Datum}
use Rattle.repl_reader.specs.declared.fault.FaultKind.{FaultKind}
use Rattle.repl_reader.specs.declared.fault.FaultKind.TheVariants.{Eof, BadNumber, BadToken}
use Rattle.repl_reader.specs.declared.fault.FaultKind.TheVariants.{BadEscape, BadDispatch, BadChar}
use Rattle.repl_reader.specs.Fault.{BreakData, break_of}
use Rattle.repl_reader.specs.Text.{bare, token, after_token, character}
use Rattle.repl_reader.specs.Token.{begins_number, integer_of, named_datum}

pub data Bracket : Type 0 where
  round : Bracket
  square : Bracket
  curly : Bracket

-- what a text begins with, and the text after it
pub data FormReading : Type 0 where
  -- a form
  begins : Datum → List ℕ → FormReading
  -- a closing character in a form's place
  closes : Bracket → List ℕ → FormReading
  -- nothing but white space and comments
  ends : FormReading
  -- what breaks a rule
  breaks : BreakData → FormReading

abbrev pub eof : FormReading
eof = breaks (break_of Eof 0 [])

-- what stands for an escaped character, which is the byte after a backslash
abbrev pub is_escape : ℕ → Bool
is_escape b = b == 34 || b == 92 || b == 110 || b == 116 || b == 114 || b == 102 || b == 98

abbrev pub escape : ℕ → ℕ
escape b =
    if b == 110 then 10 else (
    if b == 116 then 9 else (
    if b == 114 then 13 else (
    if b == 102 then 12 else (
    if b == 98 then 8 else b))))

-- what stands behind a backslash and escapes nothing
unfoldable pub bad_escape : List ℕ → BreakData
bad_escape [] = break_of Eof 0 []
bad_escape (b ∷ bs) = break_of BadEscape (length (b ∷ bs) + 1) (character (b ∷ bs))

-- what stands behind an opening quote: a string's bytes and the text after its closing quote, or
-- what breaks a rule
pub data Contents : Type 0 where
  closed : List ℕ → List ℕ → Contents
  refused : BreakData → Contents

abbrev pub with_leading_byte : ℕ → Contents → Contents
with_leading_byte b (closed s rest) = closed (b ∷ s) rest
with_leading_byte b (refused f) = refused f

-- up to the closing quote each byte is itself, or what it stands for behind a backslash
abbrev mutual
  pub contents : List ℕ → Contents
  contents [] = refused (break_of Eof 0 [])
  contents (b ∷ bs) = if b == 34 then closed [] bs
      else (if b == 92 then escape_contents bs else with_leading_byte b (contents bs))

  pub escape_contents : List ℕ → Contents
  escape_contents [] = refused (bad_escape [])
  escape_contents (b ∷ bs) = if is_escape b then with_leading_byte (escape b) (contents bs)
      else refused (bad_escape (b ∷ bs))

abbrev pub string_of : Contents → FormReading
string_of (closed s rest) = begins (datum.string s) rest
string_of (refused f) = breaks f

-- a value with the text after it, or a fault that names the token
abbrev pub token_or_fault : FaultKind → List ℕ → Option Datum → FormReading
token_or_fault kind text None = breaks (break_of kind (length text) (token text))
token_or_fault kind text (Some d) = begins d (after_token text)

abbrev pub integer_datum : Option ℤ → Option Datum
integer_datum None = None
integer_datum (Some n) = Some (datum.integer n)

unfoldable pub token_at : List ℕ → FormReading
token_at text =
    if begins_number (token text) then token_or_fault BadNumber text
    (integer_datum (integer_of (token text)))
    else token_or_fault BadToken text (named_datum (token text))

-- what comes next
pub data Next : Type 0 where
  -- this, whatever follows
  settled : FormReading → Next
  opens : Bracket → List ℕ → Next
  -- a character that puts the form after it into a list, behind this symbol
  marks : List ℕ → List ℕ → Next
  -- `#_`, by which the form after it is dropped
  drops : List ℕ → Next

-- behind a `#` in a form's place
unfoldable pub dispatch_at : List ℕ → Next
dispatch_at [] = settled eof
dispatch_at (b ∷ bs) = if b == 95 then drops bs
    else settled (breaks (break_of BadDispatch (length (b ∷ bs) + 1) (character (b ∷ bs))))

-- ^ ~ \ and the back quote
abbrev pub is_unsupported : ℕ → Bool
is_unsupported b = b == 94 || b == 126 || b == 92 || b == 96

-- by the first byte, and the bytes after it
unfoldable pub next_by : ℕ → List ℕ → Next
next_by b bs =
    if b == 40 then opens round bs else (
    if b == 91 then opens square bs else (
    if b == 123 then opens curly bs else (
    if b == 41 then settled (closes round bs) else (
    if b == 93 then settled (closes square bs) else (
    if b == 125 then settled (closes curly bs) else (
    if b == 39 then marks (codes "quote") bs else (
    if b == 64 then marks (codes "clojure.core/deref") bs else (
    if b == 35 then dispatch_at bs else (
    if b == 34 then settled (string_of (contents bs)) else (
    if is_unsupported b then settled (breaks
    (break_of BadChar (length (b ∷ bs)) (character (b ∷ bs))))
    else settled (token_at (b ∷ bs))))))))))))

abbrev pub next_in_bare : List ℕ → Next
next_in_bare [] = settled ends
next_in_bare (b ∷ bs) = next_by b bs

abbrev pub next_in : List ℕ → Next
next_in text = next_in_bare (bare text)
