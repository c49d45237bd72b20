-- The characters of a text by their bytes, and what stands between forms.
use Rattle.std.specs.Prelude.{ℕ, List, [], ◌∷◌, Bool, ◌==◌, ◌||◌, if◌then◌else◌, take, drop}
use Rattle.std.specs.List.{position_or_len}
use Rattle.std.specs.Str.{chars, encode_utf8_all}

-- space, tab, newline, formfeed, return and comma
unfoldable pub is_white : ℕ → Bool
is_white b = b == 32 || b == 9 || b == 10 || b == 12 || b == 13 || b == 44

-- ( ) [ ] { } " ; @ ^ ~ \ and the back quote
unfoldable pub is_delimiter : ℕ → Bool
is_delimiter b =
    b == 40 || b == 41 || b == 91 || b == 93 || b == 123 || b == 125 || b == 34 || b == 59
    || b == 64 || b == 94 || b == 126 || b == 92 || b == 96

unfoldable pub ends_token : ℕ → Bool
ends_token b = is_white b || is_delimiter b

-- the longest run of characters that end no token, and what follows it
abbrev pub token : List ℕ → List ℕ
token text = take (position_or_len ends_token text) text

abbrev pub after_token : List ℕ → List ℕ
after_token text = drop (position_or_len ends_token text) text

abbrev mutual
  -- the text without the white space and the comments that it begins with
  pub bare : List ℕ → List ℕ
  bare [] = []
  bare (b ∷ bs) = if b == 59 then after_comment bs else (if is_white b then bare bs else b ∷ bs)

  -- a comment ends with its line
  pub after_comment : List ℕ → List ℕ
  after_comment [] = []
  after_comment (b ∷ bs) = if b == 10 then bare bs else after_comment bs

-- the first character, or nothing at the end
unfoldable pub character : List ℕ → List ℕ
character text = encode_utf8_all (take 1 (chars text))

-- what ends a run of plain characters in a string
abbrev pub ends_plain : ℕ → Bool
ends_plain b = b == 34 || b == 92
