-- How a value is spelled. `print` is what a reply carries; `display` is the same with each string
-- as its bare text.
use Rattle.std.specs.Prelude.{ℕ, List, [], ◌∷◌, ◌++◌, if◌then◌else◌, ◌==◌, codes, decimal, flat_map}
use Rattle.std.specs.Fmt.{signed_decimal}
use Rattle.value_data.specs.Datum.{OwnerData, shared, tenant, Datum, nil, boolean, integer, string}
use Rattle.value_data.specs.Datum.{keyword, symbol, list, vector, map, ref, atom, agent, var, fault}
use Rattle.value_data.specs.Datum.{Items, no_items, item, Pairs, no_pairs, pair}

-- what stands for a byte of a string between its quotes: seven characters have an escape
unfoldable pub escaped_byte : ℕ → List ℕ
escaped_byte b =
    if b == 34 then codes "\\\"" else (
    if b == 92 then codes "\\\\" else (
    if b == 10 then codes "\\n" else (
    if b == 9 then codes "\\t" else (
    if b == 13 then codes "\\r" else (
    if b == 12 then codes "\\f" else (
    if b == 8 then codes "\\b" else b ∷ []))))))

abbrev pub escaped : List ℕ → List ℕ
escaped = flat_map escaped_byte

abbrev pub quoted : List ℕ → List ℕ
quoted s = codes "\"" ++ escaped s ++ codes "\""

-- the texts, with the gap between each two
abbrev pub each_behind : List ℕ → List (List ℕ) → List ℕ
each_behind gap = flat_map (λ text. gap ++ text)

abbrev pub joined_by : List ℕ → List (List ℕ) → List ℕ
joined_by gap [] = []
joined_by gap (text ∷ texts) = text ++ each_behind gap texts

abbrev pub ref_text : OwnerData → ℕ → List ℕ
ref_text shared number = codes "#ref[shared/" ++ decimal number ++ codes "]"
ref_text (tenant t) number = codes "#ref[" ++ decimal number ++ codes "]"

-- the spelling of a value, where strings are spelled by `spell`
abbrev mutual
  pub spelled : (List ℕ → List ℕ) → Datum → List ℕ
  spelled spell nil = codes "nil"
  spelled spell (boolean b) = if b then codes "true" else codes "false"
  spelled spell (integer n) = signed_decimal n
  spelled spell (string s) = spell s
  spelled spell (keyword s) = codes ":" ++ s
  spelled spell (symbol s) = s
  spelled spell (list ds) = codes "(" ++ joined_by (codes " ") (texts spell ds) ++ codes ")"
  spelled spell (vector ds) = codes "[" ++ joined_by (codes " ") (texts spell ds) ++ codes "]"
  spelled spell (map ps) = codes "{" ++ joined_by (codes ", ") (pair_texts spell ps) ++ codes "}"
  spelled spell (ref owner number) = ref_text owner number
  spelled spell (atom number) = codes "#atom[" ++ decimal number ++ codes "]"
  spelled spell (agent number) = codes "#agent[" ++ decimal number ++ codes "]"
  spelled spell (var space name) = (codes "#'" ++ space) ++ (codes "/" ++ name)
  spelled spell (fault class text) = (codes "#error{" ++ class) ++ (codes ": " ++ text) ++ codes "}"

  pub texts : (List ℕ → List ℕ) → Items → List (List ℕ)
  texts spell no_items = []
  texts spell (item d ds) = spelled spell d ∷ texts spell ds

  pub pair_texts : (List ℕ → List ℕ) → Pairs → List (List ℕ)
  pair_texts spell no_pairs = []
  pair_texts spell (pair k v ps) = (spelled spell k ++ codes " " ++ spelled spell v)
      ∷ pair_texts spell ps

abbrev pub print : Datum → List ℕ
print = spelled quoted

abbrev pub display : Datum → List ℕ
display = spelled (λ s. s)
