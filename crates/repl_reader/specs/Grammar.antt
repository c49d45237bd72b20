-- What a text reads as. `Reads depth text r`: inside `depth` openings the text begins with r, once
-- what `#_` drops is gone.
use Rattle.std.specs.Prelude.{◌≡◌, ℕ, ◌+◌, ◌-◌, ◌<◌, ◌≤◌, List, [], Bool, true, false, Option, None}
use Rattle.std.specs.Prelude.{Some, if◌then◌else◌, codes, length}
use Rattle.value_data.specs.Datum as datum
use Rattle.value_data.specs.Datum.{Datum, Items, no_items, item}
use Rattle.repl_reader.specs.declared.fault.FaultKind.TheVariants.{Unmatched, TooDeep}
use Rattle.repl_reader.specs.Fault.{BreakData, FaultData, break_of}
use Rattle.repl_reader.specs.Reading.{Bracket, round, square, curly, FormReading, begins, closes}
use Rattle.repl_reader.specs.Reading.{ends, breaks, eof, settled, opens, marks, drops, next_in}
use Rattle.repl_reader.specs.declared.nest.TheConstants.{MOST_NESTED}
use Rattle.repl_reader.specs.Maps.{map_of, paired}

-- how deep openings may be nested
abbrev pub most_nested : ℕ
most_nested = MOST_NESTED

abbrev pub closing : Bracket → List ℕ
closing round = codes ")"
closing square = codes "]"
closing curly = codes "}"

abbrev pub same_bracket : Bracket → Bracket → Bool
same_bracket round round = true
same_bracket round square = false
same_bracket round curly = false
same_bracket square round = false
same_bracket square square = true
same_bracket square curly = false
same_bracket curly round = false
same_bracket curly square = false
same_bracket curly curly = true

-- a closing character before this text, where it closes nothing
abbrev pub unmatched : Bracket → List ℕ → FormReading
unmatched b rest = breaks (break_of Unmatched (length rest + 1) (closing b))

-- the character before this text opens one nesting too many
abbrev pub nests_too_deep : List ℕ → FormReading
nests_too_deep rest = breaks (break_of TooDeep (length rest + 1) [])

abbrev pub IsForm : FormReading → Type 0
IsForm (begins d rest) = Unit {0}
IsForm (closes b rest) = ⊥
IsForm ends = ⊥
IsForm (breaks f) = ⊥

-- where a form has to stand, a closing character and the end are faults
abbrev pub form_or_fault : FormReading → FormReading
form_or_fault (begins d rest) = begins d rest
form_or_fault (closes b rest) = unmatched b rest
form_or_fault ends = eof
form_or_fault (breaks f) = breaks f

-- a form in a list, behind a symbol
abbrev pub wrapped_reading : List ℕ → FormReading → FormReading
wrapped_reading name (begins d rest) =
    begins (datum.list (item (datum.symbol name) (item d no_items))) rest
wrapped_reading name (closes b rest) = unmatched b rest
wrapped_reading name ends = eof
wrapped_reading name (breaks f) = breaks f

-- what the forms between two brackets make
abbrev pub collection_reading : Bracket → Items → List ℕ → FormReading
collection_reading round ds rest = begins (datum.list ds) rest
collection_reading square ds rest = begins (datum.vector ds) rest
collection_reading curly ds rest = map_of (paired ds) rest

-- what forms behind an opening bracket make, by what stands after them
abbrev pub enclosed_reading : Bracket → Items → FormReading → FormReading
enclosed_reading b ds (begins d rest) = begins d rest
enclosed_reading b ds (closes c rest) = if same_bracket c b then collection_reading b ds rest
    else unmatched c rest
enclosed_reading b ds ends = eof
enclosed_reading b ds (breaks f) = breaks f

mutual
  pub data Reads : ℕ → List ℕ → FormReading → Type 0 where
    plain : (depth : ℕ) (text : List ℕ) (r : FormReading)
        → next_in text ≡ settled r → Reads depth text r
    -- a form is put behind a symbol: that is an opening
    marked : (depth : ℕ) (text name more : List ℕ) (r : FormReading)
        → next_in text ≡ marks name more → depth < most_nested → Reads (depth + 1) more r
        → Reads depth text (wrapped_reading name r)
    marked_deep : (depth : ℕ) (text name more : List ℕ)
        → next_in text ≡ marks name more → most_nested ≤ depth
        → Reads depth text (nests_too_deep more)
    -- forms up to a closing bracket
    opened : (depth : ℕ) (text more : List ℕ) (b : Bracket) (ds : Items) (r : FormReading)
        → next_in text ≡ opens b more → depth < most_nested → ReadsRow (depth + 1) more ds r
        → Reads depth text (enclosed_reading b ds r)
    opened_deep : (depth : ℕ) (text more : List ℕ) (b : Bracket)
        → next_in text ≡ opens b more → most_nested ≤ depth
        → Reads depth text (nests_too_deep more)
    -- the form after `#_` is dropped, and what follows it counts
    dropped : (depth : ℕ) (text more rest : List ℕ) (d : Datum) (r : FormReading)
        → next_in text ≡ drops more → Reads depth more (begins d rest) → Reads depth rest r
        → Reads depth text r
    -- no form stands after `#_`
    undropped : (depth : ℕ) (text more : List ℕ) (r : FormReading)
        → next_in text ≡ drops more → Reads depth more r → (IsForm r → ⊥)
        → Reads depth text (form_or_fault r)

  -- these forms in a row, and then this, which is no form
  pub data ReadsRow : ℕ → List ℕ → Items → FormReading → Type 0 where
    last : (depth : ℕ) (text : List ℕ) (r : FormReading)
        → Reads depth text r → (IsForm r → ⊥) → ReadsRow depth text no_items r
    more : (depth : ℕ) (text rest : List ℕ) (d : Datum) (ds : Items) (r : FormReading)
        → Reads depth text (begins d rest) → ReadsRow depth rest ds r
        → ReadsRow depth text (item d ds) r

-- the fault of a text of this length, by what stands after its last form: nothing closes outside of
-- brackets
abbrev pub placed_fault : ℕ → BreakData → FaultData
placed_fault len f = record { kind = f.kind; at = len - f.left; text = f.text }

abbrev pub last_break : FormReading → Option BreakData
last_break (begins d rest) = None
last_break (closes b rest) = Some (break_of Unmatched (length rest + 1) (closing b))
last_break ends = None
last_break (breaks f) = Some f

abbrev pub placed_option : ℕ → Option BreakData → Option FaultData
placed_option len None = None
placed_option len (Some f) = Some (placed_fault len f)

-- the forms of a whole text before its first fault, and that fault
pub record IsReading (text : List ℕ) (ds : Items) (fault : Option FaultData) : Type 0 where
  pub after : FormReading
  pub row : ReadsRow 0 text ds after
  pub found : fault ≡ placed_option (length text) (last_break after)
