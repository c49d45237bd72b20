-- The data that the code's types stand for.
use Rattle.std.specs.Prelude.{◌≡◌, ◌+◌, ◌<◌, ◌≤◌, ℕ, List, Option, None, Some, string_bytes, codes}
use Rattle.value_data.specs.Datum.{Datum, Items, Pairs}
use Rattle.value_data.specs.Keyed.{keys_of}
use Rattle.value_data.specs.Inside.View.{view, items_view, pairs_view}
use Rattle.value_data.specs.declared.value.Value.{Value}
use Rattle.repl_reader.specs.Fault.{BreakData, FaultData}
use Rattle.repl_reader.specs.Reading as plain
use Rattle.repl_reader.specs.declared.fault.Break.{Break}
use Rattle.repl_reader.specs.declared.fault.ReaderFault.{ReaderFault}
use Rattle.repl_reader.specs.declared.reading.Bracket.{Bracket}
use Rattle.repl_reader.specs.declared.reading.MacroCharacter.{MacroCharacter}
use Rattle.repl_reader.specs.declared.reading.FormReading.{FormReading}
use Rattle.repl_reader.specs.declared.next.Next.{Next}
use Rattle.repl_reader.specs.declared.entries.MapEntries.{MapEntries}
use Rattle.repl_reader.specs.declared.nest.Front.{Front}
use Rattle.repl_reader.specs.declared.nest.RowReading.{RowReading}
use Rattle.repl_reader.specs.Grammar.{Reads, ReadsRow, most_nested, nests_too_deep, wrapped_reading}
use Rattle.repl_reader.specs.Grammar.{enclosed_reading}

abbrev pub break_view : Break → BreakData
break_view b = record { kind = b.kind; left = b.left; text = string_bytes b.text }

abbrev pub fault_view : ReaderFault → FaultData
fault_view f = record { kind = f.kind; at = f.at; text = string_bytes f.text }

abbrev pub bracket_view : Bracket → plain.Bracket
bracket_view Bracket.Round = plain.round
bracket_view Bracket.Square = plain.square
bracket_view Bracket.Curly = plain.curly

abbrev pub mark_symbol : MacroCharacter → List ℕ
mark_symbol MacroCharacter.Quote = codes "quote"
mark_symbol MacroCharacter.Deref = codes "clojure.core/deref"

abbrev pub form_reading_view : FormReading → plain.FormReading
form_reading_view (FormReading.Form v rest) = plain.begins (view v) rest.now
form_reading_view (FormReading.Closing b rest) = plain.closes (bracket_view b) rest.now
form_reading_view FormReading.End = plain.ends
form_reading_view (FormReading.Broken f) = plain.breaks (break_view f)

abbrev pub next_view : Next → plain.Next
next_view (Next.Settled r) = plain.settled (form_reading_view r)
next_view (Next.Opening b rest) = plain.opens (bracket_view b) rest.now
next_view (Next.Marking m rest) = plain.marks (mark_symbol m) rest.now
next_view (Next.Dropping rest) = plain.drops rest.now

-- a value where there is one, and else none
abbrev pub IsValue : Option Value → Option Datum → Type 0
IsValue None d = d ≡ None
IsValue (Some v) d = d ≡ Some (view v)

-- the pairs of forms by turns, with their keys once more
abbrev pub AreEntries : Option MapEntries → Option Pairs → Type 0
AreEntries None ps = ps ≡ None
AreEntries (Some e) ps = (ps ≡ Some (pairs_view e.pairs.items))
    × (keys_of (pairs_view e.pairs.items) ≡ items_view e.keys.items)

-- what the code knows of the front of a text: a dropped form is to follow, or what is read there
abbrev pub IsFrontOf : ℕ → List ℕ → Front → Type 0
IsFrontOf depth text (Front.Dropping rest) = plain.next_in text ≡ plain.drops rest.now
IsFrontOf depth text (Front.Read r) = Reads depth text (form_reading_view r)

-- what is read behind a character that wraps a form, or behind an opening bracket
pub data IsMarked (depth : ℕ) (name text : List ℕ) : plain.FormReading → Type 0 where
  wraps : (r : plain.FormReading) → depth < most_nested → Reads (depth + 1) text r
      → IsMarked depth name text (wrapped_reading name r)
  wraps_deep : most_nested ≤ depth → IsMarked depth name text (nests_too_deep text)

pub data IsOpened (depth : ℕ) (b : plain.Bracket) (text : List ℕ) : plain.FormReading → Type 0 where
  encloses : (ds : Items) (r : plain.FormReading) → depth < most_nested
      → ReadsRow (depth + 1) text ds r → IsOpened depth b text (enclosed_reading b ds r)
  encloses_deep : most_nested ≤ depth → IsOpened depth b text (nests_too_deep text)

abbrev pub IsRowReading : ℕ → List ℕ → RowReading → Type 0
IsRowReading depth text row =
    ReadsRow depth text (items_view row.forms.items) (form_reading_view row.after)

abbrev pub fault_option : Option ReaderFault → Option FaultData
fault_option None = None
fault_option (Some f) = Some (fault_view f)

abbrev pub break_option : Option Break → Option BreakData
break_option None = None
break_option (Some f) = Some (break_view f)
