-- Each text has a reading.
use Rattle.std.proofs.Common.{◌≡◌, ℕ, zero, suc, ◌+◌, ◌*◌, ◌<◌, ◌≤◌, ◌⊎◌, inl, inr, Bool, true}
use Rattle.std.proofs.Common.{false, ltb, List, length, refl, arith}
use Rattle.std.proofs.lemmas.Bool.Decides.{nat_tests}
use Rattle.value_data.specs.Datum.{Items, no_items, item}
use Rattle.repl_reader.specs.Reading.{Bracket, FormReading, begins, closes, ends, breaks, Next}
use Rattle.repl_reader.specs.Reading.{settled, opens, marks, drops, next_in}
use Rattle.repl_reader.specs.Grammar.{Reads, plain, marked, marked_deep, opened, opened_deep}
use Rattle.repl_reader.specs.Grammar.{dropped, undropped, ReadsRow, last, more, wrapped_reading}
use Rattle.repl_reader.specs.Grammar.{enclosed_reading, nests_too_deep, most_nested}
use Rattle.repl_reader.specs.Inside.Laws.{EveryTextReads}
use Rattle.repl_reader.proofs.Shorter.{NextShorter, next_shorter, reads_shorter}

abbrev Found : ℕ → List ℕ → Type 0
Found depth text = (r : FormReading) × Reads depth text r

abbrev FoundRow : ℕ → List ℕ → Type 0
FoundRow depth text = (ds : Items) × (r : FormReading) × ReadsRow depth text ds r

-- all texts of less than a length, twice, are read
abbrev Reach : ℕ → Type 0
Reach n = (depth : ℕ) (text : List ℕ) → 2 * length text < n → Found depth text

abbrev ReachRow : ℕ → Type 0
ReachRow n = (depth : ℕ) (text : List ℕ) → 2 * length text + 1 < n → FoundRow depth text

has_room : (depth : ℕ) → (depth < most_nested) ⊎ (most_nested ≤ depth)
has_room depth = by_test (ltb depth most_nested) refl
  where
    by_test : (t : Bool) → t ≡ ltb depth most_nested → (depth < most_nested) ⊎ (most_nested ≤ depth)
    by_test true e = inl (grind (arith, nat_tests))
    by_test false e = inr (grind (arith, nat_tests))

by_mark : (depth : ℕ) (text name rest : List ℕ) → next_in text ≡ marks name rest → (depth < most_nested) ⊎ (most_nested ≤ depth) → Found (depth + 1) rest → Found depth text
by_mark depth text name rest e (inl k) f = (wrapped_reading name f.0, marked depth text name rest f.0 e k f.1)
by_mark depth text name rest e (inr k) f = (nests_too_deep rest, marked_deep depth text name rest e k)

by_opening : (depth : ℕ) (text rest : List ℕ) (b : Bracket) → next_in text ≡ opens b rest → (depth < most_nested) ⊎ (most_nested ≤ depth) → FoundRow (depth + 1) rest → Found depth text
by_opening depth text rest b e (inl k) f = (enclosed_reading b f.0 f.1, opened depth text rest b f.0 f.1 e k f.2)
by_opening depth text rest b e (inr k) f = (nests_too_deep rest, opened_deep depth text rest b e k)

by_drop : (n depth : ℕ) (text rest : List ℕ) → Reach n → 2 * length text ≤ n → length rest < length text → next_in text ≡ drops rest → (r : FormReading) → Reads depth rest r → Found depth text
by_drop n depth text rest reach h k e (begins d behind) i =
    let shorter : length behind < length rest = reads_shorter depth rest (begins d behind) i in
    let f = reach depth behind (omega arith) in (f.0, dropped depth text rest behind d f.0 e i f.1)
by_drop n depth text rest reach h k e (closes b behind) i = (_, undropped depth text rest (closes b behind) e i (λ x. x))
by_drop n depth text rest reach h k e ends i = (_, undropped depth text rest ends e i (λ x. x))
by_drop n depth text rest reach h k e (breaks f) i = (_, undropped depth text rest (breaks f) e i (λ x. x))

by_next : (n depth : ℕ) (text : List ℕ) → Reach n → ReachRow n → 2 * length text ≤ n → (x : Next) → next_in text ≡ x → NextShorter (length text) x → Found depth text
by_next n depth text reach reach_row h (settled r) e k = (r, plain depth text r e)
by_next n depth text reach reach_row h (opens b rest) e k = by_opening depth text rest b e (has_room depth) (reach_row (depth + 1) rest (omega arith))
by_next n depth text reach reach_row h (marks name rest) e k = by_mark depth text name rest e (has_room depth) (reach (depth + 1) rest (omega arith))
by_next n depth text reach reach_row h (drops rest) e k =
    let f = reach depth rest (omega arith) in by_drop n depth text rest reach h k e f.0 f.1

by_reading : (n depth : ℕ) (text : List ℕ) → ReachRow n → 2 * length text < n → (r : FormReading) → Reads depth text r → FoundRow depth text
by_reading n depth text reach_row h (begins d rest) i =
    let shorter : length rest < length text = reads_shorter depth text (begins d rest) i in
    let f = reach_row depth rest (omega arith) in (item d f.0, f.1, more depth text rest d f.0 f.1 i f.2)
by_reading n depth text reach_row h (closes b rest) i = (no_items, closes b rest, last depth text (closes b rest) i (λ x. x))
by_reading n depth text reach_row h ends i = (no_items, ends, last depth text ends i (λ x. x))
by_reading n depth text reach_row h (breaks f) i = (no_items, breaks f, last depth text (breaks f) i (λ x. x))

mutual
  found : (n : ℕ) → Reach n
  found zero depth text h = absurd (omega (arith, h))
  found (suc n) depth text h = by_next n depth text (found n) (found_row n) (omega (arith, h)) (next_in text) refl (next_shorter text)

  found_row : (n : ℕ) → ReachRow n
  found_row zero depth text h = absurd (omega (arith, h))
  found_row (suc n) depth text h =
      let inside : 2 * length text < n = omega (arith, h) in
      let f = found n depth text inside in by_reading n depth text (found_row n) inside f.0 f.1

pub every_text_reads : EveryTextReads
every_text_reads text =
    let f = found_row (2 * length text + 2) 0 text (omega arith) in (f.0, _, record { after = f.1; row = f.2; found = refl })
