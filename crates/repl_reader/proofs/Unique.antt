-- A text has one reading.
use Rattle.std.proofs.Common.{◌≡◌, ℕ, ◌+◌, ◌<◌, ◌≤◌, ◌⊎◌, inl, inr, List, length, refl, sym, ap}
use Rattle.std.proofs.Common.{◌∙◌, arith, subst}
use Rattle.value_data.specs.Datum.{Datum, Items, no_items, item}
use Rattle.repl_reader.specs.Reading.{Bracket, FormReading, begins, Next, settled, opens, marks}
use Rattle.repl_reader.specs.Reading.{drops, next_in}
use Rattle.repl_reader.specs.Grammar.{Reads, plain, marked, marked_deep, opened, opened_deep}
use Rattle.repl_reader.specs.Grammar.{dropped, undropped, ReadsRow, last, more, IsForm, form_or_fault}
use Rattle.repl_reader.specs.Grammar.{wrapped_reading, enclosed_reading, nests_too_deep, most_nested}
use Rattle.repl_reader.specs.Grammar.{placed_option, last_break}
use Rattle.repl_reader.specs.Inside.Laws.{ReadingsAreUnique}

-- what a reading came from, by what comes next in its text
abbrev After : ℕ → Next → FormReading → Type 0
After depth (settled s) r = r ≡ s
After depth (opens b rest) r =
    ((ds : Items) × (s : FormReading) × (depth < most_nested) × ReadsRow (depth + 1) rest ds s × (r ≡ enclosed_reading b ds s)) ⊎ ((most_nested ≤ depth) × (r ≡ nests_too_deep rest))
After depth (marks name rest) r =
    ((s : FormReading) × (depth < most_nested) × Reads (depth + 1) rest s × (r ≡ wrapped_reading name s)) ⊎ ((most_nested ≤ depth) × (r ≡ nests_too_deep rest))
After depth (drops rest) r =
    ((d : Datum) × (behind : List ℕ) × Reads depth rest (begins d behind) × Reads depth behind r) ⊎ ((s : FormReading) × Reads depth rest s × (IsForm s → ⊥) × (r ≡ form_or_fault s))

along : (depth : ℕ) (text : List ℕ) (r : FormReading) (x y : Next) → next_in text ≡ x → next_in text ≡ y → After depth x r → After depth y r
along depth text r x y e h a = subst (λ (z : Next). After depth z r) (sym e ∙ h) a

after : (depth : ℕ) (text : List ℕ) (r : FormReading) → Reads depth text r → (x : Next) → next_in text ≡ x → After depth x r
after _ _ _ (plain depth text r e) x h = along depth text r _ x e h refl
after _ _ _ (marked depth text name rest r e k i) x h = along depth text (wrapped_reading name r) _ x e h (inl (r, k, i, refl))
after _ _ _ (marked_deep depth text name rest e k) x h = along depth text (nests_too_deep rest) _ x e h (inr (k, refl))
after _ _ _ (opened depth text rest b ds r e k i) x h = along depth text (enclosed_reading b ds r) _ x e h (inl (ds, r, k, i, refl))
after _ _ _ (opened_deep depth text rest b e k) x h = along depth text (nests_too_deep rest) _ x e h (inr (k, refl))
after _ _ _ (dropped depth text rest behind d r e i j) x h = along depth text r _ x e h (inl (d, behind, i, j))
after _ _ _ (undropped depth text rest r e i k) x h = along depth text (form_or_fault r) _ x e h (inr (r, i, k, refl))

abbrev RowAfter : ℕ → List ℕ → Items → FormReading → Type 0
RowAfter depth text no_items r = Reads depth text r × (IsForm r → ⊥)
RowAfter depth text (item d ds) r = (rest : List ℕ) × Reads depth text (begins d rest) × ReadsRow depth rest ds r

row_after : (depth : ℕ) (text : List ℕ) (ds : Items) (r : FormReading) → ReadsRow depth text ds r → RowAfter depth text ds r
row_after _ _ _ _ (last depth text r i h) = (i, h)
row_after _ _ _ _ (more depth text rest d ds r i j) = (rest, i, j)

-- that whatever else is read there is this
abbrev Only : ℕ → List ℕ → FormReading → Type 0
Only depth text r = (s : FormReading) → Reads depth text s → r ≡ s

abbrev OnlyRow : ℕ → List ℕ → Items → FormReading → Type 0
OnlyRow depth text ds r = (es : Items) (s : FormReading) → ReadsRow depth text es s → (ds ≡ es) × (r ≡ s)

only_marked : (depth : ℕ) (name rest : List ℕ) (r s : FormReading) → depth < most_nested → Only (depth + 1) rest r → After depth (marks name rest) s → wrapped_reading name r ≡ s
only_marked depth name rest r s k only (inl a) = ap (wrapped_reading name) (only a.0 a.2) ∙ sym a.3
only_marked depth name rest r s k only (inr a) = absurd (omega (arith, k, a.0))

only_marked_deep : (depth : ℕ) (name rest : List ℕ) (s : FormReading) → most_nested ≤ depth → After depth (marks name rest) s → nests_too_deep rest ≡ s
only_marked_deep depth name rest s k (inl a) = absurd (omega (arith, k, a.1))
only_marked_deep depth name rest s k (inr a) = sym a.1

only_opened : (depth : ℕ) (b : Bracket) (rest : List ℕ) (ds : Items) (r s : FormReading) → depth < most_nested → OnlyRow (depth + 1) rest ds r → After depth (opens b rest) s → enclosed_reading b ds r ≡ s
only_opened depth b rest ds r s k only (inl a) =
    let same = only a.0 a.1 a.3 in ap (λ (es : Items). enclosed_reading b es r) same.0 ∙ ap (enclosed_reading b a.0) same.1 ∙ sym a.4
only_opened depth b rest ds r s k only (inr a) = absurd (omega (arith, k, a.0))

only_opened_deep : (depth : ℕ) (b : Bracket) (rest : List ℕ) (s : FormReading) → most_nested ≤ depth → After depth (opens b rest) s → nests_too_deep rest ≡ s
only_opened_deep depth b rest s k (inl a) = absurd (omega (arith, k, a.2))
only_opened_deep depth b rest s k (inr a) = sym a.1

form_of : (r s : FormReading) → r ≡ s → IsForm r → IsForm s
form_of r s e h = subst IsForm e h

same_rest : (d e : Datum) (rest behind : List ℕ) → begins d rest ≡ begins e behind → rest ≡ behind
same_rest d e rest behind h = cc

same_form : (d e : Datum) (rest behind : List ℕ) → begins d rest ≡ begins e behind → d ≡ e
same_form d e rest behind h = cc

only_dropped : (depth : ℕ) (rest behind : List ℕ) (d : Datum) (r s : FormReading) → Only depth rest (begins d behind) → Only depth behind r → After depth (drops rest) s → r ≡ s
only_dropped depth rest behind d r s first then_ (inl a) =
    then_ s (subst (λ (x : List ℕ). Reads depth x s) (sym (same_rest d a.0 behind a.1 (first (begins a.0 a.1) a.2))) a.3)
only_dropped depth rest behind d r s first then_ (inr a) = absurd (a.2 (form_of (begins d behind) a.0 (first a.0 a.1) tt))

only_undropped : (depth : ℕ) (rest : List ℕ) (r s : FormReading) → Only depth rest r → (IsForm r → ⊥) → After depth (drops rest) s → form_or_fault r ≡ s
only_undropped depth rest r s only k (inl a) = absurd (k (form_of (begins a.0 a.1) r (sym (only (begins a.0 a.1) a.2)) tt))
only_undropped depth rest r s only k (inr a) = ap form_or_fault (only a.0 a.1) ∙ sym a.3

only_last : (depth : ℕ) (text : List ℕ) (r : FormReading) (es : Items) (s : FormReading) → Only depth text r → (IsForm r → ⊥) → RowAfter depth text es s → (no_items ≡ es) × (r ≡ s)
only_last depth text r no_items s only k a = (refl, only s a.0)
only_last depth text r (item e es) s only k a = absurd (k (form_of (begins e a.0) r (sym (only (begins e a.0) a.1)) tt))

only_more : (depth : ℕ) (text rest : List ℕ) (d : Datum) (ds : Items) (r : FormReading) (es : Items) (s : FormReading)
    → Only depth text (begins d rest) → OnlyRow depth rest ds r → RowAfter depth text es s → (item d ds ≡ es) × (r ≡ s)
only_more depth text rest d ds r no_items s first then_ a = absurd (a.1 (form_of (begins d rest) s (first s a.0) tt))
only_more depth text rest d ds r (item e es) s first then_ a =
    let h = first (begins e a.0) a.1 in
    let same = then_ es s (subst (λ (x : List ℕ). ReadsRow depth x es s) (sym (same_rest d e rest a.0 h)) a.2) in
    (ap (λ (x : Datum). item x ds) (same_form d e rest a.0 h) ∙ ap (item e) same.0, same.1)

mutual
  only_reading : (depth : ℕ) (text : List ℕ) (r : FormReading) → Reads depth text r → Only depth text r
  only_reading _ _ _ (plain depth text r e) = λ s j. sym (after depth text s j _ e)
  only_reading _ _ _ (marked depth text name rest r e k i) = λ s j. only_marked depth name rest r s k (only_reading _ _ _ i) (after depth text s j _ e)
  only_reading _ _ _ (marked_deep depth text name rest e k) = λ s j. only_marked_deep depth name rest s k (after depth text s j _ e)
  only_reading _ _ _ (opened depth text rest b ds r e k i) = λ s j. only_opened depth b rest ds r s k (only_row _ _ _ _ i) (after depth text s j _ e)
  only_reading _ _ _ (opened_deep depth text rest b e k) = λ s j. only_opened_deep depth b rest s k (after depth text s j _ e)
  only_reading _ _ _ (dropped depth text rest behind d r e i i') = λ s j. only_dropped depth rest behind d r s (only_reading _ _ _ i) (only_reading _ _ _ i') (after depth text s j _ e)
  only_reading _ _ _ (undropped depth text rest r e i k) = λ s j. only_undropped depth rest r s (only_reading _ _ _ i) k (after depth text s j _ e)

  only_row : (depth : ℕ) (text : List ℕ) (ds : Items) (r : FormReading) → ReadsRow depth text ds r → OnlyRow depth text ds r
  only_row _ _ _ _ (last depth text r i k) = λ es s j. only_last depth text r es s (only_reading _ _ _ i) k (row_after depth text es s j)
  only_row _ _ _ _ (more depth text rest d ds r i i') = λ es s j. only_more depth text rest d ds r es s (only_reading _ _ _ i) (only_row _ _ _ _ i') (row_after depth text es s j)

pub readings_are_unique : ReadingsAreUnique
readings_are_unique text ds es fault other x y =
    let same = only_row 0 text ds x.after x.row es y.after y.row in
    (same.0, x.found ∙ ap (λ (r : FormReading). placed_option (length text) (last_break r)) same.1 ∙ sym y.found)
