-- What a text reads as once some forms at its front are dropped.
use Rattle.std.proofs.Common.{◌≡◌, ℕ, zero, suc, ◌⊎◌, inl, inr, List, refl, sym, ◌∙◌, subst}
use Rattle.value_data.specs.Datum.{Datum}
use Rattle.repl_reader.specs.Reading.{FormReading, begins, closes, ends, breaks, next_in, drops}
use Rattle.repl_reader.specs.Grammar.{Reads, dropped, undropped, IsForm, form_or_fault}

-- n forms are to be dropped first
abbrev pub Owed : ℕ → ℕ → List ℕ → FormReading → Type 0
Owed depth zero text r = Reads depth text r
Owed depth (suc n) text r =
    ((d : Datum) × (rest : List ℕ) × Reads depth text (begins d rest) × Owed depth n rest r)
    ⊎ ((s : FormReading) × Reads depth text s × (IsForm s → ⊥) × (r ≡ form_or_fault s))

wanted_twice : (s : FormReading) → form_or_fault (form_or_fault s) ≡ form_or_fault s
wanted_twice (begins d rest) = refl
wanted_twice (closes b rest) = refl
wanted_twice ends = refl
wanted_twice (breaks f) = refl

wanted_no_form : (s : FormReading) → (IsForm s → ⊥) → IsForm (form_or_fault s) → ⊥
wanted_no_form (begins d rest) h = h
wanted_no_form (closes b rest) h = λ x. x
wanted_no_form ends h = λ x. x
wanted_no_form (breaks f) h = λ x. x

owed_dropped : (depth n : ℕ) (text after rest : List ℕ) (d : Datum) (r : FormReading)
    → next_in text ≡ drops after → Reads depth after (begins d rest) → Owed depth n rest r → Owed depth n text r
owed_dropped depth zero text after rest d r e i o = dropped depth text after rest d r e i o
owed_dropped depth (suc n) text after rest d r e i (inl o) =
    inl (o.0, o.1, dropped depth text after rest d (begins o.0 o.1) e i o.2, o.3)
owed_dropped depth (suc n) text after rest d r e i (inr o) =
    inr (o.0, dropped depth text after rest d o.0 e i o.1, o.2, o.3)

owed_short : (depth n : ℕ) (text after : List ℕ) (s r : FormReading)
    → next_in text ≡ drops after → Reads depth after s → (IsForm s → ⊥) → r ≡ form_or_fault s → Owed depth n text r
owed_short depth zero text after s r e i h k = subst (λ (x : FormReading). Reads depth text x) (sym k) (undropped depth text after s e i h)
owed_short depth (suc n) text after s r e i h k =
    inr (form_or_fault s, undropped depth text after s e i h, wanted_no_form s h, k ∙ sym (wanted_twice s))

-- behind another `#_` one form more is to be dropped
pub owed_drops : (depth n : ℕ) (text after : List ℕ) (r : FormReading) → next_in text ≡ drops after → Owed depth (suc n) after r → Owed depth n text r
owed_drops depth n text after r e (inl o) = owed_dropped depth n text after o.1 o.0 r e o.2 o.3
owed_drops depth n text after r e (inr o) = owed_short depth n text after o.0 r e o.1 o.2 o.3
