-- Finite maps from numbers, through their changes.
use Rattle.std.proofs.Common.{◌≡◌, ℕ, List, [], ◌∷◌, Bool, true, false, if◌then◌else◌, ◌==◌, Option}
use Rattle.std.proofs.Common.{Some, None, option_map, refl, ap, ◌∙◌}
use Rattle.std.proofs.lemmas.Bool.{eq-eqb}
use Rattle.ref_table.specs.Numbered.{Entry, entry, part_under, with_part, without}

-- what is found in front of the rest
abbrev pub found_first : {A : Type 0} → Bool → A → Option A → Option A
found_first b part rest = if b then Some part else rest

abbrev pub replaced_first : {A : Type 0} → Bool → ℕ → A → Entry A → List (Entry A) → List (Entry A)
replaced_first b n x e es = if b then entry n x ∷ es else e ∷ with_part n x es

abbrev pub without_first : {A : Type 0} → Bool → Entry A → List (Entry A) → List (Entry A)
without_first b e rest = if b then rest else e ∷ rest

pub part_under-with_part : {A : Type 0} (n : ℕ) (x : A) (es : List (Entry A))
    → part_under n (with_part n x es) ≡ option_map (λ _. x) (part_under n es)
part_under-with_part n x [] = refl
part_under-with_part {A} n x (e ∷ es) = by (part_under-with_part n x es) (n == e.number) refl
  where
    by : part_under n (with_part n x es) ≡ option_map (λ _. x) (part_under n es)
        → (b : Bool) → (n == e.number) ≡ b
        → part_under n (replaced_first b n x e es)
        ≡ option_map (λ _. x) (found_first b e.part (part_under n es))
    by behind true same = ap (λ (b : Bool). found_first b x (part_under n es)) (eq-eqb n n refl)
    by behind false apart =
        ap (λ (b : Bool). found_first b e.part (part_under n (with_part n x es))) apart ∙ behind

-- of two changes under one number the later stays
pub with_part-twice : {A : Type 0} (n : ℕ) (x y : A) (es : List (Entry A))
    → with_part n x (with_part n y es) ≡ with_part n x es
with_part-twice n x y [] = refl
with_part-twice {A} n x y (e ∷ es) = by (with_part-twice n x y es) (n == e.number) refl
  where
    by : with_part n x (with_part n y es) ≡ with_part n x es → (b : Bool) → (n == e.number) ≡ b
        → with_part n x (replaced_first b n y e es) ≡ replaced_first b n x e es
    by behind true same = ap (λ (b : Bool). replaced_first b n x (entry n y) es) (eq-eqb n n refl)
    by behind false apart =
        ap (λ (b : Bool). replaced_first b n x e (with_part n y es)) apart
        ∙ ap (λ (l : List (Entry A)). e ∷ l) behind

pub without-with_part : {A : Type 0} (n : ℕ) (y : A) (es : List (Entry A))
    → without n (with_part n y es) ≡ without n es
without-with_part n y [] = refl
without-with_part {A} n y (e ∷ es) = by (without-with_part n y es) (n == e.number) refl
  where
    by : without n (with_part n y es) ≡ without n es → (b : Bool) → (n == e.number) ≡ b
        → without n (replaced_first b n y e es) ≡ without_first b e (without n es)
    by behind true same =
        ap (λ (b : Bool). without_first b (entry n y) (without n es)) (eq-eqb n n refl)
    by behind false apart =
        ap (λ (b : Bool). without_first b e (without n (with_part n y es))) apart
        ∙ ap (λ (l : List (Entry A)). e ∷ l) behind

-- a number under which there is nothing
pub with_part-nothing : {A : Type 0} (n : ℕ) (x : A) (es : List (Entry A))
    → part_under n es ≡ None → with_part n x es ≡ es
with_part-nothing n x [] absent = refl
with_part-nothing {A} n x (e ∷ es) absent =
    by (λ h. with_part-nothing n x es h) (n == e.number) absent
  where
    by : (part_under n es ≡ None → with_part n x es ≡ es) → (b : Bool)
        → found_first b e.part (part_under n es) ≡ None → replaced_first b n x e es ≡ e ∷ es
    by behind true h = absurd (cc)
    by behind false h = ap (λ (l : List (Entry A)). e ∷ l) (behind h)

pub without-nothing : {A : Type 0} (n : ℕ) (es : List (Entry A))
    → part_under n es ≡ None → without n es ≡ es
without-nothing n [] absent = refl
without-nothing {A} n (e ∷ es) absent = by (λ h. without-nothing n es h) (n == e.number) absent
  where
    by : (part_under n es ≡ None → without n es ≡ es) → (b : Bool)
        → found_first b e.part (part_under n es) ≡ None → without_first b e (without n es) ≡ e ∷ es
    by behind true h = absurd (cc)
    by behind false h = ap (λ (l : List (Entry A)). e ∷ l) (behind h)
