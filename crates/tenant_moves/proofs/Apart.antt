-- Changes of lists of entries at two numbers, and behind all entries.
use Rattle.std.proofs.Common.{◌≡◌, ℕ, ◌<◌, ◌≤◌, ◌==◌, Bool, true, false, List, [], ◌∷◌, ◌++◌, Some}
use Rattle.std.proofs.Common.{None, refl, sym, ap, ◌∙◌, arith}
use Rattle.std.proofs.lemmas.Bool.{eqb-true, eq-eqb, ne_eqb}
use Rattle.ref_table.specs.Numbered.{Entry, entry, part_under, with_part, without}
use Rattle.server_rules.specs.Tenant.{ActorData}
use Rattle.tenant_parts.specs.View.{AreBelow}
use Rattle.tenant_parts.proofs.EntryLaws.{found_first, replaced_first, without_first}

-- two numbers are not both that of an entry
abbrev Two : ℕ → ℕ → ℕ → Type 0
Two n m k = (n == k) ≡ true → (m == k) ≡ true → ⊥

two : (n m k : ℕ) → (n ≡ m → ⊥) → Two n m k
two n m k apart i j = apart (eqb-true n k i ∙ sym (eqb-true m k j))

pub part_under-with_part-apart : {A : Type 0} (n m : ℕ) (x : A) (es : List (Entry A)) → (n ≡ m → ⊥)
    → part_under n (with_part m x es) ≡ part_under n es
part_under-with_part-apart n m x [] apart = refl
part_under-with_part-apart {A} n m x (e ∷ es) apart =
    by (m == e.number) (n == e.number) refl refl (part_under-with_part-apart n m x es apart)
  where
    by : (b c : Bool) → (m == e.number) ≡ b → (n == e.number) ≡ c → part_under n (with_part m x es) ≡ part_under n es
        → part_under n (replaced_first b m x e es) ≡ found_first c e.part (part_under n es)
    by true true i j ih = absurd (two n m e.number apart j i)
    by true false i j ih = ap (λ (b : Bool). found_first b x (part_under n es)) (ne_eqb n m apart)
    by false c i j ih =
        ap (λ (b : Bool). found_first b e.part (part_under n (with_part m x es))) j
        ∙ ap (found_first c e.part) ih

pub part_under-without-apart : {A : Type 0} (n m : ℕ) (es : List (Entry A)) → (n ≡ m → ⊥)
    → part_under n (without m es) ≡ part_under n es
part_under-without-apart n m [] apart = refl
part_under-without-apart {A} n m (e ∷ es) apart =
    by (m == e.number) (n == e.number) refl refl (part_under-without-apart n m es apart)
  where
    by : (b c : Bool) → (m == e.number) ≡ b → (n == e.number) ≡ c → part_under n (without m es) ≡ part_under n es
        → part_under n (without_first b e (without m es)) ≡ found_first c e.part (part_under n es)
    by true true i j ih = absurd (two n m e.number apart j i)
    by true false i j ih = ih
    by false c i j ih =
        ap (λ (b : Bool). found_first b e.part (part_under n (without m es))) j
        ∙ ap (found_first c e.part) ih

pub with_part-with_part-apart : {A : Type 0} (n m : ℕ) (x y : A) (es : List (Entry A)) → (n ≡ m → ⊥)
    → with_part n x (with_part m y es) ≡ with_part m y (with_part n x es)
with_part-with_part-apart n m x y [] apart = refl
with_part-with_part-apart {A} n m x y (e ∷ es) apart =
    by (m == e.number) (n == e.number) refl refl (with_part-with_part-apart n m x y es apart)
  where
    by : (b c : Bool) → (m == e.number) ≡ b → (n == e.number) ≡ c
        → with_part n x (with_part m y es) ≡ with_part m y (with_part n x es)
        → with_part n x (replaced_first b m y e es) ≡ with_part m y (replaced_first c n x e es)
    by true true i j ih = absurd (two n m e.number apart j i)
    by true false i j ih =
        ap (λ (b : Bool). replaced_first b n x (entry m y) es) (ne_eqb n m apart)
        ∙ sym (ap (λ (b : Bool). replaced_first b m y e (with_part n x es)) i)
    by false true i j ih =
        ap (λ (b : Bool). replaced_first b n x e (with_part m y es)) j
        ∙ sym (ap (λ (b : Bool). replaced_first b m y (entry n x) es) (ne_eqb m n (λ same. apart (sym same))))
    by false false i j ih =
        ap (λ (b : Bool). replaced_first b n x e (with_part m y es)) j
        ∙ ap (λ (l : List (Entry A)). e ∷ l) ih
        ∙ sym (ap (λ (b : Bool). replaced_first b m y e (with_part n x es)) i)

pub with_part-without-apart : {A : Type 0} (n m : ℕ) (x : A) (es : List (Entry A)) → (n ≡ m → ⊥)
    → with_part n x (without m es) ≡ without m (with_part n x es)
with_part-without-apart n m x [] apart = refl
with_part-without-apart {A} n m x (e ∷ es) apart =
    by (m == e.number) (n == e.number) refl refl (with_part-without-apart n m x es apart)
  where
    by : (b c : Bool) → (m == e.number) ≡ b → (n == e.number) ≡ c
        → with_part n x (without m es) ≡ without m (with_part n x es)
        → with_part n x (without_first b e (without m es)) ≡ without m (replaced_first c n x e es)
    by true true i j ih = absurd (two n m e.number apart j i)
    by true false i j ih = ih ∙ sym (ap (λ (b : Bool). without_first b e (without m (with_part n x es))) i)
    by false true i j ih =
        ap (λ (b : Bool). replaced_first b n x e (without m es)) j
        ∙ sym (ap (λ (b : Bool). without_first b (entry n x) (without m es)) (ne_eqb m n (λ same. apart (sym same))))
    by false false i j ih =
        ap (λ (b : Bool). replaced_first b n x e (without m es)) j
        ∙ ap (λ (l : List (Entry A)). e ∷ l) ih
        ∙ sym (ap (λ (b : Bool). without_first b e (without m (with_part n x es))) i)

pub without-without : {A : Type 0} (n m : ℕ) (es : List (Entry A))
    → without n (without m es) ≡ without m (without n es)
without-without n m [] = refl
without-without {A} n m (e ∷ es) = by (m == e.number) (n == e.number) refl refl (without-without n m es)
  where
    by : (b c : Bool) → (m == e.number) ≡ b → (n == e.number) ≡ c
        → without n (without m es) ≡ without m (without n es)
        → without n (without_first b e (without m es)) ≡ without m (without_first c e (without n es))
    by true true i j ih = ih
    by true false i j ih = ih ∙ sym (ap (λ (b : Bool). without_first b e (without m (without n es))) i)
    by false true i j ih = ap (λ (b : Bool). without_first b e (without n (without m es))) j ∙ ih
    by false false i j ih =
        ap (λ (b : Bool). without_first b e (without n (without m es))) j
        ∙ ap (λ (l : List (Entry A)). e ∷ l) ih
        ∙ sym (ap (λ (b : Bool). without_first b e (without m (without n es))) i)

-- an entry behind the others
pub part_under-added : {A : Type 0} (n m : ℕ) (x : A) (es : List (Entry A)) → (n ≡ m → ⊥)
    → part_under n (es ++ entry m x ∷ []) ≡ part_under n es
part_under-added n m x [] apart = ap (λ (b : Bool). found_first b x None) (ne_eqb n m apart)
part_under-added n m x (e ∷ es) apart = ap (found_first (n == e.number) e.part) (part_under-added n m x es apart)

pub with_part-added : {A : Type 0} (n m : ℕ) (x y : A) (es : List (Entry A)) → (n ≡ m → ⊥)
    → with_part n y (es ++ entry m x ∷ []) ≡ with_part n y es ++ entry m x ∷ []
with_part-added n m x y [] apart = ap (λ (b : Bool). replaced_first b n y (entry m x) []) (ne_eqb n m apart)
with_part-added {A} n m x y (e ∷ es) apart = by (n == e.number) (with_part-added n m x y es apart)
  where
    by : (b : Bool) → with_part n y (es ++ entry m x ∷ []) ≡ with_part n y es ++ entry m x ∷ []
        → replaced_first b n y e (es ++ entry m x ∷ []) ≡ replaced_first b n y e es ++ entry m x ∷ []
    by true ih = refl
    by false ih = ap (λ (l : List (Entry A)). e ∷ l) ih

pub without-added : {A : Type 0} (n m : ℕ) (x : A) (es : List (Entry A)) → (n ≡ m → ⊥)
    → without n (es ++ entry m x ∷ []) ≡ without n es ++ entry m x ∷ []
without-added n m x [] apart = ap (λ (b : Bool). without_first b (entry m x) []) (ne_eqb n m apart)
without-added {A} n m x (e ∷ es) apart = by (n == e.number) (without-added n m x es apart)
  where
    by : (b : Bool) → without n (es ++ entry m x ∷ []) ≡ without n es ++ entry m x ∷ []
        → without_first b e (without n (es ++ entry m x ∷ [])) ≡ without_first b e (without n es) ++ entry m x ∷ []
    by true ih = ih
    by false ih = ap (λ (l : List (Entry A)). e ∷ l) ih

-- actors with lower seats
pub part_under-below : (n m : ℕ) (x : ActorData) (es : List (Entry ActorData)) → AreBelow m es → part_under n es ≡ Some x → n < m
part_under-below n m x [] below is = absurd (cc)
part_under-below n m x (e ∷ es) below is =
    by (n == e.number) (λ same. eqb-true n e.number same) is (λ later. part_under-below n m x es below.1 later)
  where
    by : (b : Bool) → (b ≡ true → n ≡ e.number) → found_first b e.part (part_under n es) ≡ Some x
        → (part_under n es ≡ Some x → n < m) → n < m
    by true same is ih = omega (arith, same refl, below.0)
    by false same is ih = ih is

pub newest-out : (m : ℕ) (x : ActorData) (es : List (Entry ActorData)) → AreBelow m es → without m (es ++ entry m x ∷ []) ≡ es
newest-out m x [] below = ap (λ (b : Bool). without_first b (entry m x) []) (eq-eqb m m refl)
newest-out m x (e ∷ es) below =
    ap (λ (b : Bool). without_first b e (without m (es ++ entry m x ∷ []))) (ne_eqb m e.number (λ same. omega (arith, same, below.0)))
    ∙ ap (λ (l : List (Entry ActorData)). e ∷ l) (newest-out m x es below.1)

pub below-more : (m k : ℕ) (es : List (Entry ActorData)) → m ≤ k → AreBelow m es → AreBelow k es
below-more m k [] le below = tt
below-more m k (e ∷ es) le below = (omega (arith, le, below.0), below-more m k es le below.1)

pub below-added : (m k : ℕ) (x : ActorData) (es : List (Entry ActorData)) → k < m → AreBelow m es → AreBelow m (es ++ entry k x ∷ [])
below-added m k x [] lt below = (lt, tt)
below-added m k x (e ∷ es) lt below = (below.0, below-added m k x es lt below.1)

pub below-with_part : (m n : ℕ) (x : ActorData) (es : List (Entry ActorData)) → AreBelow m es → AreBelow m (with_part n x es)
below-with_part m n x [] below = tt
below-with_part m n x (e ∷ es) below = by (n == e.number) (λ same. eqb-true n e.number same) (below-with_part m n x es below.1)
  where
    by : (b : Bool) → (b ≡ true → n ≡ e.number) → AreBelow m (with_part n x es) → AreBelow m (replaced_first b n x e es)
    by true same ih = (omega (arith, same refl, below.0), below.1)
    by false same ih = (below.0, ih)

pub below-without : (m n : ℕ) (es : List (Entry ActorData)) → AreBelow m es → AreBelow m (without n es)
below-without m n [] below = tt
below-without m n (e ∷ es) below = by (n == e.number) (below-without m n es below.1)
  where
    by : (b : Bool) → AreBelow m (without n es) → AreBelow m (without_first b e (without n es))
    by true ih = ih
    by false ih = (below.0, ih)
