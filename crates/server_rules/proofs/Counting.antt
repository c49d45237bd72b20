-- Stamps fall from the newest on, so that a read point is as good as the number of versions at or
-- before it.
use Rattle.std.proofs.Common.{◌≡◌, ℕ, zero, suc, ◌+◌, ◌-◌, ◌<◌, ◌≤◌, List, [], ◌∷◌, true, false}
use Rattle.std.proofs.Common.{Some, None, refl, sym, ap, ◌∙◌, map, length, take, drop}
use Rattle.std.proofs.Common.{nat_lt, nat_le, arith, inl, inr, if◌then◌else◌}
use Rattle.std.proofs.lemmas.Bool.{cases_Bool, leb-true, leb-false, le-leb, lt-leb, lt-ltb, le-ltb}
use Rattle.std.proofs.lemmas.List.{length-map}
use Rattle.std.proofs.Math.Seq.{drop-nil}
use Rattle.value_data.specs.Datum.{Datum}
use Rattle.ref_history.specs.Versioned.{Version, Ref, at_point, newest, is_newer, with_version}
use Rattle.server_rules.specs.Isolation.View.{content_of, count_at}
use Rattle.server_rules.proofs.Seen.{first}

-- stamps fall from the newest on, and none is above a point
abbrev pub Fall : ℕ → List Version → Type 0
Fall top [] = Unit {0}
Fall top (v ∷ vs) = (v.stamp ≤ top) × Fall v.stamp vs

pub Fall-higher : (a b : ℕ) (vs : List Version) → a ≤ b → Fall a vs → Fall b vs
Fall-higher a b [] above f = tt
Fall-higher a b (v ∷ vs) above f = (omega (arith, f.0), f.1)

pub count_at-all : (top p : ℕ) (vs : List Version) → Fall top vs → top ≤ p
    → count_at p vs ≡ length vs
count_at-all top p [] f above = refl
count_at-all top p (v ∷ vs) f above =
    let before : v.stamp ≤ p = omega (arith, f.0) in
    ap (λ b. if b then count_at p vs + 1 else count_at p vs) (le-leb v.stamp p before)
    ∙ grind (arith, count_at-all v.stamp p vs f.1 before)

count_at-length : (p : ℕ) (vs : List Version) → count_at p vs ≤ length vs
count_at-length p [] = omega arith
count_at-length p (v ∷ vs) =
    elim (nat_le v.stamp p)
    as (λ b. (if b then count_at p vs + 1 else count_at p vs) ≤ length (v ∷ vs)) [
      | true ↦ omega (arith, count_at-length p vs)
      | false ↦ omega (arith, count_at-length p vs)
    ]

first-drop-nil : (n : ℕ) → first (drop n []) ≡ None
first-drop-nil n = ap first (drop-nil n)

drop-one-more : (m n : ℕ) (x : Datum) (xs : List Datum) → n ≤ m
    → drop (suc m - n) (x ∷ xs) ≡ drop (m - n) xs
drop-one-more m n x xs h =
    let e : suc m - n ≡ suc (m - n) = omega arith in ap (λ k. drop k (x ∷ xs)) e

drop-none : (m n : ℕ) (xs : List Datum) → n ≡ m → drop (m - n) xs ≡ xs
drop-none m n xs e = let z : m - n ≡ 0 = omega arith in ap (λ k. drop k xs) z

pub read-count : (top p k : ℕ) (vs : List Version) → Fall top vs
    → first (drop (length (map content_of vs) - count_at p vs) (take k (map content_of vs)))
    ≡ at_point p (take k vs)
read-count top p zero [] f = first-drop-nil 0
read-count top p (suc k) [] f = first-drop-nil 0
read-count top p zero (v ∷ vs) f =
    first-drop-nil (length (map content_of (v ∷ vs)) - count_at p (v ∷ vs))
read-count top p (suc k) (v ∷ vs) f = elim (cases_Bool (nat_le v.stamp p)) [
  | inl before ↦
      let all : count_at p vs ≡ length (map content_of vs) =
      count_at-all v.stamp p vs f.1 (leb-true v.stamp p before)
      ∙ sym (length-map vs content_of) in
      let here : count_at p (v ∷ vs) ≡ suc (length (map content_of vs)) =
      ap (λ b. if b then count_at p vs + 1 else count_at p vs) before ∙ omega (arith, all) in
      ap first (drop-none (suc (length (map content_of vs))) (count_at p (v ∷ vs))
      (v.content ∷ take k (map content_of vs)) here)
      ∙ sym (ap (λ b. if b then Some v.content else at_point p (take k vs)) before)
  | inr later ↦
      let here : count_at p (v ∷ vs) ≡ count_at p vs =
      ap (λ b. if b then count_at p vs + 1 else count_at p vs) later in
      let fits : count_at p (v ∷ vs) ≤ length (map content_of vs) =
      omega (arith, here, count_at-length p vs, length-map vs content_of) in
      ap first (drop-one-more (length (map content_of vs)) (count_at p (v ∷ vs)) v.content
      (take k (map content_of vs)) fits
      ∙ ap (λ n. drop (length (map content_of vs) - n) (take k (map content_of vs))) here)
      ∙ read-count v.stamp p k vs f.1
      ∙ sym (ap (λ b. if b then Some v.content else at_point p (take k vs)) later)
]

pub newer-count : (top p : ℕ) (vs : List Version) → Fall top vs
    → nat_lt (count_at p vs) (length (map content_of vs)) ≡ is_newer p vs
newer-count top p [] f = refl
newer-count top p (v ∷ vs) f = elim (cases_Bool (nat_le v.stamp p)) [
  | inl before ↦
      let all : count_at p vs ≡ length vs =
      count_at-all v.stamp p vs f.1 (leb-true v.stamp p before) in
      let here : count_at p (v ∷ vs) ≡ suc (length vs) =
      ap (λ b. if b then count_at p vs + 1 else count_at p vs) before ∙ omega (arith, all) in
      le-ltb (count_at p (v ∷ vs)) (suc (length (map content_of vs)))
      (omega (arith, here, length-map vs content_of))
      ∙ sym (le-ltb p v.stamp (leb-true v.stamp p before))
  | inr later ↦
      let here : count_at p (v ∷ vs) ≡ count_at p vs =
      ap (λ b. if b then count_at p vs + 1 else count_at p vs) later in
      lt-ltb (count_at p (v ∷ vs)) (suc (length (map content_of vs)))
      (omega (arith, here, count_at-length p vs, length-map vs content_of))
      ∙ sym (lt-ltb p v.stamp (leb-false v.stamp p later))
]

pub newest-first : (vs : List Version) → first (map content_of vs) ≡ newest vs
newest-first [] = refl
newest-first (v ∷ vs) = refl

-- a version after the point is not counted
pub count_at-later : (p stamp : ℕ) (d : Datum) (r : Ref) → p < stamp
    → count_at p (with_version (record { stamp = stamp; content = d }) r).versions
    ≡ count_at p r.versions
count_at-later p stamp d r h =
    ap (λ b. if b then count_at p r.versions + 1 else count_at p r.versions) (lt-leb stamp p h)
