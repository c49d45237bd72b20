-- The index of the pairs that are left once one is taken out.
use Rattle.std.proofs.Common.{◌≡◌, ⊎_elim, ℕ, zero, suc, ◌+◌, ◌-◌, ◌<◌, ◌≤◌, min, List, [], ◌∷◌, length, get_or, refl, sym, ap, ◌∙◌, subst, arith}
use Rattle.std.specs.List.{Contains, remove}
use Rattle.std.proofs.lemmas.Bool.{cases_lt}
use Rattle.std.proofs.lemmas.List.{length-map, get_or-map}
use Rattle.std.proofs.lemmas.List.Edits.{length-remove}
use Rattle.chunked_list.specs.Places.{lowered, without_place}
use Rattle.chunked_list.proofs.Tickets.{removed-at}
use Rattle.value_data.specs.Datum.{Datum, Pairs}
use Rattle.value_data.specs.Same.{size}
use Rattle.value_data.specs.Inside.Order.{SortKey, order}
use Rattle.value_data.specs.Inside.Index.{key_at, Indexes, IsRanked}
use Rattle.value_data.specs.Listed.{pairs_of}
use Rattle.value_data.proofs.Sameness.{size-pairs_of}
use Rattle.value_data.proofs.Searching.{not-below, any-default}

-- a key that is left stands at its lowered place
key-left : (qs : List (Datum × Datum)) (p m : ℕ) → p < length qs → m < length qs → (m ≡ p → ⊥) → key_at (pairs_of (remove qs p)) (lowered p m) ≡ key_at (pairs_of qs) m
key-left [] p m h l f = absurd (omega (arith, h))
key-left (q ∷ qs) zero zero h l f = absurd (f refl)
key-left (q ∷ qs) zero (suc m) h l f = let e : lowered 0 (suc m) ≡ m = omega arith in ap (key_at (pairs_of qs)) e
key-left (q ∷ qs) (suc p) zero h l f = let e : lowered (suc p) 0 ≡ 0 = omega arith in ap (key_at (pairs_of (remove (q ∷ qs) (suc p)))) e
key-left (q ∷ qs) (suc p) (suc m) h l f =
    let e : lowered (suc p) (suc m) ≡ suc (lowered p m) = omega arith in
    ap (key_at (pairs_of (remove (q ∷ qs) (suc p)))) e
    ∙ key-left qs p m (omega (arith, h)) (omega (arith, l)) (λ g. f (ap suc g))

module _ (qs : List (Datum × Datum)) (ns : List ℕ) (rank : ℕ) (h : Indexes ns (pairs_of qs)) (fits : rank < length ns) where
  abbrev place : ℕ
  place = get_or ns rank 0

  abbrev left : List ℕ
  left = without_place rank ns

  abbrev rest : Pairs
  rest = pairs_of (remove qs place)

  inside : (k : ℕ) → k < length ns → get_or ns k 0 < length qs
  inside k l = omega (arith, h.within k 0 l, size-pairs_of qs)

  shorter : length (remove qs place) + 1 ≡ length qs
  shorter = length-remove qs place (inside rank fits)

  long : length left + 1 ≡ length ns
  long = omega (arith, length-map (remove ns rank) (lowered place), length-remove ns rank fits)

  -- the place of another rank is another
  apart : (k : ℕ) → k < length ns → (k ≡ rank → ⊥) → get_or ns k 0 ≡ place → ⊥
  apart k l f e =
      ⊎_elim
      (λ (a : k < rank). not-below _ _ (ap (key_at (pairs_of qs)) e) (h.ascending k rank a fits))
      (λ (a : rank ≤ k).
      ⊎_elim
      (λ (b : rank < k). not-below _ _ (ap (key_at (pairs_of qs)) (sym e)) (h.ascending rank k b l))
      (λ (b : k ≤ rank). let same : k ≡ rank = omega (arith, a, b) in f same)
      (cases_lt rank k))
      (cases_lt k rank)

  abbrev up : ℕ → ℕ
  up k = k + min 1 (suc k - rank)

  other : (k : ℕ) → up k ≡ rank → ⊥
  other k e = omega (arith, e)

  goes : (k : ℕ) → k < length left → get_or left k 0 ≡ lowered place (get_or ns (up k) 0)
  goes k l =
      get_or-map (lowered place) (remove ns rank) k 0 0 (omega (arith, l, length-map (remove ns rank) (lowered place)))
      ∙ ap (lowered place) (removed-at ns rank k fits)

  key : (k : ℕ) → k < length left → key_at rest (get_or left k 0) ≡ key_at (pairs_of qs) (get_or ns (up k) 0)
  key k l =
      let there : up k < length ns = omega (arith, l, long) in
      ap (key_at rest) (goes k l)
      ∙ key-left qs place (get_or ns (up k) 0) (inside rank fits) (inside (up k) there) (apart (up k) there (other k))

  within : (k : ℕ) → k < length left → get_or left k 0 < size rest
  within k l =
      let there : up k < length ns = omega (arith, l, long) in
      let m : ℕ = get_or ns (up k) 0 in
      ⊎_elim
      (λ (a : m < place). omega (arith, goes k l, a, inside rank fits, shorter, size-pairs_of (remove qs place)))
      (λ (a : place ≤ m).
      ⊎_elim
      (λ (b : place < m). omega (arith, goes k l, b, inside (up k) there, shorter, size-pairs_of (remove qs place)))
      (λ (b : m ≤ place). let same : m ≡ place = omega (arith, a, b) in absurd (apart (up k) there (other k) same))
      (cases_lt place m))
      (cases_lt m place)

  complete : (n : ℕ) → n < size rest → (k : ℕ) × (k < length left) × (get_or left k 0 ≡ n)
  complete n l =
      let m : ℕ = n + min 1 (suc n - place) in
      let c : Contains ns m = h.complete m (omega (arith, l, shorter, size-pairs_of qs, size-pairs_of (remove qs place))) in
      let at : get_or ns c.0 0 ≡ m = any-default ns c.0 0 m c.1 ∙ c.2 in
      let elsewhere : c.0 ≡ rank → ⊥ = λ e. (let here : place ≡ m = sym (ap (λ (j : ℕ). get_or ns j 0) e) ∙ at in omega (arith, here)) in
      let k : ℕ = c.0 - min 1 (c.0 - rank) in
      let back : (up k ≡ c.0) × (k < length left) =
      ⊎_elim
      (λ (a : c.0 < rank). let both : (up k ≡ c.0) × (k < length left) = (omega (arith, a), omega (arith, a, fits, long)) in both)
      (λ (a : rank ≤ c.0).
      ⊎_elim
      (λ (b : rank < c.0). let both : (up k ≡ c.0) × (k < length left) = (omega (arith, b), omega (arith, b, c.1, long)) in both)
      (λ (b : c.0 ≤ rank). let same : c.0 ≡ rank = omega (arith, a, b) in absurd {A = (up k ≡ c.0) × (k < length left)} (elsewhere same))
      (cases_lt rank c.0))
      (cases_lt c.0 rank) in
      (k, back.1, goes k back.1 ∙ ap (λ (j : ℕ). lowered place (get_or ns j 0)) back.0 ∙ ap (lowered place) at ∙ omega arith)

  left-indexes : Indexes left rest
  left-indexes = record {
    counted = omega (arith, long, h.counted, size-pairs_of qs, size-pairs_of (remove qs place), shorter);
    within = λ k d l. omega (arith, within k l, any-default left k d 0 l);
    complete = λ n l. let c = complete n l in (c.0, c.1, any-default left c.0 n 0 c.1 ∙ c.2);
    ascending =
        λ i j l m.
        ap (λ (w : SortKey). order w (key_at rest (get_or left j 0))) (key i (omega (arith, l, m)))
        ∙ ap (order (key_at (pairs_of qs) (get_or ns (up i) 0))) (key j m)
        ∙ h.ascending (up i) (up j) (omega (arith, l)) (omega (arith, m, long));
  }

pub left-index : (qs rs : List (Datum × Datum)) (ns ms : List ℕ) (rank p : ℕ) → Indexes ns (pairs_of qs) → IsRanked rank p ns → rs ≡ remove qs p
    → ms ≡ without_place rank ns → Indexes ms (pairs_of rs)
left-index qs rs ns ms rank p h ranked is e =
    subst (λ (ks : List ℕ). Indexes ks (pairs_of rs)) (sym e)
    (subst (λ (ps : List (Datum × Datum)). Indexes (without_place rank ns) (pairs_of ps)) (sym (is ∙ ap (remove qs) ranked.1)) (left-indexes qs ns rank h ranked.0))
