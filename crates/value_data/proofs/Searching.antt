-- A key looked for in an index, and one more place in it.
use Rattle.std.proofs.Common.{◌≡◌, ⊎_elim, ℕ, zero, suc, ◌+◌, ◌<◌, ◌≤◌, Bool, true, false, List, [], ◌∷◌, length, get_or, Some, None, option_map, map, refl, sym, ap, ◌∙◌, subst, arith}
use Rattle.std.specs.Prelude.{if◌then◌else◌}
use Rattle.std.specs.List.{All, Contains, insert}
use Rattle.std.specs.declared.cmp.Ordering.TheVariants.{Less, Equal}
use Rattle.std.proofs.lemmas.Bool.{cases_lt}
use Rattle.std.proofs.lemmas.List.Elements.{All-cons, All-weaker}
use Rattle.std.proofs.lemmas.List.Sorted.{IsPermutation-insert, All-permutation, Contains-permutation}
use Rattle.std.proofs.lemmas.List.Edits.{length-insert, get_or-insert_below, get_or-insert_at, get_or-insert_above}
use Rattle.value_data.specs.Datum.{Datum, Pairs, no_pairs, pair}
use Rattle.value_data.specs.Listed.{pairs_of}
use Rattle.value_data.specs.Inside.Seen.{key_in}
use Rattle.value_data.specs.Same.{same, size}
use Rattle.value_data.specs.Keyed.{behind_all}
use Rattle.value_data.specs.Inside.Placed.{first_place, with_value}
use Rattle.value_data.specs.Inside.Order.{SortKey, order, sort_key}
use Rattle.value_data.specs.Inside.Index.{key_at, Indexes, Belongs}
use Rattle.value_data.proofs.Ordered.{order-self, order-Less}
use Rattle.value_data.proofs.Ties.{same-key, key-same}
use Rattle.value_data.proofs.Sameness.{size-pairs_of}

pub not-below : (x y : SortKey) → x ≡ y → order x y ≡ Less → ⊥
not-below x y e h = let f : Equal ≡ Less = sym (order-self y) ∙ sym (ap (λ w. order w y) e) ∙ h in absurd (cc)

unequal : (k d : Datum) → (sort_key k ≡ sort_key d → ⊥) → same k d ≡ false
unequal k d f = at (same k d) refl
  where
    at : (b : Bool) → same k d ≡ b → b ≡ false
    at true e = absurd (f (same-key k d e))
    at false e = refl

-- the first place is one whose key ties, where no key before it does
first-at : (ps : Pairs) (d : Datum) (n : ℕ) → n < size ps → key_at ps n ≡ sort_key d → ((m : ℕ) → m < n → key_at ps m ≡ sort_key d → ⊥) → first_place ps d ≡ Some n
first-at no_pairs d n h e f = absurd (omega (arith, h))
first-at (pair k v ps) d zero h e f = ap (λ t. if t then Some 0 else option_map (λ n. suc n) (first_place ps d)) (key-same k d e)
first-at (pair k v ps) d (suc n) h e f =
    ap (λ t. if t then Some 0 else option_map (λ n. suc n) (first_place ps d)) (unequal k d (f 0 (omega arith)))
    ∙ ap (option_map (λ (n : ℕ). suc n)) (first-at ps d n (omega (arith, h)) e (λ m l. f (suc m) (omega (arith, l))))

pub none-at : (ps : Pairs) (d : Datum) → ((m : ℕ) → m < size ps → key_at ps m ≡ sort_key d → ⊥) → first_place ps d ≡ None
none-at no_pairs d f = refl
none-at (pair k v ps) d f =
    ap (λ t. if t then Some 0 else option_map (λ n. suc n) (first_place ps d)) (unequal k d (f 0 (omega arith)))
    ∙ ap (option_map (λ (n : ℕ). suc n)) (none-at ps d (λ m l. f (suc m) (omega (arith, l))))

pub any-default : (ns : List ℕ) (i a b : ℕ) → i < length ns → get_or ns i a ≡ get_or ns i b
any-default [] i a b h = absurd (omega (arith, h))
any-default (n ∷ ns) zero a b h = refl
any-default (n ∷ ns) (suc i) a b h = any-default ns i a b (omega (arith, h))

-- no two ranks have one key
pub one-rank : (ns : List ℕ) (ps : Pairs) → Indexes ns ps → (i j : ℕ) → i < length ns → j < length ns → key_at ps (get_or ns i 0) ≡ key_at ps (get_or ns j 0) → i ≡ j
one-rank ns ps h i j k l e =
    ⊎_elim
    (λ (p : i < j). absurd (not-below _ _ e (h.ascending i j p l)))
    (λ (p : j ≤ i).
    ⊎_elim (λ (q : j < i). absurd (not-below _ _ (sym e) (h.ascending j i q k))) (λ (q : i ≤ j). let same : i ≡ j = omega (arith, p, q) in same) (cases_lt j i))
    (cases_lt i j)

-- where the key at a rank ties, its place is the first
pub found-place : (ns : List ℕ) (ps : Pairs) (d : Datum) (i : ℕ) → Indexes ns ps → i < length ns → key_at ps (get_or ns i 0) ≡ sort_key d
    → first_place ps d ≡ Some (get_or ns i 0)
found-place ns ps d i h k e =
    first-at ps d (get_or ns i 0) (h.within i 0 k) e
    (λ m l f.
    let c : Contains ns m = h.complete m (omega (arith, l, h.within i 0 k)) in
    let at : get_or ns c.0 0 ≡ m = any-default ns c.0 0 m c.1 ∙ c.2 in
    let one : c.0 ≡ i = one-rank ns ps h c.0 i c.1 k (ap (key_at ps) at ∙ f ∙ sym e) in
    let here : get_or ns i 0 ≡ m = sym (ap (λ j. get_or ns j 0) one) ∙ at in
    omega (arith, l, here))

-- where all keys are before or behind, none ties
pub absent-place : (ns : List ℕ) (ps : Pairs) (d : Datum) (rank : ℕ) → Indexes ns ps
    → ((i : ℕ) → i < rank → order (key_at ps (get_or ns i 0)) (sort_key d) ≡ Less)
    → ((i : ℕ) → rank ≤ i → i < length ns → order (sort_key d) (key_at ps (get_or ns i 0)) ≡ Less)
    → first_place ps d ≡ None
absent-place ns ps d rank h before behind =
    none-at ps d
    (λ m l f.
    let c : Contains ns m = h.complete m l in
    let at : get_or ns c.0 0 ≡ m = any-default ns c.0 0 m c.1 ∙ c.2 in
    let tie : key_at ps (get_or ns c.0 0) ≡ sort_key d = ap (key_at ps) at ∙ f in
    ⊎_elim
    (λ (p : c.0 < rank). not-below _ _ tie (before c.0 p))
    (λ (p : rank ≤ c.0). not-below _ _ (sym tie) (behind c.0 p c.1))
    (cases_lt c.0 rank))

-- all before the middle are below what the key there is below
pub before-more : (ns : List ℕ) (ps : Pairs) (d : Datum) (middle : ℕ) → Indexes ns ps → middle < length ns
    → order (key_at ps (get_or ns middle 0)) (sort_key d) ≡ Less → (i : ℕ) → i < middle + 1 → order (key_at ps (get_or ns i 0)) (sort_key d) ≡ Less
before-more ns ps d middle h l e i k =
    ⊎_elim
    (λ (p : i < middle). order-Less (key_at ps (get_or ns i 0)) (key_at ps (get_or ns middle 0)) (sort_key d) (h.ascending i middle p l) e)
    (λ (p : middle ≤ i). let here : middle ≡ i = omega (arith, p, k) in subst (λ j. order (key_at ps (get_or ns j 0)) (sort_key d) ≡ Less) here e)
    (cases_lt i middle)

pub behind-more : (ns : List ℕ) (ps : Pairs) (d : Datum) (middle : ℕ) → Indexes ns ps
    → order (sort_key d) (key_at ps (get_or ns middle 0)) ≡ Less → (i : ℕ) → middle ≤ i → i < length ns → order (sort_key d) (key_at ps (get_or ns i 0)) ≡ Less
behind-more ns ps d middle h e i k l =
    ⊎_elim
    (λ (p : middle < i). order-Less (sort_key d) (key_at ps (get_or ns middle 0)) (key_at ps (get_or ns i 0)) e (h.ascending middle i p l))
    (λ (p : i ≤ middle). let here : middle ≡ i = omega (arith, p, k) in subst (λ j. order (sort_key d) (key_at ps (get_or ns j 0)) ≡ Less) here e)
    (cases_lt middle i)

-- the key at a place is that of its pair
pub key-got : (xs : List (Datum × Datum)) (n : ℕ) (k : Datum) → k ≡ get_or (map key_in xs) n k → n < length xs → sort_key k ≡ key_at (pairs_of xs) n
key-got [] n k is h = absurd (omega (arith, h))
key-got (x ∷ xs) zero k is h = ap sort_key is
key-got (x ∷ xs) (suc n) k is h = key-got xs n k is (omega (arith, h))

pub index-within : (xs : List (Datum × Datum)) (ns : List ℕ) → Indexes ns (pairs_of xs) → All (λ n. n < length xs) ns
index-within xs ns h k d l = omega (arith, h.within k d l, size-pairs_of xs)

-- ---- one more pair

pub size-behind : (ps : Pairs) (k v : Datum) → size (behind_all ps k v) ≡ size ps + 1
size-behind no_pairs k v = omega arith
size-behind (pair l w ps) k v = omega (arith, size-behind ps k v)

key_at-behind : (ps : Pairs) (k v : Datum) (n : ℕ) → n < size ps → key_at (behind_all ps k v) n ≡ key_at ps n
key_at-behind no_pairs k v n h = absurd (omega (arith, h))
key_at-behind (pair l w ps) k v zero h = refl
key_at-behind (pair l w ps) k v (suc n) h = key_at-behind ps k v n (omega (arith, h))

key_at-last : (ps : Pairs) (k v : Datum) (n : ℕ) → n ≡ size ps → key_at (behind_all ps k v) n ≡ sort_key k
key_at-last no_pairs k v zero h = refl
key_at-last no_pairs k v (suc n) h = absurd (omega (arith, h))
key_at-last (pair l w ps) k v zero h = absurd (omega (arith, h))
key_at-last (pair l w ps) k v (suc n) h = key_at-last ps k v n (omega (arith, h))

-- an index of no pairs
pub no-index : (ns : List ℕ) → ns ≡ [] → Indexes ns no_pairs
no-index [] e = record { counted = refl; within = λ k d l. absurd (omega (arith, l)); complete = λ n l. absurd (omega (arith, l)); ascending = λ i j p l. absurd (omega (arith, l)) }
no-index (n ∷ ns) e = absurd (cc)

module _ (ns : List ℕ) (ps : Pairs) (k v : Datum) (rank : ℕ) (h : Indexes ns ps) (b : Belongs rank ns ps k) where
  old : (i : ℕ) → i < length ns → key_at (behind_all ps k v) (get_or ns i 0) ≡ key_at ps (get_or ns i 0)
  old i l = key_at-behind ps k v (get_or ns i 0) (h.within i 0 l)

  -- the key at a rank below, at, and above that of the new place
  lower : (i : ℕ) → i < rank → key_at (behind_all ps k v) (get_or (insert ns rank (size ps)) i 0) ≡ key_at ps (get_or ns i 0)
  lower i l = ap (key_at (behind_all ps k v)) (get_or-insert_below ns rank (size ps) 0 i l b.in_range) ∙ old i (omega (arith, l, b.in_range))

  here : key_at (behind_all ps k v) (get_or (insert ns rank (size ps)) rank 0) ≡ sort_key k
  here = ap (key_at (behind_all ps k v)) (get_or-insert_at ns rank (size ps) 0 b.in_range) ∙ key_at-last ps k v (size ps) refl

  upper : (i : ℕ) → rank ≤ i → i < length ns → key_at (behind_all ps k v) (get_or (insert ns rank (size ps)) (i + 1) 0) ≡ key_at ps (get_or ns i 0)
  upper i l m = ap (key_at (behind_all ps k v)) (get_or-insert_above ns rank (size ps) 0 i l b.in_range) ∙ old i m

  at-upper : (j : ℕ) → rank < j → j < length ns + 1
      → (m : ℕ) × (j ≡ m + 1) × (key_at (behind_all ps k v) (get_or (insert ns rank (size ps)) j 0) ≡ key_at ps (get_or ns m 0))
  at-upper zero l i = absurd (omega (arith, l))
  at-upper (suc m) l i =
      let next : m + 1 ≡ suc m = omega arith in
      (m, sym next, ap (λ j. key_at (behind_all ps k v) (get_or (insert ns rank (size ps)) j 0)) (sym next) ∙ upper m (omega (arith, l)) (omega (arith, i)))

  less : (x y z w : SortKey) → x ≡ z → y ≡ w → order z w ≡ Less → order x y ≡ Less
  less x y z w e f g = rw (e, f, g) refl

  rises : (i j : ℕ) → i < j → j < length ns + 1
      → order (key_at (behind_all ps k v) (get_or (insert ns rank (size ps)) i 0)) (key_at (behind_all ps k v) (get_or (insert ns rank (size ps)) j 0)) ≡ Less
  rises i j l m =
      ⊎_elim
      (λ (p : j < rank). less _ _ _ _ (lower i (omega (arith, l, p))) (lower j p) (h.ascending i j l (omega (arith, p, b.in_range))))
      (λ (p : rank ≤ j).
      ⊎_elim
      (λ (q : rank < j).
      let up = at-upper j q m in
      ⊎_elim
      (λ (o : i < rank). less _ _ _ _ (lower i o) up.2 (h.ascending i up.0 (omega (arith, o, q, up.1)) (omega (arith, m, up.1))))
      (λ (o : rank ≤ i).
      ⊎_elim
      (λ (r : rank < i).
      let low = at-upper i r (omega (arith, l, m)) in
      less _ _ _ _ low.2 up.2 (h.ascending low.0 up.0 (omega (arith, l, low.1, up.1)) (omega (arith, m, up.1))))
      (λ (r : i ≤ rank).
      let at : i ≡ rank = omega (arith, o, r) in
      less _ _ _ _ (ap (λ (n : ℕ). key_at (behind_all ps k v) (get_or (insert ns rank (size ps)) n 0)) at ∙ here) up.2
      (b.behind up.0 (omega (arith, q, up.1)) (omega (arith, m, up.1))))
      (cases_lt rank i))
      (cases_lt i rank))
      (λ (q : j ≤ rank).
      let at : j ≡ rank = omega (arith, p, q) in
      less _ _ _ _ (lower i (omega (arith, l, at))) (ap (λ (n : ℕ). key_at (behind_all ps k v) (get_or (insert ns rank (size ps)) n 0)) at ∙ here)
      (b.before i (omega (arith, l, at))))
      (cases_lt rank j))
      (cases_lt j rank)

  holds-all : (n : ℕ) → n < size (behind_all ps k v) → Contains (size ps ∷ ns) n
  holds-all n l =
      ⊎_elim
      (λ (p : n < size ps). let c : Contains ns n = h.complete n p in (suc c.0, omega (arith, c.1), c.2))
      (λ (p : size ps ≤ n). let at : size ps ≡ n = omega (arith, l, p, size-behind ps k v) in (0, omega arith, at))
      (cases_lt n (size ps))

  new-index : Indexes (insert ns rank (size ps)) (behind_all ps k v)
  new-index = record {
    counted = omega (arith, length-insert ns rank (size ps) b.in_range, h.counted, size-behind ps k v);
    within =
        All-permutation (λ n. n < size (behind_all ps k v)) (size ps ∷ ns) (insert ns rank (size ps)) (IsPermutation-insert ns rank (size ps))
        (All-cons (λ n. n < size (behind_all ps k v)) (size ps) ns (omega (arith, size-behind ps k v))
        (All-weaker (λ n. n < size ps) (λ n. n < size (behind_all ps k v)) (λ n l. omega (arith, l, size-behind ps k v)) ns h.within));
    complete = λ n l. Contains-permutation (size ps ∷ ns) (insert ns rank (size ps)) n (IsPermutation-insert ns rank (size ps)) (holds-all n l);
    ascending = λ i j l m. rises i j l (omega (arith, m, length-insert ns rank (size ps) b.in_range));
  }

-- the place of one more pair is noted where it belongs
pub noted : (ns ms : List ℕ) (ps qs : Pairs) (k v : Datum) (rank n : ℕ) → qs ≡ behind_all ps k v → ms ≡ insert ns rank n → n ≡ size ps
    → Indexes ns ps → Belongs rank ns ps k → Indexes ms qs
noted ns ms ps qs k v rank n e f g h b =
    subst (λ (xs : List ℕ). Indexes xs qs) (sym (f ∙ ap (insert ns rank) g))
    (subst (λ (rs : Pairs). Indexes (insert ns rank (size ps)) rs) (sym e) (new-index ns ps k v rank h b))

-- ---- a replaced value

size-with_value : (m : ℕ) (v : Datum) (ps : Pairs) → size (with_value m v ps) ≡ size ps
size-with_value m v no_pairs = refl
size-with_value zero v (pair k w ps) = refl
size-with_value (suc m) v (pair k w ps) = omega (arith, size-with_value m v ps)

key_at-with_value : (m n : ℕ) (v : Datum) (ps : Pairs) → key_at (with_value m v ps) n ≡ key_at ps n
key_at-with_value m n v no_pairs = refl
key_at-with_value zero zero v (pair k w ps) = refl
key_at-with_value zero (suc n) v (pair k w ps) = refl
key_at-with_value (suc m) zero v (pair k w ps) = refl
key_at-with_value (suc m) (suc n) v (pair k w ps) = key_at-with_value m n v ps

kept : (ns : List ℕ) (ps : Pairs) (m : ℕ) (v : Datum) → Indexes ns ps → Indexes ns (with_value m v ps)
kept ns ps m v h = record {
  counted = omega (arith, h.counted, size-with_value m v ps);
  within = All-weaker (λ n. n < size ps) (λ n. n < size (with_value m v ps)) (λ n l. omega (arith, l, size-with_value m v ps)) ns h.within;
  complete = λ n l. h.complete n (omega (arith, l, size-with_value m v ps));
  ascending =
      λ i j l k.
      rw (key_at-with_value m (get_or ns i 0) v ps, key_at-with_value m (get_or ns j 0) v ps) (h.ascending i j l k);
}

pub found-indexes : (ns : List ℕ) (ps qs : Pairs) (n : ℕ) (v : Datum) → qs ≡ with_value n v ps → Indexes ns ps → Indexes ns qs
found-indexes ns ps qs n v e h = subst (λ (rs : Pairs). Indexes ns rs) (sym e) (kept ns ps n v h)
