-- The order ties equal values, and no others.
use Rattle.std.proofs.Common.{◌≡◌, ◌⊎◌, inl, inr, ℕ, Bool, true, false, ◌&&◌, ◌||◌, List, [], ◌∷◌, refl, sym, ap, ◌∙◌, eq-eqb, arith}
use Rattle.std.specs.Bool.{beq}
use Rattle.std.specs.Prelude.{◌==◌, if◌then◌else◌}
use Rattle.std.specs.declared.cmp.Ordering.TheVariants.{Less, Equal, Greater}
use Rattle.std.specs.declared.cmp.Ordering.{Ordering}
use Rattle.std.specs.Ordering.{is_eq}
use Rattle.std.specs.Cmp.{both_ways}
use Rattle.std.specs.Str.{bytes_eq}
use Rattle.std.proofs.lemmas.Bool.{eqb-true}
use Rattle.std.proofs.lemmas.Bool.Decides.{Decides-int_eq}
use Rattle.std.proofs.lemmas.Slice.Eq.{bytes_eq-Decides}
use Rattle.value_data.specs.Datum.{OwnerData, shared, tenant, Datum, nil, boolean, integer, string, keyword, symbol, list, vector, map, ref, atom, agent, var, fault, Items, no_items, item, Pairs, no_pairs, pair}
use Rattle.value_data.specs.Same.{same, same_owner, same_items, size, within, each_pair, is_pair_among, has_pair}
use Rattle.value_data.specs.Inside.Hash.{hash}
use Rattle.value_data.specs.Inside.Order.{SortKey, number, text, both, order, sorted_keys, chain, sort_key, items_sort_key, owner_sort_key, kind, rows}
use Rattle.value_data.proofs.Equivalence.{and-left, and-right, and-both, or-right, head-both}
use Rattle.value_data.proofs.Transitive.{is_leaf, leaf-is}
use Rattle.value_data.proofs.Hashes.{hash-same, items-hash-same}
use Rattle.value_data.proofs.Ordered.{order-exact, order-self}
use Rattle.value_data.proofs.Sorted.{IsIn, sorted_keys-same, same-members}

-- a pair that passes has a row with the same keys
has_pair-row : (kk kv : SortKey) (key value : Datum → Bool) → ((e : Datum) → key e ≡ true → kk ≡ sort_key e) → ((e : Datum) → value e ≡ true → kv ≡ sort_key e)
    → (qs : Pairs) → has_pair key value qs ≡ true → IsIn (both kk kv) (rows qs)
has_pair-row kk kv key value ek ev no_pairs h = absurd (cc)
has_pair-row kk kv key value ek ev (pair l w qs) h = at (has_pair-row kk kv key value ek ev qs) (key l && value w) refl h
  where
    at : (has_pair key value qs ≡ true → IsIn (both kk kv) (rows qs)) → (t : Bool) → (key l && value w) ≡ t → (t || has_pair key value qs) ≡ true
        → IsIn (both kk kv) (rows (pair l w qs))
    at more true e i = inl (rw (ek l (and-left (key l) (value w) e), ev w (and-right (key l) (value w) e)) refl)
    at more false e i = inr (more i)

-- where each pair passes, so does the pair of each row
each_pair-row : (test : Datum → Datum → Bool) (xs : List SortKey) → ((l w : Datum) → test l w ≡ true → IsIn (both (sort_key l) (sort_key w)) xs)
    → (qs : Pairs) → each_pair test qs ≡ true → (z : SortKey) → IsIn z (rows qs) → IsIn z xs
each_pair-row test xs f no_pairs h z i = absurd i
each_pair-row test xs f (pair l w qs) h z i = at (each_pair-row test xs f qs (and-right (test l w) (each_pair test qs) h) z) i
  where
    at : (IsIn z (rows qs) → IsIn z xs) → IsIn z (rows (pair l w qs)) → IsIn z xs
    at more (inl p) = rw p (f l w (and-left (test l w) (each_pair test qs) h))
    at more (inr p) = more p

owner-key : (o p : OwnerData) → same_owner o p ≡ true → owner_sort_key o ≡ owner_sort_key p
owner-key shared shared h = refl
owner-key shared (tenant u) h = absurd (cc)
owner-key (tenant t) shared h = absurd (cc)
owner-key (tenant t) (tenant u) h = ap (λ n. text (n ∷ [])) (eqb-true t u h)

lists-key : (h k : ℕ) (a b : SortKey) → h ≡ k → a ≡ b → both (number 6) (both (number h) a) ≡ both (number 6) (both (number k) b)
lists-key h k a b e f = rw (e, f) refl

maps-key : (h k m n : ℕ) (xs ys : List SortKey) → h ≡ k → m ≡ n → xs ≡ ys
    → both (number 7) (both (number h) (both (number m) (chain xs))) ≡ both (number 7) (both (number k) (both (number n) (chain ys)))
maps-key h k m n xs ys e f g = rw (e, f, g) refl

row-cases : (k v : Datum) (z : SortKey) (xs ys : List SortKey) → IsIn (both (sort_key k) (sort_key v)) ys → (IsIn z xs → IsIn z ys)
    → (z ≡ both (sort_key k) (sort_key v)) ⊎ IsIn z xs → IsIn z ys
row-cases k v z xs ys f g (inl p) = rw p f
row-cases k v z xs ys f g (inr p) = g p

among-cases : (k v l w : Datum) (xs : List SortKey) (rest : Bool) → (same k l ≡ true → sort_key k ≡ sort_key l) → (same v w ≡ true → sort_key v ≡ sort_key w)
    → (rest ≡ true → IsIn (both (sort_key l) (sort_key w)) xs) → ((same k l && same v w) || rest) ≡ true
    → IsIn (both (sort_key l) (sort_key w)) (both (sort_key k) (sort_key v) ∷ xs)
among-cases k v l w xs rest f g more h = at (same k l && same v w) refl h
  where
    at : (t : Bool) → (same k l && same v w) ≡ t → (t || rest) ≡ true → IsIn (both (sort_key l) (sort_key w)) (both (sort_key k) (sort_key v) ∷ xs)
    at true e i = inl (rw (f (and-left (same k l) (same v w) e), g (and-right (same k l) (same v w) e)) refl)
    at false e i = inr (more i)

-- what has no parts is equal only to itself
leaf-key : (d e : Datum) → same d e ≡ true → is_leaf d ≡ true → sort_key d ≡ sort_key e
leaf-key d e h l = ap sort_key (leaf-is d e l h)

mutual
  pub same-key : (d e : Datum) → same d e ≡ true → sort_key d ≡ sort_key e
  same-key (list ds) (list es) h = lists-key _ _ _ _ (items-hash-same ds es 7 h) (same-items-key ds es h)
  same-key (list ds) (vector es) h = lists-key _ _ _ _ (items-hash-same ds es 7 h) (same-items-key ds es h)
  same-key (vector ds) (list es) h = lists-key _ _ _ _ (items-hash-same ds es 7 h) (same-items-key ds es h)
  same-key (vector ds) (vector es) h = lists-key _ _ _ _ (items-hash-same ds es 7 h) (same-items-key ds es h)
  same-key (map ps) (map qs) h =
      let found : (within ps qs && each_pair (is_pair_among ps) qs) ≡ true = and-right (size ps == size qs) (within ps qs && each_pair (is_pair_among ps) qs) h in
      maps-key (hash (map ps)) (hash (map qs)) (size ps) (size qs) (sorted_keys (rows ps)) (sorted_keys (rows qs)) (hash-same (map ps) (map qs) h)
      (eqb-true (size ps) (size qs) (and-left (size ps == size qs) (within ps qs && each_pair (is_pair_among ps) qs) h))
      (sorted_keys-same (rows ps) (rows qs)
      (λ z i. within-rows ps qs (and-left (within ps qs) (each_pair (is_pair_among ps) qs) found) z i)
      (each_pair-row (is_pair_among ps) (rows ps) (λ l w. is_pair_among-row ps l w) qs (and-right (within ps qs) (each_pair (is_pair_among ps) qs) found)))
  same-key (list ds) e h = absurd (cc)
  same-key (vector ds) e h = absurd (cc)
  same-key (map ps) e h = absurd (cc)
  same-key d e h = leaf-key d e h refl

  same-items-key : (ds es : Items) → same_items ds es ≡ true → items_sort_key ds ≡ items_sort_key es
  same-items-key no_items no_items h = refl
  same-items-key no_items (item e es) h = absurd (cc)
  same-items-key (item d ds) no_items h = absurd (cc)
  same-items-key (item d ds) (item e es) h =
      rw (same-key d e (and-left (same d e) (same_items ds es) h), same-items-key ds es (and-right (same d e) (same_items ds es) h)) refl

  within-rows : (ps qs : Pairs) → within ps qs ≡ true → (z : SortKey) → IsIn z (rows ps) → IsIn z (rows qs)
  within-rows no_pairs qs h z i = absurd i
  within-rows (pair k v ps) qs h z i =
      row-cases k v z (rows ps) (rows qs)
      (has_pair-row (sort_key k) (sort_key v) (same k) (same v) (same-key k) (same-key v) qs (and-left (has_pair (same k) (same v) qs) (within ps qs) h))
      (within-rows ps qs (and-right (has_pair (same k) (same v) qs) (within ps qs) h) z) i

  is_pair_among-row : (ps : Pairs) (l w : Datum) → is_pair_among ps l w ≡ true → IsIn (both (sort_key l) (sort_key w)) (rows ps)
  is_pair_among-row no_pairs l w h = absurd (cc)
  is_pair_among-row (pair k v ps) l w h =
      among-cases k v l w (rows ps) (is_pair_among ps l w) (same-key k l) (same-key v w) (is_pair_among-row ps l w) h

-- ---- and back

pair-of-row : (k v : Datum) (test value : Datum → Bool) → ((e : Datum) → sort_key k ≡ sort_key e → test e ≡ true) → ((e : Datum) → sort_key v ≡ sort_key e → value e ≡ true)
    → (qs : Pairs) → IsIn (both (sort_key k) (sort_key v)) (rows qs) → has_pair test value qs ≡ true
pair-of-row k v test value f g no_pairs i = absurd i
pair-of-row k v test value f g (pair l w qs) i = at (pair-of-row k v test value f g qs) i
  where
    at : (IsIn (both (sort_key k) (sort_key v)) (rows qs) → has_pair test value qs ≡ true) → IsIn (both (sort_key k) (sort_key v)) (rows (pair l w qs))
        → ((test l && value w) || has_pair test value qs) ≡ true
    at more (inl p) =
        let e : sort_key k ≡ sort_key l = cc in
        let e2 : sort_key v ≡ sort_key w = cc in
        head-both (test l) (value w) (has_pair test value qs) (f l e) (g w e2)
    at more (inr p) = or-right (test l && value w) (has_pair test value qs) (more p)

each-of-rows : (test : Datum → Datum → Bool) (xs : List SortKey) → ((l w : Datum) → IsIn (both (sort_key l) (sort_key w)) xs → test l w ≡ true)
    → (qs : Pairs) → ((z : SortKey) → IsIn z (rows qs) → IsIn z xs) → each_pair test qs ≡ true
each-of-rows test xs f no_pairs h = refl
each-of-rows test xs f (pair l w qs) h =
    and-both (test l w) (each_pair test qs) (f l w (h (both (sort_key l) (sort_key w)) (inl refl))) (each-of-rows test xs f qs (λ z i. h z (inr i)))

bytes : (s t : List ℕ) → s ≡ t → bytes_eq s t ≡ true
bytes s t e = (bytes_eq-Decides s t).1 e

owners : (o p : OwnerData) → owner_sort_key o ≡ owner_sort_key p → same_owner o p ≡ true
owners shared shared h = refl
owners shared (tenant u) h = absurd (cc)
owners (tenant t) shared h = absurd (cc)
owners (tenant t) (tenant u) h = let e : t ≡ u = cc in eq-eqb t u e

numbers : (m n : ℕ) → number m ≡ number n → m ≡ n
numbers m n h = cc

booleans : (b c : Bool) → number (if b then 1 else 0) ≡ number (if c then 1 else 0) → beq b c ≡ true
booleans true true h = refl
booleans true false h = absurd (omega (arith, numbers 1 0 h))
booleans false true h = absurd (omega (arith, numbers 0 1 h))
booleans false false h = refl

-- sort keys of different kinds differ
kinds : (m n : ℕ) (a b : SortKey) → both (number m) a ≡ both (number n) b → m ≡ n
kinds m n a b h = cc

inside : (m n : ℕ) (a b : SortKey) → both (number m) a ≡ both (number n) b → a ≡ b
inside m n a b h = cc

firsts : (a b c d : SortKey) → both a b ≡ both c d → a ≡ c
firsts a b c d h = cc

seconds : (a b c d : SortKey) → both a b ≡ both c d → b ≡ d
seconds a b c d h = cc

among-back : (k v l w : Datum) (ps : Pairs) → (sort_key k ≡ sort_key l → same k l ≡ true) → (sort_key v ≡ sort_key w → same v w ≡ true)
    → (IsIn (both (sort_key l) (sort_key w)) (rows ps) → is_pair_among ps l w ≡ true) → IsIn (both (sort_key l) (sort_key w)) (rows (pair k v ps))
    → ((same k l && same v w) || is_pair_among ps l w) ≡ true
among-back k v l w ps f g more (inl p) =
    head-both (same k l) (same v w) (is_pair_among ps l w) (f (sym (firsts _ _ _ _ p))) (g (sym (seconds _ _ _ _ p)))
among-back k v l w ps f g more (inr p) = or-right (same k l && same v w) (is_pair_among ps l w) (more p)

mutual
  pub key-same : (d e : Datum) → sort_key d ≡ sort_key e → same d e ≡ true
  key-same nil nil h = refl
  key-same (boolean b) (boolean c) h = booleans b c (inside _ _ _ _ h)
  key-same (integer m) (integer n) h = let e : m ≡ n = cc in (Decides-int_eq m n).1 e
  key-same (string s) (string t) h = let e : s ≡ t = cc in bytes s t e
  key-same (keyword s) (keyword t) h = let e : s ≡ t = cc in bytes s t e
  key-same (symbol s) (symbol t) h = let e : s ≡ t = cc in bytes s t e
  key-same (list ds) (list es) h = items-same ds es (seconds _ _ _ _ (inside _ _ _ _ h))
  key-same (list ds) (vector es) h = items-same ds es (seconds _ _ _ _ (inside _ _ _ _ h))
  key-same (vector ds) (list es) h = items-same ds es (seconds _ _ _ _ (inside _ _ _ _ h))
  key-same (vector ds) (vector es) h = items-same ds es (seconds _ _ _ _ (inside _ _ _ _ h))
  key-same (map ps) (map qs) h =
      let parts : both (number (size ps)) (chain (sorted_keys (rows ps))) ≡ both (number (size qs)) (chain (sorted_keys (rows qs))) = seconds _ _ _ _ (inside _ _ _ _ h) in
      let sizes : size ps ≡ size qs = kinds _ _ _ _ parts in
      let chains : chain (sorted_keys (rows ps)) ≡ chain (sorted_keys (rows qs)) = seconds _ _ _ _ parts in
      and-both (size ps == size qs) (within ps qs && each_pair (is_pair_among ps) qs) (eq-eqb (size ps) (size qs) sizes)
      (and-both (within ps qs) (each_pair (is_pair_among ps) qs)
      (rows-within ps qs (same-members (rows ps) (rows qs) chains))
      (each-of-rows (is_pair_among ps) (rows ps) (λ l w i. row-among ps l w i) qs (same-members (rows qs) (rows ps) (sym chains))))
  key-same (ref o m) (ref p n) h =
      let parts : both (owner_sort_key o) (number m) ≡ both (owner_sort_key p) (number n) = inside _ _ _ _ h in
      let e : m ≡ n = cc in
      and-both (same_owner o p) (m == n) (owners o p (firsts _ _ _ _ parts)) (eq-eqb m n e)
  key-same (atom m) (atom n) h = let e : m ≡ n = cc in eq-eqb m n e
  key-same (agent m) (agent n) h = let e : m ≡ n = cc in eq-eqb m n e
  key-same (var s m) (var t n) h =
      let e : s ≡ t = cc in
      let f : m ≡ n = cc in
      and-both (bytes_eq s t) (bytes_eq m n) (bytes s t e) (bytes m n f)
  key-same (fault s m) (fault t n) h =
      let e : s ≡ t = cc in
      let f : m ≡ n = cc in
      and-both (bytes_eq s t) (bytes_eq m n) (bytes s t e) (bytes m n f)
  key-same d e h = let k : kind d ≡ kind e = kinds _ _ _ _ h in absurd (omega (arith, k))

  items-same : (ds es : Items) → items_sort_key ds ≡ items_sort_key es → same_items ds es ≡ true
  items-same no_items no_items h = refl
  items-same no_items (item e es) h = absurd (cc)
  items-same (item d ds) no_items h = absurd (cc)
  items-same (item d ds) (item e es) h =
      and-both (same d e) (same_items ds es) (key-same d e (firsts _ _ _ _ h)) (items-same ds es (seconds _ _ _ _ h))

  rows-within : (ps qs : Pairs) → ((z : SortKey) → IsIn z (rows ps) → IsIn z (rows qs)) → within ps qs ≡ true
  rows-within no_pairs qs h = refl
  rows-within (pair k v ps) qs h =
      and-both (has_pair (same k) (same v) qs) (within ps qs)
      (pair-of-row k v (same k) (same v) (key-same k) (key-same v) qs (h (both (sort_key k) (sort_key v)) (inl refl)))
      (rows-within ps qs (λ z i. h z (inr i)))

  row-among : (ps : Pairs) (l w : Datum) → IsIn (both (sort_key l) (sort_key w)) (rows ps) → is_pair_among ps l w ≡ true
  row-among no_pairs l w i = absurd i
  row-among (pair k v ps) l w i = among-back k v l w ps (key-same k l) (key-same v w) (row-among ps l w) i

-- two values tie exactly where they are equal
pub ties : (d e : Datum) → is_eq (order (sort_key d) (sort_key e)) ≡ same d e
ties d e = both_ways (is_eq (order (sort_key d) (sort_key e))) (same d e) (λ h. key-same d e (order-exact (sort_key d) (sort_key e) (tied (order (sort_key d) (sort_key e)) h)))
    (λ h. ap (λ k. is_eq (order (sort_key d) k)) (sym (same-key d e h)) ∙ ap is_eq (order-self (sort_key d)))
  where
    tied : (o : Ordering) → is_eq o ≡ true → o ≡ Equal
    tied Less h = absurd (cc)
    tied Equal h = refl
    tied Greater h = absurd (cc)
