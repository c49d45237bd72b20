-- A map's hash, and that equal values have equal hashes.
use Rattle.std.proofs.Common.{◌≡◌, ℕ, ◌≤◌, Bool, true, false, ◌&&◌, ◌||◌, max, List, refl, ap, ◌∙◌, arith}
use Rattle.std.proofs.Math.Nat.{max-le, le_antisymm}
use Rattle.std.specs.Cmp.{booleans_Decides}
use Rattle.std.specs.Str.{bytes_eq}
use Rattle.std.proofs.lemmas.Bool.{eqb-true}
use Rattle.std.proofs.lemmas.Bool.Decides.{Decides-int_eq}
use Rattle.std.proofs.lemmas.Slice.Eq.{bytes_eq-Decides}
use Rattle.value_data.specs.Datum.{OwnerData, shared, tenant, Datum, nil, boolean, integer, string, keyword, symbol, list, vector, map, ref, atom, agent, var, fault, Items, no_items, item, Pairs, no_pairs, pair}
use Rattle.value_data.specs.Same.{same, same_owner, same_items, size, within, each_pair, is_pair_among, has_pair}
use Rattle.value_data.specs.Inside.Hash.{hash, items_hash, peak, mixed, salted, text_hash, owner_hash, pair_hash}

-- the parts of a test that is true
and-left : (a b : Bool) → (a && b) ≡ true → a ≡ true
and-left true b h = refl
and-left false b h = cc

and-right : (a b : Bool) → (a && b) ≡ true → b ≡ true
and-right true b h = h
and-right false b h = cc

-- a test with two parts, or another
either : (a b c : Bool) (x y top : ℕ) → (a ≡ true → b ≡ true → x ≡ y) → (c ≡ true → y ≤ top) → ((a && b) || c) ≡ true → y ≤ max x top
either true true c x y top e le h = let is : x ≡ y = e refl refl in omega (arith, is)
either true false c x y top e le h = let below : y ≤ top = le h in omega (arith, below)
either false b c x y top e le h = let below : y ≤ top = le h in omega (arith, below)

has_pair-peak : (salt hk hv : ℕ) (key value : Datum → Bool) → ((e : Datum) → key e ≡ true → hk ≡ hash e) → ((e : Datum) → value e ≡ true → hv ≡ hash e)
    → (qs : Pairs) → has_pair key value qs ≡ true → salted salt (pair_hash hk hv) ≤ peak salt qs
has_pair-peak salt hk hv key value ek ev no_pairs h = absurd (cc)
has_pair-peak salt hk hv key value ek ev (pair l w qs) h =
    either (key l) (value w) (has_pair key value qs) (salted salt (pair_hash (hash l) (hash w))) (salted salt (pair_hash hk hv)) (peak salt qs)
    (λ a b. rw (ek l a, ev w b) refl) (has_pair-peak salt hk hv key value ek ev qs) h

each_pair-peak : (salt : ℕ) (test : Datum → Datum → Bool) (top : ℕ) → ((l w : Datum) → test l w ≡ true → salted salt (pair_hash (hash l) (hash w)) ≤ top)
    → (qs : Pairs) → each_pair test qs ≡ true → peak salt qs ≤ top
each_pair-peak salt test top below no_pairs h = omega arith
each_pair-peak salt test top below (pair l w qs) h =
    max-le (below l w (and-left (test l w) (each_pair test qs) h)) (each_pair-peak salt test top below qs (and-right (test l w) (each_pair test qs) h))

owner-same : (o p : OwnerData) → same_owner o p ≡ true → owner_hash o ≡ owner_hash p
owner-same shared shared h = refl
owner-same shared (tenant u) h = cc
owner-same (tenant t) shared h = cc
owner-same (tenant t) (tenant u) h = ap (mixed 11) (eqb-true t u h)

-- what two maps' hashes are made of
map-hash : (ps qs : Pairs) → size ps ≡ size qs → ((salt : ℕ) → peak salt ps ≡ peak salt qs) → hash (map ps) ≡ hash (map qs)
map-hash ps qs s e = rw (s, e 0xD6E8FEB86659FD93, e 0x2917014799A6026D, e 0xBF58476D1CE4E5B9, e 0x40A7B892E31B1A47) refl

two-texts : (tag : ℕ) (s t m n : List ℕ) → (bytes_eq s t && bytes_eq m n) ≡ true
    → text_hash (text_hash tag s) m ≡ text_hash (text_hash tag t) n
two-texts tag s t m n h =
    rw ((bytes_eq-Decides s t).0 (and-left (bytes_eq s t) (bytes_eq m n) h), (bytes_eq-Decides m n).0 (and-right (bytes_eq s t) (bytes_eq m n) h)) refl

mutual
  pub hash-same : (d e : Datum) → same d e ≡ true → hash d ≡ hash e
  hash-same nil nil h = refl
  hash-same (boolean b) (boolean c) h = ap (λ x. hash (boolean x)) ((booleans_Decides b c).0 h)
  hash-same (integer m) (integer n) h = ap (λ x. hash (integer x)) ((Decides-int_eq m n).0 h)
  hash-same (string s) (string t) h = ap (text_hash 4) ((bytes_eq-Decides s t).0 h)
  hash-same (keyword s) (keyword t) h = ap (text_hash 5) ((bytes_eq-Decides s t).0 h)
  hash-same (symbol s) (symbol t) h = ap (text_hash 6) ((bytes_eq-Decides s t).0 h)
  hash-same (list ds) (list es) h = items-hash-same ds es 7 h
  hash-same (list ds) (vector es) h = items-hash-same ds es 7 h
  hash-same (vector ds) (list es) h = items-hash-same ds es 7 h
  hash-same (vector ds) (vector es) h = items-hash-same ds es 7 h
  hash-same (map ps) (map qs) h =
      map-hash ps qs (eqb-true (size ps) (size qs) (and-left _ (within ps qs && each_pair (is_pair_among ps) qs) h))
      (λ salt. le_antisymm
      (within-peak ps qs salt (and-left (within ps qs) (each_pair (is_pair_among ps) qs) (and-right _ (within ps qs && each_pair (is_pair_among ps) qs) h)))
      (each_pair-peak salt (is_pair_among ps) (peak salt ps) (λ l w. is_pair_among-peak ps l w salt) qs
      (and-right (within ps qs) (each_pair (is_pair_among ps) qs) (and-right _ (within ps qs && each_pair (is_pair_among ps) qs) h))))
  hash-same (ref o m) (ref p n) h =
      rw (owner-same o p (and-left (same_owner o p) _ h), eqb-true m n (and-right (same_owner o p) _ h)) refl
  hash-same (atom m) (atom n) h = ap (mixed 12) (eqb-true m n h)
  hash-same (agent m) (agent n) h = ap (mixed 13) (eqb-true m n h)
  hash-same (var s m) (var t n) h = two-texts 14 s t m n h
  hash-same (fault s m) (fault t n) h = two-texts 15 s t m n h
  hash-same d e h = absurd (cc)

  pub items-hash-same : (ds es : Items) (before : ℕ) → same_items ds es ≡ true → items_hash before ds ≡ items_hash before es
  items-hash-same no_items no_items before h = refl
  items-hash-same no_items (item e es) before h = cc
  items-hash-same (item d ds) no_items before h = cc
  items-hash-same (item d ds) (item e es) before h =
      ap (λ x. items_hash (mixed before x) ds) (hash-same d e (and-left (same d e) (same_items ds es) h))
      ∙ items-hash-same ds es (mixed before (hash e)) (and-right (same d e) (same_items ds es) h)

  within-peak : (ps qs : Pairs) (salt : ℕ) → within ps qs ≡ true → peak salt ps ≤ peak salt qs
  within-peak no_pairs qs salt h = omega arith
  within-peak (pair k v ps) qs salt h =
      max-le
      (has_pair-peak salt (hash k) (hash v) (same k) (same v) (hash-same k) (hash-same v) qs (and-left (has_pair (same k) (same v) qs) (within ps qs) h))
      (within-peak ps qs salt (and-right (has_pair (same k) (same v) qs) (within ps qs) h))

  is_pair_among-peak : (ps : Pairs) (l w : Datum) (salt : ℕ) → is_pair_among ps l w ≡ true → salted salt (pair_hash (hash l) (hash w)) ≤ peak salt ps
  is_pair_among-peak no_pairs l w salt h = absurd (cc)
  is_pair_among-peak (pair k v ps) l w salt h =
      either (same k l) (same v w) (is_pair_among ps l w) (salted salt (pair_hash (hash k) (hash v))) (salted salt (pair_hash (hash l) (hash w))) (peak salt ps)
      (λ a b. rw (hash-same k l a, hash-same v w b) refl) (is_pair_among-peak ps l w salt) h
