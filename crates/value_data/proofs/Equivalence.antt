-- Equality of values is an equivalence.
use Rattle.std.proofs.Common.{◌≡◌, ℕ, Bool, true, false, ◌&&◌, ◌||◌, List, refl, sym, eq-eqb}
use Rattle.std.specs.Prelude.{◌==◌}
use Rattle.std.specs.Cmp.{booleans_Decides}
use Rattle.std.proofs.lemmas.Bool.{eqb-true}
use Rattle.std.proofs.lemmas.Bool.Decides.{Decides-int_eq}
use Rattle.std.proofs.lemmas.Slice.Eq.{bytes_eq-Decides}
use Rattle.std.specs.Str.{bytes_eq}
use Rattle.value_data.specs.Datum.{OwnerData, shared, tenant, Datum, nil, boolean, integer, string, keyword, symbol, list, vector, map, ref, atom, agent, var, fault, Items, no_items, item, Pairs, no_pairs, pair}
use Rattle.value_data.specs.Same.{same, same_owner, same_items, size, within, each_pair, is_pair_among, has_pair}

pub and-left : (a b : Bool) → (a && b) ≡ true → a ≡ true
and-left true b h = refl
and-left false b h = cc

pub and-right : (a b : Bool) → (a && b) ≡ true → b ≡ true
and-right true b h = h
and-right false b h = cc

pub and-both : (a b : Bool) → a ≡ true → b ≡ true → (a && b) ≡ true
and-both a b h k = rw (h, k) refl

pub or-right : (a b : Bool) → b ≡ true → (a || b) ≡ true
or-right true b h = refl
or-right false b h = h

-- what follows from either part of a test follows from it
pub or-cases : (a b r : Bool) → (a ≡ true → r ≡ true) → (b ≡ true → r ≡ true) → (a || b) ≡ true → r ≡ true
or-cases true b r f g h = f refl
or-cases false b r f g h = g h

-- the same, at the first of two parts
pub head-both : (a b c : Bool) → a ≡ true → b ≡ true → ((a && b) || c) ≡ true
head-both a b c h k = rw (h, k) refl

bytes-refl : (s t : List ℕ) → s ≡ t → bytes_eq s t ≡ true
bytes-refl s t e = (bytes_eq-Decides s t).1 e

eqb-self : (n : ℕ) → (n == n) ≡ true
eqb-self n = eq-eqb n n refl

pub each_pair-imp : (test other : Datum → Datum → Bool) → ((l w : Datum) → test l w ≡ true → other l w ≡ true)
    → (qs : Pairs) → each_pair test qs ≡ true → each_pair other qs ≡ true
each_pair-imp test other f no_pairs h = refl
each_pair-imp test other f (pair l w qs) h =
    and-both (other l w) (each_pair other qs) (f l w (and-left (test l w) (each_pair test qs) h))
    (each_pair-imp test other f qs (and-right (test l w) (each_pair test qs) h))

pub has_pair-imp : (key value key2 value2 : Datum → Bool) → ((e : Datum) → key e ≡ true → key2 e ≡ true) → ((e : Datum) → value e ≡ true → value2 e ≡ true)
    → (qs : Pairs) → has_pair key value qs ≡ true → has_pair key2 value2 qs ≡ true
has_pair-imp key value key2 value2 f g no_pairs h = h
has_pair-imp key value key2 value2 f g (pair l w qs) h =
    or-cases (key l && value w) (has_pair key value qs) ((key2 l && value2 w) || has_pair key2 value2 qs)
    (λ a. head-both (key2 l) (value2 w) (has_pair key2 value2 qs) (f l (and-left (key l) (value w) a)) (g w (and-right (key l) (value w) a)))
    (λ b. or-right (key2 l && value2 w) (has_pair key2 value2 qs) (has_pair-imp key value key2 value2 f g qs b))
    h

within-grows : (ps qs : Pairs) (l w : Datum) → within ps qs ≡ true → within ps (pair l w qs) ≡ true
within-grows no_pairs qs l w h = refl
within-grows (pair k v ps) qs l w h =
    and-both (has_pair (same k) (same v) (pair l w qs)) (within ps (pair l w qs))
    (or-right (same k l && same v w) (has_pair (same k) (same v) qs) (and-left (has_pair (same k) (same v) qs) (within ps qs) h))
    (within-grows ps qs l w (and-right (has_pair (same k) (same v) qs) (within ps qs) h))

owner-refl : (o : OwnerData) → same_owner o o ≡ true
owner-refl shared = refl
owner-refl (tenant t) = eqb-self t

mutual
  pub same-refl : (d : Datum) → same d d ≡ true
  same-refl nil = refl
  same-refl (boolean b) = (booleans_Decides b b).1 refl
  same-refl (integer n) = (Decides-int_eq n n).1 refl
  same-refl (string s) = bytes-refl s s refl
  same-refl (keyword s) = bytes-refl s s refl
  same-refl (symbol s) = bytes-refl s s refl
  same-refl (list ds) = items-refl ds
  same-refl (vector ds) = items-refl ds
  same-refl (map ps) =
      and-both (size ps == size ps) (within ps ps && each_pair (is_pair_among ps) ps) (eqb-self (size ps))
      (and-both (within ps ps) (each_pair (is_pair_among ps) ps) (within-refl ps) (among-refl ps))
  same-refl (ref o n) = and-both (same_owner o o) (n == n) (owner-refl o) (eqb-self n)
  same-refl (atom n) = eqb-self n
  same-refl (agent n) = eqb-self n
  same-refl (var s t) = and-both (bytes_eq s s) (bytes_eq t t) (bytes-refl s s refl) (bytes-refl t t refl)
  same-refl (fault s t) = and-both (bytes_eq s s) (bytes_eq t t) (bytes-refl s s refl) (bytes-refl t t refl)

  pub items-refl : (ds : Items) → same_items ds ds ≡ true
  items-refl no_items = refl
  items-refl (item d ds) = and-both (same d d) (same_items ds ds) (same-refl d) (items-refl ds)

  within-refl : (ps : Pairs) → within ps ps ≡ true
  within-refl no_pairs = refl
  within-refl (pair k v ps) =
      and-both (has_pair (same k) (same v) (pair k v ps)) (within ps (pair k v ps))
      (head-both (same k k) (same v v) (has_pair (same k) (same v) ps) (same-refl k) (same-refl v))
      (within-grows ps ps k v (within-refl ps))

  among-refl : (ps : Pairs) → each_pair (is_pair_among ps) ps ≡ true
  among-refl no_pairs = refl
  among-refl (pair k v ps) =
      and-both (is_pair_among (pair k v ps) k v) (each_pair (is_pair_among (pair k v ps)) ps)
      (head-both (same k k) (same v v) (is_pair_among ps k v) (same-refl k) (same-refl v))
      (each_pair-imp (is_pair_among ps) (is_pair_among (pair k v ps)) (λ l w. or-right (same k l && same v w) (is_pair_among ps l w)) ps (among-refl ps))

-- a pair that passes stands among the others where its tests are equality the other way
has_pair-among : (k v : Datum) → ((e : Datum) → same k e ≡ true → same e k ≡ true) → ((e : Datum) → same v e ≡ true → same e v ≡ true)
    → (qs : Pairs) → has_pair (same k) (same v) qs ≡ true → is_pair_among qs k v ≡ true
has_pair-among k v f g no_pairs h = h
has_pair-among k v f g (pair l w qs) h =
    or-cases (same k l && same v w) (has_pair (same k) (same v) qs) ((same l k && same w v) || is_pair_among qs k v)
    (λ a. head-both (same l k) (same w v) (is_pair_among qs k v) (f l (and-left (same k l) (same v w) a)) (g w (and-right (same k l) (same v w) a)))
    (λ b. or-right (same l k && same w v) (is_pair_among qs k v) (has_pair-among k v f g qs b))
    h

each_pair-within : (ps : Pairs) → ((l w : Datum) → is_pair_among ps l w ≡ true → has_pair (same l) (same w) ps ≡ true)
    → (qs : Pairs) → each_pair (is_pair_among ps) qs ≡ true → within qs ps ≡ true
each_pair-within ps f no_pairs h = refl
each_pair-within ps f (pair l w qs) h =
    and-both (has_pair (same l) (same w) ps) (within qs ps) (f l w (and-left (is_pair_among ps l w) (each_pair (is_pair_among ps) qs) h))
    (each_pair-within ps f qs (and-right (is_pair_among ps l w) (each_pair (is_pair_among ps) qs) h))

owner-sym : (o p : OwnerData) → same_owner o p ≡ true → same_owner p o ≡ true
owner-sym shared shared h = refl
owner-sym shared (tenant u) h = h
owner-sym (tenant t) shared h = h
owner-sym (tenant t) (tenant u) h = eq-eqb u t (sym (eqb-true t u h))

two-sym : (s t m n : List ℕ) → (bytes_eq s t && bytes_eq m n) ≡ true → (bytes_eq t s && bytes_eq n m) ≡ true
two-sym s t m n h =
    and-both (bytes_eq t s) (bytes_eq n m)
    (bytes-refl t s (sym ((bytes_eq-Decides s t).0 (and-left (bytes_eq s t) (bytes_eq m n) h))))
    (bytes-refl n m (sym ((bytes_eq-Decides m n).0 (and-right (bytes_eq s t) (bytes_eq m n) h))))

mutual
  pub same-sym : (d e : Datum) → same d e ≡ true → same e d ≡ true
  same-sym nil nil h = refl
  same-sym (boolean b) (boolean c) h = (booleans_Decides c b).1 (sym ((booleans_Decides b c).0 h))
  same-sym (integer m) (integer n) h = (Decides-int_eq n m).1 (sym ((Decides-int_eq m n).0 h))
  same-sym (string s) (string t) h = bytes-refl t s (sym ((bytes_eq-Decides s t).0 h))
  same-sym (keyword s) (keyword t) h = bytes-refl t s (sym ((bytes_eq-Decides s t).0 h))
  same-sym (symbol s) (symbol t) h = bytes-refl t s (sym ((bytes_eq-Decides s t).0 h))
  same-sym (list ds) (list es) h = items-sym ds es h
  same-sym (list ds) (vector es) h = items-sym ds es h
  same-sym (vector ds) (list es) h = items-sym ds es h
  same-sym (vector ds) (vector es) h = items-sym ds es h
  same-sym (map ps) (map qs) h =
      let parts : (within ps qs && each_pair (is_pair_among ps) qs) ≡ true = and-right (size ps == size qs) (within ps qs && each_pair (is_pair_among ps) qs) h in
      and-both (size qs == size ps) (within qs ps && each_pair (is_pair_among qs) ps)
      (eq-eqb (size qs) (size ps) (sym (eqb-true (size ps) (size qs) (and-left (size ps == size qs) (within ps qs && each_pair (is_pair_among ps) qs) h))))
      (and-both (within qs ps) (each_pair (is_pair_among qs) ps)
      (each_pair-within ps (is_pair_among-sym ps) qs (and-right (within ps qs) (each_pair (is_pair_among ps) qs) parts))
      (within-sym ps qs (and-left (within ps qs) (each_pair (is_pair_among ps) qs) parts)))
  same-sym (ref o m) (ref p n) h =
      and-both (same_owner p o) (n == m) (owner-sym o p (and-left (same_owner o p) (m == n) h))
      (eq-eqb n m (sym (eqb-true m n (and-right (same_owner o p) (m == n) h))))
  same-sym (atom m) (atom n) h = eq-eqb n m (sym (eqb-true m n h))
  same-sym (agent m) (agent n) h = eq-eqb n m (sym (eqb-true m n h))
  same-sym (var s m) (var t n) h = two-sym s t m n h
  same-sym (fault s m) (fault t n) h = two-sym s t m n h
  same-sym d e h = absurd (cc)

  items-sym : (ds es : Items) → same_items ds es ≡ true → same_items es ds ≡ true
  items-sym no_items no_items h = refl
  items-sym no_items (item e es) h = h
  items-sym (item d ds) no_items h = h
  items-sym (item d ds) (item e es) h =
      and-both (same e d) (same_items es ds) (same-sym d e (and-left (same d e) (same_items ds es) h)) (items-sym ds es (and-right (same d e) (same_items ds es) h))

  within-sym : (ps qs : Pairs) → within ps qs ≡ true → each_pair (is_pair_among qs) ps ≡ true
  within-sym no_pairs qs h = refl
  within-sym (pair k v ps) qs h =
      and-both (is_pair_among qs k v) (each_pair (is_pair_among qs) ps)
      (has_pair-among k v (same-sym k) (same-sym v) qs (and-left (has_pair (same k) (same v) qs) (within ps qs) h))
      (within-sym ps qs (and-right (has_pair (same k) (same v) qs) (within ps qs) h))

  is_pair_among-sym : (ps : Pairs) (l w : Datum) → is_pair_among ps l w ≡ true → has_pair (same l) (same w) ps ≡ true
  is_pair_among-sym no_pairs l w h = h
  is_pair_among-sym (pair k v ps) l w h =
      or-cases (same k l && same v w) (is_pair_among ps l w) ((same l k && same w v) || has_pair (same l) (same w) ps)
      (λ a. head-both (same l k) (same w v) (has_pair (same l) (same w) ps) (same-sym k l (and-left (same k l) (same v w) a)) (same-sym v w (and-right (same k l) (same v w) a)))
      (λ b. or-right (same l k && same w v) (has_pair (same l) (same w) ps) (is_pair_among-sym ps l w b))
      h
