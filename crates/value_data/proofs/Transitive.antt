-- What is equal to an equal value is equal.
use Rattle.std.proofs.Common.{◌≡◌, Bool, true, false, ◌&&◌, ◌||◌, refl, sym, ap, ◌∙◌, subst, eq-eqb}
use Rattle.std.specs.Prelude.{◌==◌, bytes_eq}
use Rattle.std.specs.Cmp.{booleans_Decides}
use Rattle.std.proofs.lemmas.Bool.{eqb-true}
use Rattle.std.proofs.lemmas.Bool.Decides.{Decides-int_eq}
use Rattle.std.proofs.lemmas.Slice.Eq.{bytes_eq-Decides}
use Rattle.value_data.specs.Datum.{OwnerData, shared, tenant, Datum, nil, boolean, integer, string, keyword, symbol, list, vector, map, ref, atom, agent, var, fault, Items, no_items, item, Pairs, no_pairs, pair}
use Rattle.value_data.specs.Same.{same, same_owner, same_items, size, within, each_pair, is_pair_among, has_pair}
use Rattle.value_data.proofs.Equivalence.{and-left, and-right, and-both, or-right, or-cases, head-both, each_pair-imp, has_pair-imp}

-- no list, vector or map
abbrev pub is_leaf : Datum → Bool
is_leaf (list ds) = false
is_leaf (vector ds) = false
is_leaf (map ps) = false
is_leaf _ = true

owner-is : (o p : OwnerData) → same_owner o p ≡ true → o ≡ p
owner-is shared shared h = refl
owner-is shared (tenant u) h = absurd (cc)
owner-is (tenant t) shared h = absurd (cc)
owner-is (tenant t) (tenant u) h = ap tenant (eqb-true t u h)

-- what is equal to a value without parts is that value
pub leaf-is : (d e : Datum) → is_leaf d ≡ true → same d e ≡ true → d ≡ e
leaf-is nil nil l h = refl
leaf-is (boolean b) (boolean c) l h = ap boolean ((booleans_Decides b c).0 h)
leaf-is (integer m) (integer n) l h = ap integer ((Decides-int_eq m n).0 h)
leaf-is (string s) (string t) l h = ap string ((bytes_eq-Decides s t).0 h)
leaf-is (keyword s) (keyword t) l h = ap keyword ((bytes_eq-Decides s t).0 h)
leaf-is (symbol s) (symbol t) l h = ap symbol ((bytes_eq-Decides s t).0 h)
leaf-is (ref o m) (ref p n) l h =
    rw (owner-is o p (and-left (same_owner o p) (m == n) h), eqb-true m n (and-right (same_owner o p) (m == n) h)) refl
leaf-is (atom m) (atom n) l h = ap atom (eqb-true m n h)
leaf-is (agent m) (agent n) l h = ap agent (eqb-true m n h)
leaf-is (var s m) (var t n) l h =
    rw ((bytes_eq-Decides s t).0 (and-left (bytes_eq s t) (bytes_eq m n) h), (bytes_eq-Decides m n).0 (and-right (bytes_eq s t) (bytes_eq m n) h)) refl
leaf-is (fault s m) (fault t n) l h =
    rw ((bytes_eq-Decides s t).0 (and-left (bytes_eq s t) (bytes_eq m n) h), (bytes_eq-Decides m n).0 (and-right (bytes_eq s t) (bytes_eq m n) h)) refl
leaf-is d e l h = absurd (cc)

-- a vector is equal to what an equal list is equal to
pub vector-as-list : (ds : Items) (e : Datum) → same (vector ds) e ≡ same (list ds) e
vector-as-list ds (list es) = refl
vector-as-list ds (vector es) = refl
vector-as-list ds _ = refl

-- what is equal to a list has items, and is equal to all that a list of them is equal to
abbrev HasItems : Items → Datum → Type 0
HasItems ds e =
    (es : Items) × ((same_items ds es ≡ true) × ((f : Datum) → same e f ≡ same (list es) f) × ((cs : Items) → same (list cs) e ≡ same_items cs es))

has-items : (ds : Items) (e : Datum) → same (list ds) e ≡ true → HasItems ds e
has-items ds (list es) h = (es, (h, λ f. refl, λ cs. refl))
has-items ds (vector es) h = (es, (h, λ f. vector-as-list es f, λ cs. refl))
has-items ds e h = absurd (cc)

has-pairs : (ps : Pairs) (e : Datum) → same (map ps) e ≡ true → (qs : Pairs) × (e ≡ map qs)
has-pairs ps (map qs) h = (qs, refl)
has-pairs ps e h = absurd (cc)

-- a pair that passes, among pairs within others, passes among those
has_pair-within : (key value : Datum → Bool) → ((l e : Datum) → key l ≡ true → same l e ≡ true → key e ≡ true)
    → ((w e : Datum) → value w ≡ true → same w e ≡ true → value e ≡ true)
    → (qs rs : Pairs) → has_pair key value qs ≡ true → within qs rs ≡ true → has_pair key value rs ≡ true
has_pair-within key value f g no_pairs rs h i = absurd (cc)
has_pair-within key value f g (pair l w qs) rs h i =
    or-cases (key l && value w) (has_pair key value qs) (has_pair key value rs)
    (λ a. has_pair-imp (same l) (same w) key value (λ e. f l e (and-left (key l) (value w) a)) (λ e. g w e (and-right (key l) (value w) a)) rs
    (and-left (has_pair (same l) (same w) rs) (within qs rs) i))
    (λ b. has_pair-within key value f g qs rs b (and-right (has_pair (same l) (same w) rs) (within qs rs) i))
    h

-- the same for the other direction: a pair among those that stand among others
is_pair_among-each : (test : Datum → Datum → Bool) (m x : Datum) → ((l w : Datum) → test l w ≡ true → same l m ≡ true → same w x ≡ true → test m x ≡ true)
    → (qs : Pairs) → is_pair_among qs m x ≡ true → each_pair test qs ≡ true → test m x ≡ true
is_pair_among-each test m x f no_pairs h i = absurd (cc)
is_pair_among-each test m x f (pair l w qs) h i =
    or-cases (same l m && same w x) (is_pair_among qs m x) (test m x)
    (λ a. f l w (and-left (test l w) (each_pair test qs) i) (and-left (same l m) (same w x) a) (and-right (same l m) (same w x) a))
    (λ b. is_pair_among-each test m x f qs b (and-right (test l w) (each_pair test qs) i))
    h

-- lists, where their items are transitive
list-trans : (ds : Items) → ((es fs : Items) → same_items ds es ≡ true → same_items es fs ≡ true → same_items ds fs ≡ true)
    → (e f : Datum) → same (list ds) e ≡ true → same e f ≡ true → same (list ds) f ≡ true
list-trans ds items e f h i =
    let es : HasItems ds e = has-items ds e h in
    let fs : HasItems es.0 f = has-items es.0 f (sym (es.1.1 f) ∙ i) in
    fs.1.2 ds ∙ items es.0 fs.0 es.1.0 fs.1.0

-- maps, where their pairs are transitive
module _ (ps : Pairs) (inside : (qs rs : Pairs) → within ps qs ≡ true → within qs rs ≡ true → within ps rs ≡ true)
    (among : (l w m x : Datum) → is_pair_among ps l w ≡ true → same l m ≡ true → same w x ≡ true → is_pair_among ps m x ≡ true) where
  pairs-trans : (qs rs : Pairs) → same (map ps) (map qs) ≡ true → same (map qs) (map rs) ≡ true → same (map ps) (map rs) ≡ true
  pairs-trans qs rs h i =
      let ours : (within ps qs && each_pair (is_pair_among ps) qs) ≡ true = and-right (size ps == size qs) (within ps qs && each_pair (is_pair_among ps) qs) h in
      let theirs : (within qs rs && each_pair (is_pair_among qs) rs) ≡ true = and-right (size qs == size rs) (within qs rs && each_pair (is_pair_among qs) rs) i in
      and-both (size ps == size rs) (within ps rs && each_pair (is_pair_among ps) rs)
      (eq-eqb (size ps) (size rs)
      (eqb-true (size ps) (size qs) (and-left (size ps == size qs) (within ps qs && each_pair (is_pair_among ps) qs) h)
      ∙ eqb-true (size qs) (size rs) (and-left (size qs == size rs) (within qs rs && each_pair (is_pair_among qs) rs) i)))
      (and-both (within ps rs) (each_pair (is_pair_among ps) rs)
      (inside qs rs (and-left (within ps qs) (each_pair (is_pair_among ps) qs) ours) (and-left (within qs rs) (each_pair (is_pair_among qs) rs) theirs))
      (each_pair-imp (is_pair_among qs) (is_pair_among ps)
      (λ m x a. is_pair_among-each (is_pair_among ps) m x (λ l w b k v. among l w m x b k v) qs a (and-right (within ps qs) (each_pair (is_pair_among ps) qs) ours))
      rs (and-right (within qs rs) (each_pair (is_pair_among qs) rs) theirs)))

  map-trans : (e f : Datum) → same (map ps) e ≡ true → same e f ≡ true → same (map ps) f ≡ true
  map-trans e f h i =
      let qs : (qs : Pairs) × (e ≡ map qs) = has-pairs ps e h in
      let j : same (map qs.0) f ≡ true = subst (λ (x : Datum). same x f ≡ true) qs.1 i in
      let rs : (rs : Pairs) × (f ≡ map rs) = has-pairs qs.0 f j in
      subst (λ (x : Datum). same (map ps) x ≡ true) (sym rs.1)
      (pairs-trans qs.0 rs.0 (subst (λ (x : Datum). same (map ps) x ≡ true) qs.1 h) (subst (λ (x : Datum). same (map qs.0) x ≡ true) rs.1 j))

mutual
  pub same-trans : (d e f : Datum) → same d e ≡ true → same e f ≡ true → same d f ≡ true
  same-trans (list ds) e f h i = list-trans ds (items-trans ds) e f h i
  same-trans (vector ds) e f h i = vector-as-list ds f ∙ list-trans ds (items-trans ds) e f (sym (vector-as-list ds e) ∙ h) i
  same-trans (map ps) e f h i = map-trans ps (within-trans ps) (is_pair_among-trans ps) e f h i
  same-trans d e f h i = subst (λ (x : Datum). same x f ≡ true) (sym (leaf-is d e refl h)) i

  items-trans : (ds es fs : Items) → same_items ds es ≡ true → same_items es fs ≡ true → same_items ds fs ≡ true
  items-trans no_items no_items fs h i = i
  items-trans no_items (item e es) fs h i = absurd (cc)
  items-trans (item d ds) no_items fs h i = absurd (cc)
  items-trans (item d ds) (item e es) no_items h i = absurd (cc)
  items-trans (item d ds) (item e es) (item f fs) h i =
      and-both (same d f) (same_items ds fs)
      (same-trans d e f (and-left (same d e) (same_items ds es) h) (and-left (same e f) (same_items es fs) i))
      (items-trans ds es fs (and-right (same d e) (same_items ds es) h) (and-right (same e f) (same_items es fs) i))

  within-trans : (ps qs rs : Pairs) → within ps qs ≡ true → within qs rs ≡ true → within ps rs ≡ true
  within-trans no_pairs qs rs h i = refl
  within-trans (pair k v ps) qs rs h i =
      and-both (has_pair (same k) (same v) rs) (within ps rs)
      (has_pair-within (same k) (same v) (λ l e. same-trans k l e) (λ w e. same-trans v w e) qs rs (and-left (has_pair (same k) (same v) qs) (within ps qs) h) i)
      (within-trans ps qs rs (and-right (has_pair (same k) (same v) qs) (within ps qs) h) i)

  is_pair_among-trans : (ps : Pairs) (l w m x : Datum) → is_pair_among ps l w ≡ true → same l m ≡ true → same w x ≡ true → is_pair_among ps m x ≡ true
  is_pair_among-trans no_pairs l w m x h a b = h
  is_pair_among-trans (pair k v ps) l w m x h a b =
      or-cases (same k l && same v w) (is_pair_among ps l w) ((same k m && same v x) || is_pair_among ps m x)
      (λ t. head-both (same k m) (same v x) (is_pair_among ps m x)
      (same-trans k l m (and-left (same k l) (same v w) t) a) (same-trans v w x (and-right (same k l) (same v w) t) b))
      (λ t. or-right (same k m && same v x) (is_pair_among ps m x) (is_pair_among-trans ps l w m x t a b))
      h
