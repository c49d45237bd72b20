-- Keys that are taken out, and keys that are repeated.
use Rattle.std.proofs.Common.{◌≡◌, ℕ, zero, suc, ◌+◌, ◌<◌, ◌≤◌, Bool, true, false, not, ◌&&◌, ◌||◌, List, [], ◌∷◌, length, get_or, take, drop, map, filter, Option, Some, None, option_map, add-one, refl, sym, ap, ◌∙◌, arith}
use Rattle.std.specs.Prelude.{if◌then◌else◌}
use Rattle.value_data.specs.Datum.{Datum, Items, no_items, item, Pairs, no_pairs, pair}
use Rattle.value_data.specs.Inside.View.{view, items_view, pairs_view}
use Rattle.value_data.specs.declared.value.Value.{Value}
use Rattle.value_data.specs.Same.{same}
use Rattle.value_data.specs.Repeats.{is_one_of, repeat_behind, first_repeat}
use Rattle.value_data.specs.Keyed.{has_key, keys_of}
use Rattle.value_data.specs.Inside.Placed.{first_place, are_distinct, without_at}
use Rattle.value_data.specs.Listed.{items_of, pairs_listed, pairs_of}
use Rattle.std.specs.List.{remove}
use Rattle.value_data.specs.Put.{without_keys}
use Rattle.value_data.proofs.Equivalence.{same-sym, and-left, and-right, and-both}
use Rattle.value_data.proofs.Lists.{pairs_listed-of}
use Rattle.value_data.proofs.Tables.{has_key-along, has_key-first, or-false, differ, not-true, true-not, false-both}

-- ---- the first repeated key

pub keys-view : (ps : List (Value × Value)) (vs : List Value) → map (λ (p : Value × Value). view p.0) ps ≡ map view vs → keys_of (pairs_view ps) ≡ items_view vs
keys-view ps vs h = at ps ∙ ap items_of h
  where
    at : (qs : List (Value × Value)) → keys_of (pairs_view qs) ≡ items_of (map (λ (p : Value × Value). view p.0) qs)
    at [] = refl
    at (q ∷ qs) = ap (item (view q.0)) (at qs)

-- none of the keys is one of those before
abbrev fresh : Items → Pairs → Bool
fresh before no_pairs = true
fresh before (pair k v ps) = not (is_one_of before k) && fresh before ps

fresh-none : (ps : Pairs) → fresh no_items ps ≡ true
fresh-none no_pairs = refl
fresh-none (pair k v ps) = fresh-none ps

fresh-more : (before : Items) (ps : Pairs) (k : Datum) → fresh before ps ≡ true → has_key ps k ≡ false → fresh (item k before) ps ≡ true
fresh-more before no_pairs k h n = refl
fresh-more before (pair l w ps) k h n =
    let both : (same l k ≡ false) × (has_key ps k ≡ false) = or-false (same l k) (has_key ps k) n in
    and-both (not (is_one_of (item k before) l)) (fresh (item k before) ps)
    (true-not _ (false-both (same k l) (is_one_of before l) (differ l k both.0 (same k l) refl) (not-true _ (and-left (not (is_one_of before l)) (fresh before ps) h))))
    (fresh-more before ps k (and-right (not (is_one_of before l)) (fresh before ps) h) both.1)

or-turn : (a b c : Bool) → (a || (b || c)) ≡ ((b || a) || c)
or-turn true true c = refl
or-turn true false c = refl
or-turn false b c = or-end b c
  where
    or-end : (x y : Bool) → (x || y) ≡ ((x || false) || y)
    or-end true y = refl
    or-end false y = refl

or-none : (a : Bool) → (a || false) ≡ true → a ≡ true
or-none true h = refl
or-none false h = h

behind : (t : Bool) (o : Option ℕ) (n : ℕ) → t ≡ false → o ≡ Some n → (if t then Some 0 else option_map (λ m. suc m) o) ≡ Some (suc n)
behind t o n e f = rw (e, f) refl

found : (t : Bool) (o : Option ℕ) → t ≡ true → (if t then Some 0 else option_map (λ (m : ℕ). suc m) o) ≡ Some 0
found t o e = rw e refl

repeats-at : (before : Items) (xs : List (Datum × Datum)) (n : ℕ) (p : Datum × Datum) → p ≡ get_or xs n p → n < length xs
    → fresh before (pairs_of (take n xs)) ≡ true → are_distinct (pairs_of (take n xs)) ≡ true
    → (is_one_of before p.0 || has_key (pairs_of (take n xs)) p.0) ≡ true
    → repeat_behind before (keys_of (pairs_of xs)) ≡ Some n
repeats-at before [] n p is h f d e = absurd (omega (arith, h))
repeats-at before (x ∷ xs) zero p is h f d e =
    found (is_one_of before x.0) _ (ap (λ (q : Datum × Datum). is_one_of before q.0) (sym is) ∙ or-none _ e)
repeats-at before (x ∷ xs) (suc n) p is h f d e =
    let ps = pairs_of (take n xs) in
    let key = x.0 in
    let apart : has_key ps key ≡ false = not-true _ (and-left (not (has_key ps key)) (are_distinct ps) d) in
    behind (is_one_of before key) _ n (not-true _ (and-left (not (is_one_of before key)) (fresh before ps) f))
    (repeats-at (item key before) xs n p is (omega (arith, h))
    (fresh-more before ps key (and-right (not (is_one_of before key)) (fresh before ps) f) apart)
    (and-right (not (has_key ps key)) (are_distinct ps) d)
    (sym (or-turn (is_one_of before p.0) (same key p.0) (has_key ps p.0)) ∙ e))

pub first-repeat : (xs : List (Datum × Datum)) (n : ℕ) (p : Datum × Datum) → p ≡ get_or xs n p → n < length xs
    → are_distinct (pairs_of (take n xs)) ≡ true → has_key (pairs_of (take n xs)) p.0 ≡ true
    → first_repeat (keys_of (pairs_of xs)) ≡ Some n
first-repeat xs n p is h d e = repeats-at no_items xs n p is h (fresh-none (pairs_of (take n xs))) d e

none-behind : (t : Bool) (o : Option ℕ) → t ≡ false → o ≡ None → (if t then Some 0 else option_map (λ (m : ℕ). suc m) o) ≡ None
none-behind t o e f = rw (e, f) refl

repeats-none : (before : Items) (ps : Pairs) → fresh before ps ≡ true → are_distinct ps ≡ true → repeat_behind before (keys_of ps) ≡ None
repeats-none before no_pairs f d = refl
repeats-none before (pair k v ps) f d =
    none-behind (is_one_of before k) _ (not-true _ (and-left (not (is_one_of before k)) (fresh before ps) f))
    (repeats-none (item k before) ps
    (fresh-more before ps k (and-right (not (is_one_of before k)) (fresh before ps) f) (not-true _ (and-left (not (has_key ps k)) (are_distinct ps) d)))
    (and-right (not (has_key ps k)) (are_distinct ps) d))

pub take-past : {A : Type 0} (xs : List A) (n : ℕ) → length xs ≤ n → take n xs ≡ xs
take-past [] zero h = refl
take-past [] (suc n) h = refl
take-past (x ∷ xs) zero h = absurd (omega (arith, h))
take-past (x ∷ xs) (suc n) h = ap (λ ys. x ∷ ys) (take-past xs n (omega (arith, h)))

pub no-repeat : (xs : List (Datum × Datum)) (n : ℕ) → length xs ≤ n → are_distinct (pairs_of (take n xs)) ≡ true → first_repeat (keys_of (pairs_of xs)) ≡ None
no-repeat xs n h d =
    repeats-none no_items (pairs_of xs) (fresh-none (pairs_of xs)) (ap (λ (ys : List (Datum × Datum)). are_distinct (pairs_of ys)) (sym (take-past xs n h)) ∙ d)

-- ---- a key that is taken out

pub two-steps : (k : Datum) (ks : Items) (qs : List (Datum × Datum))
    → filter (λ p. not (same k p.0 || is_one_of ks p.0)) qs ≡ filter (λ p. not (is_one_of ks p.0)) (filter (λ p. not (same k p.0 || false)) qs)
two-steps k ks [] = refl
two-steps k ks (q ∷ qs) = at (same k q.0) (is_one_of ks q.0) refl (two-steps k ks qs)
  where
    at : (a b : Bool) → b ≡ is_one_of ks q.0
        → filter (λ p. not (same k p.0 || is_one_of ks p.0)) qs ≡ filter (λ p. not (is_one_of ks p.0)) (filter (λ p. not (same k p.0 || false)) qs)
        → (if not (a || b) then q ∷ filter (λ p. not (same k p.0 || is_one_of ks p.0)) qs else filter (λ p. not (same k p.0 || is_one_of ks p.0)) qs)
        ≡ filter (λ p. not (is_one_of ks p.0)) (if not (a || false) then q ∷ filter (λ p. not (same k p.0 || false)) qs else filter (λ p. not (same k p.0 || false)) qs)
    at true b e ih = ih
    at false true e ih =
        ih
        ∙ ap (λ c. if not c then q ∷ filter (λ p. not (is_one_of ks p.0)) (filter (λ p. not (same k p.0 || false)) qs)
        else filter (λ p. not (is_one_of ks p.0)) (filter (λ p. not (same k p.0 || false)) qs)) e
    at false false e ih =
        ap (λ (ps : List (Datum × Datum)). q ∷ ps) ih
        ∙ ap (λ c. if not c then q ∷ filter (λ p. not (is_one_of ks p.0)) (filter (λ p. not (same k p.0 || false)) qs)
        else filter (λ p. not (is_one_of ks p.0)) (filter (λ p. not (same k p.0 || false)) qs)) e

-- one key, and then the others
pub without-more : (ps : Pairs) (k : Datum) (ks : Items) → without_keys ps (item k ks) ≡ without_keys (without_keys ps (item k no_items)) ks
without-more ps k ks =
    ap pairs_of (two-steps k ks (pairs_listed ps))
    ∙ ap (λ (qs : List (Datum × Datum)). pairs_of (filter (λ p. not (is_one_of ks p.0)) qs)) (sym (pairs_listed-of (filter (λ p. not (same k p.0 || false)) (pairs_listed ps))))

all-kept : (qs : List (Datum × Datum)) → filter (λ p. true) qs ≡ qs
all-kept [] = refl
all-kept (q ∷ qs) = ap (λ (ps : List (Datum × Datum)). q ∷ ps) (all-kept qs)

pub without-none : (ps : Pairs) → without_keys ps no_items ≡ ps
without-none ps = ap pairs_of (all-kept (pairs_listed ps)) ∙ listed-pairs ps
  where
    listed-pairs : (qs : Pairs) → pairs_of (pairs_listed qs) ≡ qs
    listed-pairs no_pairs = refl
    listed-pairs (pair k v qs) = ap (pair k v) (listed-pairs qs)

absent-kept : (qs : List (Datum × Datum)) (d : Datum) → has_key (pairs_of qs) d ≡ false → filter (λ p. not (same d p.0 || false)) qs ≡ qs
absent-kept [] d h = refl
absent-kept (q ∷ qs) d h =
    let both : (same q.0 d ≡ false) × (has_key (pairs_of qs) d ≡ false) = or-false (same q.0 d) (has_key (pairs_of qs) d) h in
    ap (λ t. if not (t || false) then q ∷ filter (λ p. not (same d p.0 || false)) qs else filter (λ p. not (same d p.0 || false)) qs) (differ q.0 d both.0 (same d q.0) refl)
    ∙ ap (λ (ps : List (Datum × Datum)). q ∷ ps) (absent-kept qs d both.1)

some : (m n : ℕ) → Some m ≡ Some n → m ≡ n
some m n h = cc

removed-is : (qs : List (Datum × Datum)) (d : Datum) (n : ℕ) → are_distinct (pairs_of qs) ≡ true → first_place (pairs_of qs) d ≡ Some n
    → filter (λ p. not (same d p.0 || false)) qs ≡ remove qs n
removed-is [] d n h e = absurd (cc)
removed-is (q ∷ qs) d n h e =
    at (same q.0 d) refl (first_place (pairs_of qs) d) n
    (λ m f. removed-is qs d m (and-right (not (has_key (pairs_of qs) q.0)) (are_distinct (pairs_of qs)) h) f)
    e
  where
    at : (t : Bool) → same q.0 d ≡ t → (o : Option ℕ) (m : ℕ)
        → ((j : ℕ) → o ≡ Some j → filter (λ p. not (same d p.0 || false)) qs ≡ remove qs j)
        → (if t then Some 0 else option_map (λ (j : ℕ). suc j) o) ≡ Some m
        → filter (λ p. not (same d p.0 || false)) (q ∷ qs) ≡ remove (q ∷ qs) m
    at true is o zero ih f =
        ap (λ t. if not (t || false) then q ∷ filter (λ p. not (same d p.0 || false)) qs else filter (λ p. not (same d p.0 || false)) qs) (same-sym q.0 d is)
        ∙ absent-kept qs d
        (has_key-along (pairs_of qs) d q.0 (same-sym q.0 d is) (not-true _ (and-left (not (has_key (pairs_of qs) q.0)) (are_distinct (pairs_of qs)) h)))
    at true is o (suc m) ih f = absurd (omega (arith, some 0 (suc m) f))
    at false is None m ih f = absurd (cc)
    at false is (Some j) zero ih f = absurd (omega (arith, some (suc j) 0 f))
    at false is (Some j) (suc m) ih f =
        ap (λ t. if not (t || false) then q ∷ filter (λ p. not (same d p.0 || false)) qs else filter (λ p. not (same d p.0 || false)) qs) (differ q.0 d is (same d q.0) refl)
        ∙ ap (λ (ps : List (Datum × Datum)). q ∷ ps) (ih m (ap Some (omega (arith, some (suc j) (suc m) f))))

-- what is left where the key stands at a place, and where it does not stand
pub left-found : (qs rs : List (Datum × Datum)) (d : Datum) (n : ℕ) → are_distinct (pairs_of qs) ≡ true → first_place (pairs_of qs) d ≡ Some n → rs ≡ remove qs n
    → pairs_of rs ≡ without_keys (pairs_of qs) (item d no_items)
left-found qs rs d n h e is =
    ap pairs_of (is ∙ sym (removed-is qs d n h e))
    ∙ ap (λ (ps : List (Datum × Datum)). pairs_of (filter (λ p. not (same d p.0 || false)) ps)) (sym (pairs_listed-of qs))

pub left-absent : (qs : List (Datum × Datum)) (d : Datum) → first_place (pairs_of qs) d ≡ None → pairs_of qs ≡ without_keys (pairs_of qs) (item d no_items)
left-absent qs d e =
    ap pairs_of (sym (absent-kept qs d (has_key-first (pairs_of qs) d e)))
    ∙ ap (λ (ps : List (Datum × Datum)). pairs_of (filter (λ p. not (same d p.0 || false)) ps)) (sym (pairs_listed-of qs))

has_key-filter : (f : Datum × Datum → Bool) (qs : List (Datum × Datum)) (d : Datum) → has_key (pairs_of qs) d ≡ false → has_key (pairs_of (filter f qs)) d ≡ false
has_key-filter f [] d h = refl
has_key-filter f (q ∷ qs) d h =
    let both : (same q.0 d ≡ false) × (has_key (pairs_of qs) d ≡ false) = or-false (same q.0 d) (has_key (pairs_of qs) d) h in
    at (f q) both.0 (has_key-filter f qs d both.1)
  where
    at : (t : Bool) → same q.0 d ≡ false → has_key (pairs_of (filter f qs)) d ≡ false → has_key (pairs_of (if t then q ∷ filter f qs else filter f qs)) d ≡ false
    at true n ih = false-both (same q.0 d) _ n ih
    at false n ih = ih

distinct-filter : (f : Datum × Datum → Bool) (qs : List (Datum × Datum)) → are_distinct (pairs_of qs) ≡ true → are_distinct (pairs_of (filter f qs)) ≡ true
distinct-filter f [] h = refl
distinct-filter f (q ∷ qs) h =
    at (f q) (distinct-filter f qs (and-right (not (has_key (pairs_of qs) q.0)) (are_distinct (pairs_of qs)) h))
    (has_key-filter f qs q.0 (not-true _ (and-left (not (has_key (pairs_of qs) q.0)) (are_distinct (pairs_of qs)) h)))
  where
    at : (t : Bool) → are_distinct (pairs_of (filter f qs)) ≡ true → has_key (pairs_of (filter f qs)) q.0 ≡ false
        → are_distinct (pairs_of (if t then q ∷ filter f qs else filter f qs)) ≡ true
    at true ih n = and-both (not (has_key (pairs_of (filter f qs)) q.0)) (are_distinct (pairs_of (filter f qs))) (true-not _ n) ih
    at false ih n = ih

pub left-distinct : (qs rs : List (Datum × Datum)) (d : Datum) (n : ℕ) → are_distinct (pairs_of qs) ≡ true → first_place (pairs_of qs) d ≡ Some n → rs ≡ remove qs n
    → are_distinct (pairs_of rs) ≡ true
left-distinct qs rs d n h e is =
    ap (λ (ps : List (Datum × Datum)). are_distinct (pairs_of ps)) (is ∙ sym (removed-is qs d n h e))
    ∙ distinct-filter (λ p. not (same d p.0 || false)) qs h

pub left-pairs : (qs rs : List (Datum × Datum)) (n : ℕ) → rs ≡ remove qs n → pairs_of rs ≡ without_at n (pairs_of qs)
left-pairs qs rs n is = ap pairs_of is ∙ at qs n
  where
    at : (ps : List (Datum × Datum)) (m : ℕ) → pairs_of (remove ps m) ≡ without_at m (pairs_of ps)
    at [] zero = refl
    at [] (suc m) = refl
    at (p ∷ ps) zero = refl
    at (p ∷ ps) (suc m) = ap (pair p.0 p.1) (at ps m)

-- ---- key by key

pub keys-behind : (vs : List Value) (i : ℕ) (v : Value) → v ≡ get_or vs i v → i < length vs → items_view (drop i vs) ≡ item (view v) (items_view (drop (i + 1) vs))
keys-behind vs i v is h = rw (add-one) (at vs i is h)
  where
    at : (ws : List Value) (j : ℕ) → v ≡ get_or ws j v → j < length ws → items_view (drop j ws) ≡ item (view v) (items_view (drop (suc j) ws))
    at [] j e l = absurd (omega (arith, l))
    at (w ∷ ws) zero e l = ap (λ (x : Value). item (view x) (items_view ws)) (sym e)
    at (w ∷ ws) (suc j) e l = at ws j e (omega (arith, l))

pub keys-past : (vs : List Value) (i : ℕ) → length vs ≤ i → items_view (drop i vs) ≡ no_items
keys-past [] zero h = refl
keys-past [] (suc i) h = refl
keys-past (v ∷ vs) zero h = absurd (omega (arith, h))
keys-past (v ∷ vs) (suc i) h = keys-past vs i (omega (arith, h))
