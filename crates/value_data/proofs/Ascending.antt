-- Maps whose index is built at once, from places in an order in which the keys ascend.
use Rattle.std.proofs.Common.{◌≡◌, ⊎_elim, ℕ, zero, suc, ◌+◌, ◌<◌, ◌≤◌, true, not, List, [], ◌∷◌, ◌++◌, length, get_or, None, take, map, refl, sym, ap, ◌∙◌, subst, append-nil, add-one, is_lt, arith}
use Rattle.std.specs.Prelude.{IsPermutation}
use Rattle.std.specs.List.{zip}
use Rattle.std.specs.declared.cmp.Ordering.{Ordering}
use Rattle.std.specs.declared.cmp.Ordering.TheVariants.{Less, Equal, Greater}
use Rattle.std.proofs.lemmas.List.{length-map}
use Rattle.std.proofs.lemmas.Bool.{cases_lt}
use Rattle.std.proofs.lemmas.List.Sorted.{All-permutation, Contains-permutation, length_permutation}
use Rattle.chunked_list.specs.Places.{first_places}
use Rattle.chunked_list.proofs.InOrder.{long, all-first, contains-first}
use Rattle.value_data.specs.Datum.{Datum, Items, Pairs, no_pairs, pair}
use Rattle.value_data.specs.Same.{size}
use Rattle.value_data.specs.Keyed.{has_key, keys_of, behind_all}
use Rattle.value_data.specs.Repeats.{first_repeat}
use Rattle.value_data.specs.Listed.{listed, pairs_of}
use Rattle.value_data.specs.Inside.View.{view, pair_view, items_view, pairs_view}
use Rattle.value_data.specs.declared.value.Value.{Value}
use Rattle.value_data.specs.Inside.Placed.{are_distinct}
use Rattle.value_data.specs.Inside.Order.{order, sort_key}
use Rattle.value_data.specs.Inside.Index.{key_at, ArePlaces, Ascend, Indexes}
use Rattle.value_data.proofs.Ordered.{order-Less}
use Rattle.value_data.proofs.Equivalence.{and-both}
use Rattle.value_data.proofs.Tables.{has_key-first, true-not}
use Rattle.value_data.specs.Inside.Seen.{key_in, value_of_pair}
use Rattle.value_data.proofs.Lists.{listed-of}
use Rattle.value_data.proofs.Removing.{no-repeat, take-past}
use Rattle.value_data.proofs.Searching.{any-default, none-at, one-rank}

all-ascend : (ps : Pairs) (ns : List ℕ) → Ascend ps ns → (i j : ℕ) → i < j → j < length ns → order (key_at ps (get_or ns i 0)) (key_at ps (get_or ns j 0)) ≡ Less
all-ascend ps ns h i zero l k = absurd (omega (arith, l))
all-ascend ps ns h i (suc m) l k =
    let next : m + 1 ≡ suc m = omega arith in
    let step : order (key_at ps (get_or ns m 0)) (key_at ps (get_or ns (suc m) 0)) ≡ Less =
    subst (λ (j : ℕ). order (key_at ps (get_or ns m 0)) (key_at ps (get_or ns j 0)) ≡ Less) next (h m (omega (arith, k))) in
    ⊎_elim
    (λ (a : i < m). order-Less (key_at ps (get_or ns i 0)) (key_at ps (get_or ns m 0)) (key_at ps (get_or ns (suc m) 0)) (all-ascend ps ns h i m a (omega (arith, k))) step)
    (λ (a : m ≤ i).
    let here : m ≡ i = omega (arith, a, l) in
    subst (λ (n : ℕ). order (key_at ps (get_or ns n 0)) (key_at ps (get_or ns (suc m) 0)) ≡ Less) here step)
    (cases_lt i m)

pub indexes-ascending : (ps : Pairs) (ns : List ℕ) → IsPermutation (first_places (size ps)) ns → Ascend ps ns → Indexes ns ps
indexes-ascending ps ns p h = record {
  counted = omega (arith, length_permutation (first_places (size ps)) ns p, long (size ps));
  within = All-permutation (λ n. n < size ps) (first_places (size ps)) ns p (all-first (size ps));
  complete = λ n l. Contains-permutation (first_places (size ps)) ns n p (contains-first (size ps) n l);
  ascending = all-ascend ps ns h;
}

distinct : (ps : Pairs) → ((i j : ℕ) → i < j → j < size ps → key_at ps i ≡ key_at ps j → ⊥) → are_distinct ps ≡ true
distinct no_pairs f = refl
distinct (pair k v ps) f =
    and-both (not (has_key ps k)) (are_distinct ps)
    (true-not (has_key ps k) (has_key-first ps k (none-at ps k (λ m l e. f 0 (suc m) (omega arith) (omega (arith, l)) (sym e)))))
    (distinct ps (λ i j l m e. f (suc i) (suc j) (omega (arith, l)) (omega (arith, m)) e))

pub distinct-ascending : (ps : Pairs) (ns : List ℕ) → Indexes ns ps → are_distinct ps ≡ true
distinct-ascending ps ns h =
    distinct ps
    (λ i j l m e.
    let a = h.complete i (omega (arith, l, m)) in
    let b = h.complete j m in
    let at-a : get_or ns a.0 0 ≡ i = any-default ns a.0 0 i a.1 ∙ a.2 in
    let at-b : get_or ns b.0 0 ≡ j = any-default ns b.0 0 j b.1 ∙ b.2 in
    let one : a.0 ≡ b.0 = one-rank ns ps h a.0 b.0 a.1 b.1 (ap (key_at ps) at-a ∙ e ∙ ap (key_at ps) (sym at-b)) in
    omega (arith, l, at-a, at-b, ap (λ (k : ℕ). get_or ns k 0) one))

-- the key of a pair at a place
pub row-got : (xs : List (Value × Value)) (n : ℕ) (p : Value × Value) → p ≡ get_or xs n p → n < length xs → sort_key (view p.0) ≡ key_at (pairs_view xs) n
row-got [] n p is h = absurd (omega (arith, h))
row-got (x ∷ xs) zero p is h = ap (λ (q : Value × Value). sort_key (view q.0)) is
row-got (x ∷ xs) (suc n) p is h = row-got xs n p is (omega (arith, h))

pub size-row : (xs : List (Value × Value)) → size (pairs_view xs) ≡ length xs
size-row [] = refl
size-row (x ∷ xs) = omega (arith, size-row xs)

pub places-ascending : (count : ℕ) (ns : List ℕ) → IsPermutation (first_places count) ns → ArePlaces ns count
places-ascending count ns p = record {
  counted = omega (arith, length_permutation (first_places count) ns p, long count);
  within = All-permutation (λ n. n < count) (first_places count) ns p (all-first count);
}

pub index-ascending : (xs : List (Value × Value)) (ns : List ℕ) → IsPermutation (first_places (length xs)) ns → Ascend (pairs_view xs) ns → Indexes ns (pairs_view xs)
index-ascending xs ns p h = indexes-ascending (pairs_view xs) ns (subst (λ (n : ℕ). IsPermutation (first_places n) ns) (sym (size-row xs)) p) h

pub none-repeats : (xs : List (Value × Value)) → are_distinct (pairs_view xs) ≡ true → first_repeat (keys_of (pairs_view xs)) ≡ None
none-repeats xs d =
    let qs : List (Datum × Datum) = map pair_view xs in
    no-repeat qs (length qs) (omega arith) (ap (λ (rs : List (Datum × Datum)). are_distinct (pairs_of rs)) (take-past qs (length qs) (omega arith)) ∙ d)

pub less-than : (o : Ordering) → is_lt o ≡ true → o ≡ Less
less-than Less e = refl
less-than Equal e = absurd (cc)
less-than Greater e = absurd (cc)

-- rows of pairs
pub row-take : (xs : List (Value × Value)) (n : ℕ) (p : Value × Value) → p ≡ get_or xs n p → n < length xs
    → pairs_view (take (n + 1) xs) ≡ behind_all (pairs_view (take n xs)) (view p.0) (view p.1)
row-take xs n p is h = rw (add-one) (more xs n is h)
  where
    more : (ys : List (Value × Value)) (m : ℕ) → p ≡ get_or ys m p → m < length ys → pairs_view (take (suc m) ys) ≡ behind_all (pairs_view (take m ys)) (view p.0) (view p.1)
    more [] m e l = absurd (omega (arith, l))
    more (y ∷ ys) zero e l = ap (λ (q : Value × Value). pair (view q.0) (view q.1) no_pairs) (sym e)
    more (y ∷ ys) (suc m) e l = ap (pair (view y.0) (view y.1)) (more ys m e (omega (arith, l)))

pub row-whole : (xs : List (Value × Value)) (n : ℕ) → length xs ≤ n → pairs_view (take n xs) ≡ pairs_view xs
row-whole xs n h = ap (λ (ys : List (Value × Value)). pairs_view ys) (take-past xs n h)

-- keys and values that were parted stand beside each other again
pub zip-parts : (qs : List (Datum × Datum)) → zip (map key_in qs) (map value_of_pair qs) ≡ qs
zip-parts [] = refl
zip-parts (q ∷ qs) = ap (λ (rs : List (Datum × Datum)). q ∷ rs) (zip-parts qs)

module _ (ks vs : List Value) (rest qs : List (Datum × Datum)) (none : rest ≡ []) (keys : map view ks ++ map key_in rest ≡ map key_in qs)
    (values : map view vs ++ map value_of_pair rest ≡ map value_of_pair qs) where
  keys-are : map view ks ≡ map key_in qs
  keys-are = sym (append-nil (map view ks)) ∙ ap (λ (rs : List (Datum × Datum)). map view ks ++ map key_in rs) (sym none) ∙ keys

  values-are : map view vs ≡ map value_of_pair qs
  values-are = sym (append-nil (map view vs)) ∙ ap (λ (rs : List (Datum × Datum)). map view vs ++ map value_of_pair rs) (sym none) ∙ values

  pub parted-even : (a b : Items) → a ≡ items_view ks → b ≡ items_view vs → length (listed b) ≡ length (listed a)
  parted-even a b e f =
      ap (λ (d : Items). length (listed d)) f
      ∙ ap (λ (ds : List Datum). length ds) (listed-of (map view vs) ∙ values-are)
      ∙ length-map qs value_of_pair
      ∙ sym (length-map qs key_in)
      ∙ ap (λ (ds : List Datum). length ds) (sym (listed-of (map view ks) ∙ keys-are))
      ∙ ap (λ (d : Items). length (listed d)) (sym e)

  pub parted-whole : (a b : Items) → a ≡ items_view ks → b ≡ items_view vs → zip (listed a) (listed b) ≡ qs
  parted-whole a b e f =
      ap (λ (d : Items). zip (listed d) (listed b)) e
      ∙ ap (λ (d : Items). zip (listed (items_view ks)) (listed d)) f
      ∙ ap (λ (ds : List Datum). zip ds (listed (items_view vs))) (listed-of (map view ks) ∙ keys-are)
      ∙ ap (λ (ds : List Datum). zip (map key_in qs) ds) (listed-of (map view vs) ∙ values-are)
      ∙ zip-parts qs

pub own-length : (count : ℕ) (ns ms : List ℕ) → ms ≡ ns → IsPermutation (first_places count) ns → IsPermutation (first_places (length ms)) ms
own-length count ns ms e p =
    let same : count ≡ length ns = sym (length_permutation (first_places count) ns p ∙ long count) in
    subst (λ (ks : List ℕ). IsPermutation (first_places (length ks)) ks) (sym e) (subst (λ (n : ℕ). IsPermutation (first_places n) ns) same p)

-- the index of a row, by what its places were sorted and compared as
pub built-index : (xs ys zs : List (Value × Value)) (ns ms index : List ℕ) → ys ≡ xs → zs ≡ xs → ms ≡ ns → index ≡ ns
    → IsPermutation (first_places (length ys)) ns → Ascend (pairs_view zs) ms → Indexes index (pairs_view xs)
built-index xs ys zs ns ms index e f g i p h =
    subst (λ (ks : List ℕ). Indexes ks (pairs_view xs)) (sym i)
    (index-ascending xs ns (subst (λ (ws : List (Value × Value)). IsPermutation (first_places (length ws)) ns) e p)
    (subst (λ (ks : List ℕ). Ascend (pairs_view xs) ks) g (subst (λ (ws : List (Value × Value)). Ascend (pairs_view ws) ms) f h)))
