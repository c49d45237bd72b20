-- Chains of sort keys compared step by step, and an index compared, searched and added to.
use Rattle.std.proofs.Common.{◌≡◌, inl, inr, ⊎_elim, ℕ, zero, suc, ◌+◌, ◌<◌, ◌≤◌, Bool, true, false, List, [], ◌∷◌, length, get_or, drop, map as each, refl, sym, ap, ◌∙◌, subst, arith}
use Rattle.std.specs.Prelude.{if◌then◌else◌}
use Rattle.std.proofs.lemmas.Bool.{cases_lt}
use Rattle.std.specs.List.{All, Contains}
use Rattle.std.specs.declared.cmp.Ordering.{Ordering}
use Rattle.std.specs.declared.cmp.Ordering.TheVariants.{Less, Equal, Greater}
use Rattle.std.specs.Ordering.{nat_cmp, bool_cmp, is_ne, ordering_then}
use Rattle.std.specs.Cmp.{nat_cmp_is}
use Rattle.value_data.specs.Datum.{Datum, Pairs, no_pairs, pair}
use Rattle.value_data.specs.Inside.View.{view, items_view}
use Rattle.value_data.specs.Listed.{pairs_of}
use Rattle.value_data.specs.declared.value.Value.{Value}
use Rattle.value_data.specs.declared.value.PairsNode.{PairsNode}
use Rattle.value_data.specs.Inside.Held.{EntriesData, TableData}
use Rattle.value_data.specs.Inside.Nodes.{KeepsPairs, seen_pairs, entry_pairs}
use Rattle.value_data.proofs.Sameness.{size-pairs_of}
use Rattle.value_data.specs.Same.{size}
use Rattle.value_data.specs.Inside.Order.{SortKey, number, both, order, chain, sorted_keys, rows, sort_key, items_sort_key}
use Rattle.value_data.specs.Inside.Index.{key_at, row_at, rows_at, ArePlaces, Indexes}
use Rattle.value_data.proofs.Sorted.{IsIn, Ascends, ascending-same, sorted_keys-ascends, sorted_keys-in, in-sorted_keys}

-- ---- two chains, in turn

past : {A : Type 0} (xs : List A) (i : ℕ) → length xs ≤ i → drop i xs ≡ []
past [] zero h = refl
past [] (suc i) h = refl
past (x ∷ xs) zero h = absurd (omega (arith, h))
past (x ∷ xs) (suc i) h = past xs i (omega (arith, h))

module _ {A B : Type 0} (f : A → SortKey) (g : B → SortKey) where
  pub chain-step : (xs : List A) (ys : List B) (i : ℕ) (x : A) (y : B) → i < length xs → i < length ys
      → order (chain (each f (drop i xs))) (chain (each g (drop i ys)))
      ≡ ordering_then (order (f (get_or xs i x)) (g (get_or ys i y))) (order (chain (each f (drop (suc i) xs))) (chain (each g (drop (suc i) ys))))
  chain-step [] ys i x y h k = absurd (omega (arith, h))
  chain-step (a ∷ xs) [] i x y h k = absurd (omega (arith, k))
  chain-step (a ∷ xs) (b ∷ ys) zero x y h k = refl
  chain-step (a ∷ xs) (b ∷ ys) (suc i) x y h k = chain-step xs ys i x y (omega (arith, h)) (omega (arith, k))

  pub chain-longer : (xs : List A) (ys : List B) (i : ℕ) → i < length xs → length ys ≤ i → order (chain (each f (drop i xs))) (chain (each g (drop i ys))) ≡ Greater
  chain-longer xs ys i h k = rw (past ys i k) (more xs i h)
    where
      more : (zs : List A) (j : ℕ) → j < length zs → order (chain (each f (drop j zs))) (number 0) ≡ Greater
      more [] j l = absurd (omega (arith, l))
      more (z ∷ zs) zero l = refl
      more (z ∷ zs) (suc j) l = more zs j (omega (arith, l))

  -- two chains that end together
  pub chain-none : (xs : List A) (ys : List B) (i : ℕ) → length xs ≤ i → length ys ≤ i → Equal ≡ order (chain (each f (drop i xs))) (chain (each g (drop i ys)))
  chain-none xs ys i h k = sym (rw (past xs i h, past ys i k) refl)

  pub chain-end : (xs : List A) (ys : List B) (i : ℕ) → length xs ≡ i → i ≤ length ys
      → nat_cmp (length xs) (length ys) ≡ order (chain (each f (drop i xs))) (chain (each g (drop i ys)))
  chain-end xs ys i h k =
      ⊎_elim
      (λ (l : length xs < length ys). sym (nat_cmp_is (length xs) (length ys) Less l) ∙ sym (rw (past xs i (omega (arith, h))) (more ys i (omega (arith, h, l)))))
      (λ (l : length ys ≤ length xs).
      let same : length xs ≡ length ys = omega (arith, h, k, l) in
      sym (nat_cmp_is (length xs) (length ys) Equal same) ∙ sym (rw (past xs i (omega (arith, h)), past ys i (omega (arith, h, l))) refl))
      (cases_lt (length xs) (length ys))
    where
      more : (zs : List B) (j : ℕ) → j < length zs → order (number 0) (chain (each g (drop j zs))) ≡ Less
      more [] j l = absurd (omega (arith, l))
      more (z ∷ zs) zero l = refl
      more (z ∷ zs) (suc j) l = more zs j (omega (arith, l))

pub items-chain : (vs : List Value) → items_sort_key (items_view vs) ≡ chain (each (λ v. sort_key (view v)) vs)
items-chain [] = refl
items-chain (v ∷ vs) = ap (both (sort_key (view v))) (items-chain vs)

-- ---- parts that decide

pub then-decided : (p q r : Ordering) → true ≡ is_ne p → p ≡ q → p ≡ ordering_then q r
then-decided Less q r h e = rw (sym e) refl
then-decided Equal q r h e = absurd (cc)
then-decided Greater q r h e = rw (sym e) refl

pub then-open : (p q r : Ordering) → false ≡ is_ne p → p ≡ q → ordering_then q r ≡ r
then-open Less q r h e = absurd (cc)
then-open Equal q r h e = rw (sym e) refl
then-open Greater q r h e = absurd (cc)

pub two-decided : (p q r : Ordering) → true ≡ is_ne (ordering_then p q) → ordering_then p q ≡ ordering_then p (ordering_then q r)
two-decided Less q r h = refl
two-decided Equal Less r h = refl
two-decided Equal Equal r h = absurd (cc)
two-decided Equal Greater r h = refl
two-decided Greater q r h = refl

pub two-open : (p q r : Ordering) → false ≡ is_ne (ordering_then p q) → ordering_then p (ordering_then q r) ≡ r
two-open Less q r h = absurd (cc)
two-open Equal Less r h = absurd (cc)
two-open Equal Equal r h = refl
two-open Equal Greater r h = absurd (cc)
two-open Greater q r h = absurd (cc)

pub two-equal : (p q : Ordering) → is_ne (ordering_then p q) ≡ false → q ≡ Equal
two-equal Less q h = absurd (cc)
two-equal Equal Less h = absurd (cc)
two-equal Equal Equal h = refl
two-equal Equal Greater h = absurd (cc)
two-equal Greater q h = absurd (cc)

pub equal-numbers : (m n : ℕ) → nat_cmp m n ≡ Equal → m ≡ n
equal-numbers m n h =
    ⊎_elim
    (λ (l : m < n). let f : Less ≡ Equal = nat_cmp_is m n Less l ∙ h in absurd (cc))
    (λ (l : n ≤ m).
    ⊎_elim (λ (k : n < m). let f : Greater ≡ Equal = nat_cmp_is m n Greater k ∙ h in absurd (cc)) (λ (k : m ≤ n). let e : m ≡ n = omega (arith, l, k) in e)
    (cases_lt n m))
    (cases_lt m n)

pub bool-order : (a b : Bool) → bool_cmp a b ≡ nat_cmp (if a then 1 else 0) (if b then 1 else 0)
bool-order false false = refl
bool-order false true = refl
bool-order true false = refl
bool-order true true = refl

pub then-done : (o : Ordering) → ordering_then o Equal ≡ o
then-done Less = refl
then-done Equal = refl
then-done Greater = refl

-- ---- the rows of an index are the sorted rows

row-in : (ps : Pairs) (n : ℕ) → n < size ps → IsIn (row_at ps n) (rows ps)
row-in no_pairs n h = absurd (omega (arith, h))
row-in (pair k v ps) zero h = inl refl
row-in (pair k v ps) (suc n) h = inr (row-in ps n (omega (arith, h)))

in-rows : (ps : Pairs) (z : SortKey) → IsIn z (rows ps) → (n : ℕ) × (n < size ps) × (z ≡ row_at ps n)
in-rows no_pairs z h = absurd h
in-rows (pair k v ps) z h = at (in-rows ps z) h
  where
    at : (IsIn z (rows ps) → (n : ℕ) × (n < size ps) × (z ≡ row_at ps n)) → IsIn z (rows (pair k v ps))
        → (n : ℕ) × (n < 1 + size ps) × (z ≡ row_at (pair k v ps) n)
    at more (inl p) = (0, omega arith, p)
    at more (inr p) = let r : (n : ℕ) × (n < size ps) × (z ≡ row_at ps n) = more p in (suc r.0, omega (arith, r.1), r.2)

in-each : (f : ℕ → SortKey) (ns : List ℕ) (k n : ℕ) → k < length ns → get_or ns k n ≡ n → IsIn (f n) (each f ns)
in-each f [] k n h e = absurd (omega (arith, h))
in-each f (m ∷ ns) zero n h e = inl (ap f (sym e))
in-each f (m ∷ ns) (suc k) n h e = inr (in-each f ns k n (omega (arith, h)) e)

each-in : (f : ℕ → SortKey) (ns : List ℕ) (z : SortKey) → IsIn z (each f ns) → (k : ℕ) × (k < length ns) × (z ≡ f (get_or ns k 0))
each-in f [] z h = absurd h
each-in f (n ∷ ns) z h = at (each-in f ns z) h
  where
    at : (IsIn z (each f ns) → (k : ℕ) × (k < length ns) × (z ≡ f (get_or ns k 0))) → IsIn z (each f (n ∷ ns))
        → (k : ℕ) × (k < length (n ∷ ns)) × (z ≡ f (get_or (n ∷ ns) k 0))
    at more (inl p) = (0, omega arith, p)
    at more (inr p) = let r : (k : ℕ) × (k < length ns) × (z ≡ f (get_or ns k 0)) = more p in (suc r.0, omega (arith, r.1), r.2)

-- where the keys come one before the other, so do the rows
row-Less : (ps : Pairs) (m n : ℕ) → m < size ps → n < size ps → order (key_at ps m) (key_at ps n) ≡ Less → order (row_at ps m) (row_at ps n) ≡ Less
row-Less ps m n h k e =
    let a : (w : SortKey) × (row_at ps m ≡ both (key_at ps m) w) = split ps m h in
    let b : (w : SortKey) × (row_at ps n ≡ both (key_at ps n) w) = split ps n k in
    rw (a.1, b.1, e) refl
  where
    split : (qs : Pairs) (i : ℕ) → i < size qs → (w : SortKey) × (row_at qs i ≡ both (key_at qs i) w)
    split no_pairs i l = absurd (omega (arith, l))
    split (pair k v qs) zero l = (sort_key v, refl)
    split (pair k v qs) (suc i) l = split qs i (omega (arith, l))

abbrev Ascending : (ℕ → SortKey) → List ℕ → Type 0
Ascending f ns = (i j : ℕ) → i < j → j < length ns → order (f (get_or ns i 0)) (f (get_or ns j 0)) ≡ Less

each-ascends : (f : ℕ → SortKey) (ns : List ℕ) → Ascending f ns → Ascends (each f ns)
each-ascends f [] h = tt
each-ascends f (n ∷ ns) h = (
  λ z i.
      let r : (k : ℕ) × (k < length ns) × (z ≡ f (get_or ns k 0)) = each-in f ns z i in
      ap (order (f n)) r.2 ∙ h 0 (suc r.0) (omega arith) (omega (arith, r.1)),
  each-ascends f ns (λ i j l k. h (suc i) (suc j) (omega (arith, l)) (omega (arith, k))),
)

in-range : (ns : List ℕ) (m : ℕ) → All (λ n. n < m) ns → (k : ℕ) → k < length ns → get_or ns k 0 < m
in-range ns m h k l = h k 0 l

pub index-rows : (ns : List ℕ) (ps : Pairs) → Indexes ns ps → chain (sorted_keys (rows ps)) ≡ rows_at ps ns
index-rows ns ps h =
    ap chain
    (ascending-same (sorted_keys (rows ps)) (each (row_at ps) ns) (sorted_keys-ascends (rows ps))
    (each-ascends (row_at ps) ns
    (λ i j l k. row-Less ps (get_or ns i 0) (get_or ns j 0) (h.within i 0 (omega (arith, l, k))) (h.within j 0 k) (h.ascending i j l k)))
    (λ z i.
    let r : (n : ℕ) × (n < size ps) × (z ≡ row_at ps n) = in-rows ps z (in-sorted_keys (rows ps) z i) in
    let c : Contains ns r.0 = h.complete r.0 r.1 in
    subst (λ w. IsIn w (each (row_at ps) ns)) (sym r.2) (in-each (row_at ps) ns c.0 r.0 c.1 c.2))
    (λ z i.
    let r : (k : ℕ) × (k < length ns) × (z ≡ row_at ps (get_or ns k 0)) = each-in (row_at ps) ns z i in
    sorted_keys-in (rows ps) z (subst (λ w. IsIn w (rows ps)) (sym r.2) (row-in ps (get_or ns r.0 0) (h.within r.0 0 r.1)))))

pub items-order : (xs ys : List Value)
    → order (chain (each (λ v. sort_key (view v)) xs)) (chain (each (λ v. sort_key (view v)) ys)) ≡ order (items_sort_key (items_view xs)) (items_sort_key (items_view ys))
items-order xs ys = rw (items-chain xs, items-chain ys) refl

pub two-open-at : (o p q r s : Ordering) → is_ne o ≡ false → o ≡ ordering_then p q → s ≡ r → s ≡ ordering_then p (ordering_then q r)
two-open-at o p q r s h e f = f ∙ sym (two-open p q r (sym h ∙ ap is_ne e))

pub node-rows : (n : PairsNode) (t : TableData) (e : EntriesData) (ns : List ℕ) → KeepsPairs n → seen_pairs n ≡ t → e ≡ n.entries → ns ≡ n.index
    → rows_at (entry_pairs e) ns ≡ chain (sorted_keys (rows t.pairs))
node-rows n t e ns keeps seen is f =
    ap (λ (d : EntriesData). rows_at (entry_pairs d) ns) is
    ∙ ap (λ (ms : List ℕ). rows_at (entry_pairs n.entries) ms) f
    ∙ sym (index-rows n.index (entry_pairs n.entries) keeps.indexed)
    ∙ ap (λ (d : TableData). chain (sorted_keys (rows d.pairs))) seen

pub node-within : (n : PairsNode) (e : EntriesData) (ns : List ℕ) → KeepsPairs n → e ≡ n.entries → ns ≡ n.index → ArePlaces ns (length e.listed)
node-within n e ns keeps is f =
    rw (is, f) (record {
      counted = omega (arith, keeps.indexed.counted, size-pairs_of n.entries.listed);
      within = λ k d l. omega (arith, keeps.indexed.within k d l, size-pairs_of n.entries.listed);
    })

-- a row is made of its pair
pub row-is : (xs : List (Datum × Datum)) (n : ℕ) (p : Datum × Datum) → p ≡ get_or xs n p → n < length xs → both (sort_key p.0) (sort_key p.1) ≡ row_at (pairs_of xs) n
row-is [] n p e h = absurd (omega (arith, h))
row-is (x ∷ xs) zero p e h = ap (λ (q : Datum × Datum). both (sort_key q.0) (sort_key q.1)) e
row-is (x ∷ xs) (suc n) p e h = row-is xs n p e (omega (arith, h))

pub rows-step : (ls rs : List (Datum × Datum)) (ms ns : List ℕ) (i x y : ℕ) (p q : Datum × Datum) → i < length ms → i < length ns → x ≡ get_or ms i 0 → y ≡ get_or ns i 0
    → p ≡ get_or ls x p → All (λ n. n < length ls) ms → q ≡ get_or rs y q → All (λ n. n < length rs) ns
    → order (rows_at (pairs_of ls) (drop i ms)) (rows_at (pairs_of rs) (drop i ns))
    ≡ ordering_then (order (both (sort_key p.0) (sort_key p.1)) (both (sort_key q.0) (sort_key q.1)))
    (order (rows_at (pairs_of ls) (drop (suc i) ms)) (rows_at (pairs_of rs) (drop (suc i) ns)))
rows-step ls rs ms ns i x y p q h k at there ep lp eq lq =
    let rest = order (rows_at (pairs_of ls) (drop (suc i) ms)) (rows_at (pairs_of rs) (drop (suc i) ns)) in
    chain-step (row_at (pairs_of ls)) (row_at (pairs_of rs)) ms ns i 0 0 h k
    ∙ ap (λ (n : ℕ). ordering_then (order (row_at (pairs_of ls) n) (row_at (pairs_of rs) (get_or ns i 0))) rest) (sym at)
    ∙ ap (λ (n : ℕ). ordering_then (order (row_at (pairs_of ls) x) (row_at (pairs_of rs) n)) rest) (sym there)
    ∙ ap (λ (w : SortKey). ordering_then (order w (row_at (pairs_of rs) y)) rest) (sym (row-is ls x p ep (omega (arith, at, lp i 0 h))))
    ∙ ap (λ (w : SortKey). ordering_then (order (both (sort_key p.0) (sort_key p.1)) w) rest) (sym (row-is rs y q eq (omega (arith, there, lq i 0 k))))

pub ruleset order_steps = (bool-order, then-done)
