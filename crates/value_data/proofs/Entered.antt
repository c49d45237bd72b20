-- Keys and values that stand at the same places of two rows.
use Rattle.std.proofs.Common.{◌≡◌, Bool, true, false, ◌&&◌, max, ℕ, zero, suc, ◌+◌, ◌<◌, List, [], ◌∷◌, ◌++◌, length, get_or, set, take, drop, map, add-one, refl, sym, ap, ◌∙◌, arith}
use Rattle.std.specs.List.{zip, remove}
use Rattle.std.proofs.lemmas.Slice.Zip.{length-zip, firsts-zip, seconds-zip, get_or-zip}
use Rattle.value_data.specs.Datum.{Datum, Items, no_items, item}
use Rattle.value_data.specs.Listed.{listed, items_of, pairs_of}
use Rattle.value_data.specs.Measures.{items_weight, items_nesting, is_plain, are_plain, pairs_weight, pairs_nesting, pairs_are_plain}
use Rattle.value_data.specs.Inside.Ends.{with_last}
use Rattle.value_data.specs.Inside.Held.{SequenceData, EntriesData}
use Rattle.value_data.specs.Inside.Nodes.{seen_entries, AreEven}
use Rattle.value_data.specs.Inside.View.{pair_view}
use Rattle.value_data.specs.declared.value.Value.{Value}
use Rattle.value_data.specs.Inside.Seen.{key_in, value_of_pair}

pub items-listed : (ds : Items) → items_of (listed ds) ≡ ds
items-listed no_items = refl
items-listed (item d ds) = ap (item d) (items-listed ds)

-- ---- a row of keys and a row of values, seen as pairs

module _ (ks vs : SequenceData) (e : EntriesData) (even : AreEven ks vs) (is : seen_entries ks vs ≡ e) where
  pub long : length e.listed ≡ length (listed ks.items)
  long = sym (ap (λ (d : EntriesData). length d.listed) is) ∙ length-zip (listed ks.items) (listed vs.items) ∙ omega (arith, even)

  pub long-too : length e.listed ≡ length (listed vs.items)
  long-too = long ∙ sym even

  pub keys-are : map key_in e.listed ≡ listed ks.items
  keys-are = sym (ap (λ (d : EntriesData). map key_in d.listed) is) ∙ firsts-zip (listed ks.items) (listed vs.items) even

  pub values-are : map value_of_pair e.listed ≡ listed vs.items
  values-are = sym (ap (λ (d : EntriesData). map value_of_pair d.listed) is) ∙ seconds-zip (listed ks.items) (listed vs.items) even

  pub key-items : ks.items ≡ items_of (map key_in e.listed)
  key-items = sym (items-listed ks.items) ∙ ap items_of (sym keys-are)

  pub value-items : vs.items ≡ items_of (map value_of_pair e.listed)
  value-items = sym (items-listed vs.items) ∙ ap items_of (sym values-are)

  pub pair-at : (n : ℕ) (d : Datum × Datum) → n < length e.listed → d.0 ≡ get_or (listed ks.items) n d.0 → d.1 ≡ get_or (listed vs.items) n d.1
      → d ≡ get_or e.listed n d
  pair-at n d h k v =
      ap (λ (x : Datum). (x, d.1)) k
      ∙ ap (λ (x : Datum). (get_or (listed ks.items) n d.0, x)) v
      ∙ sym (get_or-zip (listed ks.items) (listed vs.items) n d (omega (arith, h, long)) (omega (arith, h, long-too)))
      ∙ ap (λ (w : EntriesData). get_or w.listed n d) is

-- ---- what is measured of two rows

pub weight-zip : (ks vs : Items) → length (listed vs) ≡ length (listed ks) → pairs_weight (pairs_of (zip (listed ks) (listed vs))) ≡ items_weight ks + items_weight vs
weight-zip no_items no_items h = omega arith
weight-zip no_items (item v vs) h = absurd (omega (arith, h))
weight-zip (item k ks) no_items h = absurd (omega (arith, h))
weight-zip (item k ks) (item v vs) h = omega (arith, weight-zip ks vs (omega (arith, h)))

pub nesting-zip : (ks vs : Items) → length (listed vs) ≡ length (listed ks) → pairs_nesting (pairs_of (zip (listed ks) (listed vs))) ≡ max (items_nesting ks) (items_nesting vs)
nesting-zip no_items no_items h = omega arith
nesting-zip no_items (item v vs) h = absurd (omega (arith, h))
nesting-zip (item k ks) no_items h = absurd (omega (arith, h))
nesting-zip (item k ks) (item v vs) h = omega (arith, nesting-zip ks vs (omega (arith, h)))

both-both : (a b c d : Bool) → ((a && b) && (c && d)) ≡ ((a && c) && (b && d))
both-both true true c d = refl
both-both true false true d = refl
both-both true false false d = refl
both-both false b c d = refl

pub plain-zip : (ks vs : Items) → length (listed vs) ≡ length (listed ks) → pairs_are_plain (pairs_of (zip (listed ks) (listed vs))) ≡ (are_plain ks && are_plain vs)
plain-zip no_items no_items h = refl
plain-zip no_items (item v vs) h = absurd (omega (arith, h))
plain-zip (item k ks) no_items h = absurd (omega (arith, h))
plain-zip (item k ks) (item v vs) h =
    ap (λ b. (is_plain k && is_plain v) && b) (plain-zip ks vs (omega (arith, h)))
    ∙ both-both (is_plain k) (is_plain v) (are_plain ks) (are_plain vs)

-- ---- changed rows

pub zip-behind : (ks vs : List Datum) (k v : Datum) → length vs ≡ length ks → zip (ks ++ k ∷ []) (vs ++ v ∷ []) ≡ zip ks vs ++ (k, v) ∷ []
zip-behind [] [] k v h = refl
zip-behind [] (w ∷ vs) k v h = absurd (omega (arith, h))
zip-behind (l ∷ ks) [] k v h = absurd (omega (arith, h))
zip-behind (l ∷ ks) (w ∷ vs) k v h = ap (λ (ps : List (Datum × Datum)). (l, w) ∷ ps) (zip-behind ks vs k v (omega (arith, h)))

pub zip-set : (ks vs : List Datum) (n : ℕ) (k v : Datum) → length vs ≡ length ks → n < length ks
    → zip ks (take n vs ++ v ∷ drop (n + 1) vs) ≡ set (zip ks vs) n (get_or ks n k, v)
zip-set ks vs n k v h l = rw (add-one) (more ks vs n h l)
  where
    more : (ls ws : List Datum) (m : ℕ) → length ws ≡ length ls → m < length ls → zip ls (take m ws ++ v ∷ drop (suc m) ws) ≡ set (zip ls ws) m (get_or ls m k, v)
    more [] ws m e i = absurd (omega (arith, i))
    more (d ∷ ls) [] m e i = absurd (omega (arith, e))
    more (d ∷ ls) (w ∷ ws) zero e i = refl
    more (d ∷ ls) (w ∷ ws) (suc m) e i = ap (λ (ps : List (Datum × Datum)). (d, w) ∷ ps) (more ls ws m (omega (arith, e)) (omega (arith, i)))

pub parts-long : (ds : List Datum) (n : ℕ) (d : Datum) → n < length ds → length (take n ds ++ d ∷ drop (n + 1) ds) ≡ length ds
parts-long ds n d h = rw (add-one) (more ds n h)
  where
    more : (es : List Datum) (m : ℕ) → m < length es → length (take m es ++ d ∷ drop (suc m) es) ≡ length es
    more [] m l = absurd (omega (arith, l))
    more (e ∷ es) zero l = refl
    more (e ∷ es) (suc m) l = ap suc (more es m (omega (arith, l)))

pub listed-last : (ds : Items) (d : Datum) → listed (with_last ds d) ≡ listed ds ++ d ∷ []
listed-last no_items d = refl
listed-last (item e ds) d = ap (λ (es : List Datum). e ∷ es) (listed-last ds d)

pub zip-without : (ks vs : List Datum) (n : ℕ) → length vs ≡ length ks → n < length ks → zip (remove ks n) (remove vs n) ≡ remove (zip ks vs) n
zip-without [] vs n h l = absurd (omega (arith, l))
zip-without (d ∷ ks) [] n h l = absurd (omega (arith, h))
zip-without (d ∷ ks) (w ∷ vs) zero h l = refl
zip-without (d ∷ ks) (w ∷ vs) (suc n) h l = ap (λ (ps : List (Datum × Datum)). (d, w) ∷ ps) (zip-without ks vs n (omega (arith, h)) (omega (arith, l)))

-- ---- values seen as data

pub view-at : (xs : List (Value × Value)) (n : ℕ) (p : Value × Value) → p ≡ get_or xs n p → n < length xs → pair_view p ≡ get_or (map pair_view xs) n (pair_view p)
view-at [] n p is h = absurd (omega (arith, h))
view-at (x ∷ xs) zero p is h = ap pair_view is
view-at (x ∷ xs) (suc n) p is h = view-at xs n p is (omega (arith, h))
