-- Rows of values, one more at a time.
use Rattle.std.proofs.Common.{◌≡◌, ℕ, zero, suc, ◌+◌, ◌-◌, ◌<◌, ◌≤◌, List, [], ◌∷◌, ◌++◌, length, get_or, slice_set, take, drop, add-one, refl, ap, sym, ◌∙◌, arith}
use Rattle.value_data.specs.Datum.{Datum}
use Rattle.value_data.specs.Inside.View.{view, views}
use Rattle.value_data.specs.Inside.Nodes.{held_count, items_held}
use Rattle.value_data.specs.declared.value.Value.{Value}

pub held-push : (vs : List Value) (v : Value) → items_held (vs ++ v ∷ []) ≡ items_held vs + held_count v
held-push [] v = omega arith
held-push (w ∷ vs) v = omega (arith, held-push vs v)

pub held-take : (vs : List Value) (i : ℕ) (v : Value) → v ≡ get_or vs i v → i < length vs
    → items_held (take (i + 1) vs) ≡ items_held (take i vs) + held_count v
held-take vs i v is h = rw (add-one) (more vs i v is h)
  where
    more : (ws : List Value) (j : ℕ) (w : Value) → w ≡ get_or ws j w → j < length ws
        → items_held (take (suc j) ws) ≡ items_held (take j ws) + held_count w
    more [] j w e l = absurd (omega (arith, l))
    more (x ∷ ws) zero w e l =
        let same : held_count x ≡ held_count w = ap held_count (sym e) in
        omega (arith, same)
    more (x ∷ ws) (suc j) w e l = omega (arith, more ws j w e (omega (arith, l)))

pub views-take : (vs : List Value) (i : ℕ) (v : Value) → v ≡ get_or vs i v → i < length vs
    → views (take (i + 1) vs) ≡ views (take i vs) ++ view v ∷ []
views-take vs i v is h = rw (add-one) (more vs i v is h)
  where
    more : (ws : List Value) (j : ℕ) (w : Value) → w ≡ get_or ws j w → j < length ws
        → views (take (suc j) ws) ≡ views (take j ws) ++ view w ∷ []
    more [] j w e l = absurd (omega (arith, l))
    more (x ∷ ws) zero w e l = ap (λ (y : Value). view y ∷ []) (sym e)
    more (x ∷ ws) (suc j) w e l = ap (λ (ds : List Datum). view x ∷ ds) (more ws j w e (omega (arith, l)))

-- some items of those from a place on, as they are seen
pub chunk-views : (vs : List Value) (n : ℕ) → n ≤ length vs
    → views (take (length vs - n) (drop n vs)) ≡ take (length (take (length vs - n) (drop n vs))) (drop n (views vs))
chunk-views [] zero h = refl
chunk-views [] (suc n) h = absurd (omega (arith, h))
chunk-views (v ∷ vs) zero h = all (v ∷ vs) (length (v ∷ vs) - 0)
  where
    all : (ws : List Value) (m : ℕ) → views (take m ws) ≡ take (length (take m ws)) (views ws)
    all [] zero = refl
    all [] (suc m) = refl
    all (w ∷ ws) zero = refl
    all (w ∷ ws) (suc m) = ap (λ (ds : List Datum). view w ∷ ds) (all ws m)
chunk-views (v ∷ vs) (suc n) h =
    let less : length (v ∷ vs) - suc n ≡ length vs - n = omega arith in
    rw less (chunk-views vs n (omega (arith, h)))

pub length-views : (vs : List Value) → length (views vs) ≡ length vs
length-views [] = refl
length-views (v ∷ vs) = ap suc (length-views vs)

pub drop-right : (xs ys : List Datum) (n : ℕ) → length xs ≤ n → drop n (xs ++ ys) ≡ drop (n - length xs) ys
drop-right [] ys n h =
    let same : n - 0 ≡ n = omega arith in
    rw same refl
drop-right (x ∷ xs) ys zero h = absurd (omega (arith, h))
drop-right (x ∷ xs) ys (suc n) h =
    let less : suc n - length (x ∷ xs) ≡ n - length xs = omega arith in
    rw less (drop-right xs ys n (omega (arith, h)))

views-halves : (vs : List Value) (n : ℕ) → views (take n vs) ++ views (drop n vs) ≡ views vs
views-halves [] zero = refl
views-halves [] (suc n) = refl
views-halves (v ∷ vs) zero = refl
views-halves (v ∷ vs) (suc n) = ap (λ (ds : List Datum). view v ∷ ds) (views-halves vs n)

-- two parts of items that were split
pub split-views : (xs ys vs : List Value) (n : ℕ) (ds es fs : List Datum) → xs ≡ take n vs → ys ≡ drop n vs → ds ≡ views xs → es ≡ views ys → fs ≡ ds ++ es
    → fs ≡ views vs
split-views xs ys vs n ds es fs e f g h i =
    i
    ∙ ap (λ (ks : List Datum). ks ++ es) (g ∙ ap views e)
    ∙ ap (λ (ks : List Datum). views (take n vs) ++ ks) (h ∙ ap views f)
    ∙ views-halves vs n

-- another item at a place, and one more behind all
pub set-parts : (ds : List Datum) (n : ℕ) (d : Datum) → n < length ds → slice_set ds n d ≡ take n ds ++ d ∷ drop (n + 1) ds
set-parts ds n d h = rw add-one (by-place ds n h)
  where
    by-place : (es : List Datum) (m : ℕ) → m < length es → slice_set es m d ≡ take m es ++ d ∷ drop (suc m) es
    by-place [] m l = absurd (omega (arith, l))
    by-place (e ∷ es) zero l = refl
    by-place (e ∷ es) (suc m) l = ap (λ (fs : List Datum). e ∷ fs) (by-place es m (omega (arith, l)))

pub last-parts : (ds : List Datum) (n : ℕ) (d : Datum) → n ≡ length ds → ds ++ d ∷ [] ≡ take n ds ++ d ∷ drop (n + 1) ds
last-parts ds n d e = rw (add-one, e) (all ds)
  where
    all : (es : List Datum) → es ++ d ∷ [] ≡ take (length es) es ++ d ∷ drop (suc (length es)) es
    all [] = refl
    all (e ∷ es) = ap (λ (fs : List Datum). e ∷ fs) (all es)
