-- Changes of rows of values, and of one list behind another.
use Rattle.std.proofs.Common.{◌≡◌, ℕ, zero, suc, ◌+◌, ◌-◌, ◌<◌, ◌≤◌, List, [], ◌∷◌, ◌++◌, length, slice_set, refl, ap, arith}
use Rattle.std.proofs.lemmas.List.{set-append_left, set-append_right}
use Rattle.std.proofs.lemmas.List.Edits.{insert-append_left, insert-append_right}
use Rattle.std.specs.List.{insert, remove}
use Rattle.value_data.specs.Datum.{Datum}
use Rattle.value_data.specs.Inside.View.{view, views}
use Rattle.value_data.specs.Inside.Changes.{changed, HasPlace}
use Rattle.value_data.specs.declared.value.Value.{Value}
use Rattle.value_data.specs.declared.changes.ItemChange.{ItemChange}
use Rattle.value_data.specs.declared.changes.ItemChange.TheVariants as is

pub views-insert : (vs : List Value) (n : ℕ) (v : Value) → views (insert vs n v) ≡ insert (views vs) n (view v)
views-insert [] zero v = refl
views-insert [] (suc n) v = refl
views-insert (w ∷ vs) zero v = refl
views-insert (w ∷ vs) (suc n) v = ap (λ (ds : List Datum). view w ∷ ds) (views-insert vs n v)

pub views-set : (vs : List Value) (n : ℕ) (v : Value) → views (slice_set vs n v) ≡ slice_set (views vs) n (view v)
views-set [] zero v = refl
views-set [] (suc n) v = refl
views-set (w ∷ vs) zero v = refl
views-set (w ∷ vs) (suc n) v = ap (λ (ds : List Datum). view w ∷ ds) (views-set vs n v)

pub views-remove : (vs : List Value) (n : ℕ) → views (remove vs n) ≡ remove (views vs) n
views-remove [] zero = refl
views-remove [] (suc n) = refl
views-remove (w ∷ vs) zero = refl
views-remove (w ∷ vs) (suc n) = ap (λ (ds : List Datum). view w ∷ ds) (views-remove vs n)

pub insert-first : (vs : List Value) (n : ℕ) (v : Value) → n ≡ 0 → views (insert vs n v) ≡ view v ∷ views vs
insert-first vs n v e = rw e refl

pub insert-last : (ds : List Datum) (n : ℕ) (d : Datum) → n ≡ length ds → insert ds n d ≡ ds ++ d ∷ []
insert-last [] zero d e = refl
insert-last [] (suc n) d e = absurd (omega (arith, e))
insert-last (x ∷ ds) zero d e = absurd (omega (arith, e))
insert-last (x ∷ ds) (suc n) d e = ap (λ (es : List Datum). x ∷ es) (insert-last ds n d (omega (arith, e)))

remove-left : (xs ys : List Datum) (n : ℕ) → n < length xs → remove (xs ++ ys) n ≡ remove xs n ++ ys
remove-left [] ys n h = absurd (omega (arith, h))
remove-left (x ∷ xs) ys zero h = refl
remove-left (x ∷ xs) ys (suc n) h = ap (λ (es : List Datum). x ∷ es) (remove-left xs ys n (omega (arith, h)))

remove-right : (xs ys : List Datum) (n m : ℕ) → n ≡ length xs + m → remove (xs ++ ys) n ≡ xs ++ remove ys m
remove-right [] ys n m e =
    let same : n ≡ m = omega (arith, e) in
    rw same refl
remove-right (x ∷ xs) ys zero m e = absurd (omega (arith, e))
remove-right (x ∷ xs) ys (suc n) m e = ap (λ (es : List Datum). x ∷ es) (remove-right xs ys n m (omega (arith, e)))

pub changed-left : (c : ItemChange) (n : ℕ) (xs ys : List Datum) → HasPlace c n (length xs) → changed c n (xs ++ ys) ≡ changed c n xs ++ ys
changed-left (is.Insert v) n xs ys h = insert-append_left xs ys n (view v) h
changed-left (is.Replace v) n xs ys h = set-append_left xs ys n (view v) h
changed-left is.Remove n xs ys h = remove-left xs ys n h

pub changed-right : (c : ItemChange) (n : ℕ) (xs ys : List Datum) → length xs ≤ n → changed c n (xs ++ ys) ≡ xs ++ changed c (n - length xs) ys
changed-right (is.Insert v) n xs ys h = insert-append_right xs ys (length xs) n (view v) refl h
changed-right (is.Replace v) n xs ys h = set-append_right xs ys (length xs) n (view v) refl h
changed-right is.Remove n xs ys h = remove-right xs ys n (n - length xs) (omega (arith, h))

pub place-right : (c : ItemChange) (n a b : ℕ) → HasPlace c n (a + b) → a ≤ n → HasPlace c (n - a) b
place-right (is.Insert v) n a b h l = omega (arith, h, l)
place-right (is.Replace v) n a b h l = omega (arith, h, l)
place-right is.Remove n a b h l = omega (arith, h, l)

length-insert : (ds : List Datum) (n : ℕ) (d : Datum) → n ≤ length ds → length (insert ds n d) ≡ length ds + 1
length-insert [] zero d h = refl
length-insert [] (suc n) d h = absurd (omega (arith, h))
length-insert (x ∷ ds) zero d h = omega arith
length-insert (x ∷ ds) (suc n) d h = omega (arith, length-insert ds n d (omega (arith, h)))

length-remove : (ds : List Datum) (n : ℕ) → length (remove ds n) ≤ length ds
length-remove [] zero = omega arith
length-remove [] (suc n) = omega arith
length-remove (x ∷ ds) zero = omega arith
length-remove (x ∷ ds) (suc n) = omega (arith, length-remove ds n)

length-set : (ds : List Datum) (n : ℕ) (d : Datum) → length (slice_set ds n d) ≡ length ds
length-set [] zero d = refl
length-set [] (suc n) d = refl
length-set (x ∷ ds) zero d = refl
length-set (x ∷ ds) (suc n) d = omega (arith, length-set ds n d)

pub changed-length : (c : ItemChange) (n : ℕ) (ds : List Datum) → HasPlace c n (length ds) → length (changed c n ds) ≤ length ds + 1
changed-length (is.Insert v) n ds h = omega (arith, length-insert ds n (view v) h)
changed-length (is.Replace v) n ds h = omega (arith, length-set ds n (view v))
changed-length is.Remove n ds h = omega (arith, length-remove ds n)
