-- Changes of one list behind another.
use Rattle.std.proofs.Common.{◌≡◌, ℕ, zero, suc, ◌+◌, ◌-◌, ◌<◌, ◌≤◌, List, [], ◌∷◌, ◌++◌, length, take, drop, refl, sym, ap, ◌∙◌, arith}
use Rattle.std.proofs.lemmas.List.{take-append-drop}
use Rattle.std.proofs.lemmas.List.Edits.{insert-append_left, insert-append_right}
use Rattle.std.specs.List.{insert, remove}
use Rattle.chunked_list.specs.Changes.{numbers_changed, HasNumberPlace}
use Rattle.chunked_list.specs.declared.changes.NumberChange.{NumberChange}
use Rattle.chunked_list.specs.declared.changes.NumberChange.TheVariants as is

remove-left : (xs ys : List ℕ) (n : ℕ) → n < length xs → remove (xs ++ ys) n ≡ remove xs n ++ ys
remove-left [] ys n h = absurd (omega (arith, h))
remove-left (x ∷ xs) ys zero h = refl
remove-left (x ∷ xs) ys (suc n) h = ap (λ (es : List ℕ). x ∷ es) (remove-left xs ys n (omega (arith, h)))

remove-right : (xs ys : List ℕ) (n m : ℕ) → n ≡ length xs + m → remove (xs ++ ys) n ≡ xs ++ remove ys m
remove-right [] ys n m e =
    let same : n ≡ m = omega (arith, e) in
    rw same refl
remove-right (x ∷ xs) ys zero m e = absurd (omega (arith, e))
remove-right (x ∷ xs) ys (suc n) m e = ap (λ (es : List ℕ). x ∷ es) (remove-right xs ys n m (omega (arith, e)))

pub numbers_changed-left : (c : NumberChange) (n : ℕ) (xs ys : List ℕ) → HasNumberPlace c n (length xs) → numbers_changed c n (xs ++ ys) ≡ numbers_changed c n xs ++ ys
numbers_changed-left (is.Insert v) n xs ys h = insert-append_left xs ys n v h
numbers_changed-left is.Remove n xs ys h = remove-left xs ys n h

pub numbers_changed-right : (c : NumberChange) (n : ℕ) (xs ys : List ℕ) → length xs ≤ n → numbers_changed c n (xs ++ ys) ≡ xs ++ numbers_changed c (n - length xs) ys
numbers_changed-right (is.Insert v) n xs ys h = insert-append_right xs ys (length xs) n v refl h
numbers_changed-right is.Remove n xs ys h = remove-right xs ys n (n - length xs) (omega (arith, h))

-- one more number in the second part of a list
pub insert-rest : (xs fs bs es rs : List ℕ) (h n v : ℕ) → fs ≡ take h xs → bs ≡ drop h xs → length fs ≤ n
    → es ≡ fs → rs ≡ insert bs (n - length fs) v → es ++ rs ≡ insert xs n v
insert-rest xs fs bs es rs h n v front back k first second =
    ap (λ (zs : List ℕ). zs ++ rs) first
    ∙ ap (λ (zs : List ℕ). fs ++ zs) second
    ∙ sym (insert-append_right fs bs (length fs) n v refl k)
    ∙ ap (λ (zs : List ℕ). insert (zs ++ bs) n v) front
    ∙ ap (λ (zs : List ℕ). insert (take h xs ++ zs) n v) back
    ∙ ap (λ (zs : List ℕ). insert zs n v) (take-append-drop h xs)
