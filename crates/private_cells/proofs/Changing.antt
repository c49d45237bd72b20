-- What lies at a place of a list is changed, and seen.
use Rattle.std.proofs.Common.{◌≡◌, ℕ, zero, suc, ◌≤◌, List, [], ◌∷◌, ◌++◌, map, length, refl, ap}
use Rattle.std.proofs.Common.{◌∙◌}
use Rattle.std.proofs.Common.{slice_set, slice_index_or, arith}
use Rattle.repl_values.specs.Places.{changed_at}

pub map_set : {A B : Type 0} (g : A → B) (n : ℕ) (x : A) (xs : List A)
    → map g (slice_set xs n x) ≡ changed_at n (λ _. g x) (map g xs)
map_set g n x [] = refl
map_set g zero x (y ∷ ys) = refl
map_set g (suc n) x (y ∷ ys) = ap (λ zs. g y ∷ zs) (map_set g n x ys)

-- the same where what is put there is what it was, changed
pub map_set_by : {A B : Type 0} (g : A → B) (f : B → B) (n : ℕ) (x y : A) (xs : List A)
    → x ≡ slice_index_or xs n x → g y ≡ f (g x)
    → map g (slice_set xs n y) ≡ changed_at n f (map g xs)
map_set_by g f n x y [] h e = refl
map_set_by g f zero x y (z ∷ zs) h e = ap (λ w. w ∷ map g zs) (e ∙ ap (λ w. f (g w)) h)
map_set_by g f (suc n) x y (z ∷ zs) h e = ap (λ ws. g z ∷ ws) (map_set_by g f n x y zs h e)

-- behind the end nothing changes
pub changed_none : {A B : Type 0} (g : A → B) (f : B → B) (n : ℕ) (xs : List A)
    → length xs ≤ n → changed_at n f (map g xs) ≡ map g xs
changed_none g f n [] h = refl
changed_none g f zero (x ∷ xs) h = absurd (omega arith)
changed_none g f (suc n) (x ∷ xs) h = ap (λ ys. g x ∷ ys) (changed_none g f n xs (omega arith))

pub map_push : {A B : Type 0} (g : A → B) (x : A) (xs : List A)
    → map g (xs ++ x ∷ []) ≡ map g xs ++ g x ∷ []
map_push g x [] = refl
map_push g x (y ∷ ys) = ap (λ zs. g y ∷ zs) (map_push g x ys)
