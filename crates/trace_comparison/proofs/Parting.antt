-- Lists that begin alike, at the place where they part.
use Rattle.std.proofs.Common.{◌≡◌, ◌≢◌, List, [], ◌∷◌, ◌++◌, length, take, slice_get, refl, ap}

module _ {A : Type 0} where
  pub before-alike : (xs ys zs : List A) → take (length xs) (xs ++ ys) ≡ take (length xs) (xs ++ zs)
  before-alike [] ys zs = refl
  before-alike (x ∷ xs) ys zs = ap (λ (ts : List A). x ∷ ts) (before-alike xs ys zs)

  pub before-all : (xs zs : List A) → take (length xs) xs ≡ take (length xs) (xs ++ zs)
  before-all [] zs = refl
  before-all (x ∷ xs) zs = ap (λ (ts : List A). x ∷ ts) (before-all xs zs)

  pub unequal-behind : (xs : List A) (x y : A) (ys zs : List A) → x ≢ y → slice_get (xs ++ x ∷ ys) (length xs) ≢ slice_get (xs ++ y ∷ zs) (length xs)
  unequal-behind [] x y ys zs differ e = differ (cc)
  unequal-behind (w ∷ xs) x y ys zs differ e = unequal-behind xs x y ys zs differ e

  pub ended-behind : (xs : List A) (y : A) (ys : List A) → slice_get xs (length xs) ≢ slice_get (xs ++ y ∷ ys) (length xs)
  ended-behind [] y ys e = absurd (cc)
  ended-behind (x ∷ xs) y ys e = ended-behind xs y ys e
