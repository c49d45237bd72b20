-- What entries are seen as, where each is seen by itself and what stands before it.
use Rattle.std.proofs.Common.{◌≡◌, ◌∙◌, ◌+◌, ◌-◌, ℕ, zero, suc, List, [], ◌∷◌, ◌++◌, length, Some, slice_get}
use Rattle.std.proofs.Common.{refl, sym, ap, subst, arith, append_assoc, length-append}
use Rattle.std.proofs.lemmas.List.{append-nil}
use mathlib.Core.List.{IsPrefix}

before-last : {A : Type 0} (xs ys : List A) (x y : A) → xs ++ x ∷ [] ≡ ys ++ y ∷ [] → xs ≡ ys
before-last [] [] x y is = refl
before-last [] (z ∷ []) x y is = absurd (cc (is))
before-last [] (z ∷ w ∷ ys) x y is = absurd (cc (is))
before-last (z ∷ []) [] x y is = absurd (cc (is))
before-last (z ∷ w ∷ xs) [] x y is = absurd (cc (is))
before-last (z ∷ xs) (w ∷ ys) x y is =
    let rest = before-last xs ys x y (cc is) in let head : z ≡ w = cc is in cc (head, rest)

parted-last : {A : Type 0} (xs : List A) (n : ℕ) (x : A) → length xs ≡ suc n
    → slice_get xs n ≡ Some x → (front : List A) × (xs ≡ front ++ x ∷ [])
parted-last [] n x long at = absurd (omega arith)
parted-last (y ∷ []) zero x long at = let one : y ≡ x = cc at in ([], ap (λ z. z ∷ []) one)
parted-last (y ∷ z ∷ xs) zero x long at = absurd (omega arith)
parted-last (y ∷ xs) (suc n) x long at =
    let rest = parted-last xs n x (omega (arith, long)) at in (y ∷ rest.0, ap (λ zs. y ∷ zs) rest.1)

-- the last item, and those before it
pub ends-with : {A : Type 0} (xs : List A) (x : A) → slice_get xs (length xs - 1) ≡ Some x
    → (front : List A) × (xs ≡ front ++ x ∷ [])
ends-with [] x at = absurd (cc at)
ends-with (y ∷ ys) x at =
    let n : length (y ∷ ys) - 1 ≡ length ys = omega arith in
    parted-last (y ∷ ys) (length ys) x refl (sym (ap (slice_get (y ∷ ys)) n) ∙ at)

module _ {A B : Type 0} (see : List A → List B) (said : List B → A → B) (none : see [] ≡ [])
    (more : (xs : List A) (x : A) → see (xs ++ x ∷ []) ≡ see xs ++ said (see xs) x ∷ []) where
  behind : (xs zs : List A) → IsPrefix (see xs) (see (xs ++ zs))
  behind xs [] = ([], append-nil (see xs) ∙ sym (ap see (append-nil xs)))
  behind xs (z ∷ zs) =
      let r = behind (xs ++ z ∷ []) zs in (
        said (see xs) z ∷ r.0,
        sym (append_assoc (see xs) (said (see xs) z ∷ []) r.0)
            ∙ ap (λ ys. ys ++ r.0) (sym (more xs z))
            ∙ r.1
            ∙ ap see (append_assoc xs (z ∷ []) zs),
      )

  -- a beginning is seen as a beginning
  pub prefix-seen : (xs ys : List A) → IsPrefix xs ys → IsPrefix (see xs) (see ys)
  prefix-seen xs ys p = subst (λ zs. IsPrefix (see xs) (see zs)) p.1 (behind xs p.0)

  as-long : (xs zs : List A) → length (see xs) ≡ length xs
      → length (see (xs ++ zs)) ≡ length (xs ++ zs)
  as-long xs [] is = ap (λ ys. length (see ys)) (append-nil xs) ∙ is ∙ sym (ap length (append-nil xs))
  as-long xs (z ∷ zs) is =
      let one : length (see (xs ++ z ∷ [])) ≡ length (xs ++ z ∷ []) =
      ap length (more xs z)
      ∙ length-append (see xs) (said (see xs) z ∷ [])
      ∙ ap (λ n. n + 1) is
      ∙ sym (length-append xs (z ∷ [])) in
      ap (λ ys. length (see ys)) (sym (append_assoc xs (z ∷ []) zs))
      ∙ as-long (xs ++ z ∷ []) zs one
      ∙ ap length (append_assoc xs (z ∷ []) zs)

  pub length-seen : (xs : List A) → length (see xs) ≡ length xs
  length-seen xs = as-long [] xs (ap length none)

  -- where one more entry was seen, it is seen so behind whatever is seen as what stood before it
  pub adds-seen : (known whole before : List A) (x : A) (e : B) → see whole ≡ see known ++ e ∷ []
      → whole ≡ before ++ x ∷ [] → see (known ++ x ∷ []) ≡ see whole
  adds-seen known whole before x e is parts =
      let now : see whole ≡ see before ++ said (see before) x ∷ [] = ap see parts ∙ more before x in
      let same : see before ≡ see known =
      before-last (see before) (see known) (said (see before) x) e (sym now ∙ is) in
      more known x ∙ ap (λ ys. ys ++ said ys x ∷ []) (sym same) ∙ sym now
