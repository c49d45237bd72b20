-- The first place at which two lists differ.
use Rattle.std.proofs.Common.{◌≡◌, ◌≢◌, ℕ, suc, List, [], ◌∷◌, Bool, true, false, cond}
use Rattle.std.proofs.Common.{Option, None, Some, option_map, take, slice_get, refl, sym, ap, ◌∙◌, subst, true≢false}
use Rattle.server_rules.proofs.Telling.{Tells}

module _ {A : Type 0} (t : Tells A) where
  abbrev pub parting : List A → List A → Option ℕ
  parting [] [] = None
  parting [] (y ∷ ys) = Some 0
  parting (x ∷ xs) [] = Some 0
  parting (x ∷ xs) (y ∷ ys) = cond (t.same x y) (option_map suc (parting xs ys)) (Some 0)

  pub none-alike : (xs : List A) → parting xs xs ≡ None
  none-alike [] = refl
  none-alike (x ∷ xs) =
      ap (λ b. cond b (option_map suc (parting xs xs)) (Some 0)) (t.alike x)
      ∙ ap (option_map suc) (none-alike xs)

  later-none : (o : Option ℕ) → option_map suc o ≡ None → o ≡ None
  later-none None e = refl
  later-none (Some n) e = absurd (cc)

  pub equal-none : (xs ys : List A) → parting xs ys ≡ None → xs ≡ ys
  equal-none [] [] e = refl
  equal-none [] (y ∷ ys) e = absurd (cc)
  equal-none (x ∷ xs) [] e = absurd (cc)
  equal-none (x ∷ xs) (y ∷ ys) e = by (equal-none xs ys) (t.same x y) refl e where
    by : (parting xs ys ≡ None → xs ≡ ys) → (b : Bool) → t.same x y ≡ b
        → cond b (option_map suc (parting xs ys)) (Some 0) ≡ None → x ∷ xs ≡ y ∷ ys
    by behind true same h = ap (λ z. z ∷ xs) (t.sound x y same)
        ∙ ap (λ (zs : List A). y ∷ zs) (behind (later-none (parting xs ys) h))
    by behind false other h = absurd (cc)

  pub record PartAt (place : ℕ) (xs ys : List A) : Type 0 where
    pub before : take place xs ≡ take place ys
    pub apart : slice_get xs place ≢ slice_get ys place

  differ : (x y : A) → t.same x y ≡ false → x ≢ y
  differ x y other e = true≢false (sym (t.alike y) ∙ ap (λ z. t.same z y) (sym e) ∙ other)

  later : (x y : A) (xs ys : List A) → x ≡ y
      → ((place : ℕ) → parting xs ys ≡ Some place → PartAt place xs ys)
      → (o : Option ℕ) → parting xs ys ≡ o → (place : ℕ) → option_map suc o ≡ Some place
      → PartAt place (x ∷ xs) (y ∷ ys)
  later x y xs ys same behind None is place e = absurd (cc)
  later x y xs ys same behind (Some n) is place e =
      let at : PartAt n xs ys = behind n is in
      let there : suc n ≡ place = cc in
      subst (λ k. PartAt k (x ∷ xs) (y ∷ ys)) there
      (record {
        before = ap (λ z. z ∷ take n xs) same ∙ ap (λ (zs : List A). y ∷ zs) at.before;
        apart = at.apart;
      })

  here : (xs ys : List A) (place : ℕ) → Some 0 ≡ Some place → slice_get xs 0 ≢ slice_get ys 0
      → PartAt place xs ys
  here xs ys place e apart =
      let there : 0 ≡ place = cc in
      subst (λ k. PartAt k xs ys) there (record { before = refl; apart = apart })

  pub part-there : (xs ys : List A) (place : ℕ) → parting xs ys ≡ Some place → PartAt place xs ys
  part-there [] [] place e = absurd (cc)
  part-there [] (y ∷ ys) place e = here [] (y ∷ ys) place e (λ h. absurd (cc))
  part-there (x ∷ xs) [] place e = here (x ∷ xs) [] place e (λ h. absurd (cc))
  part-there (x ∷ xs) (y ∷ ys) place e = by (part-there xs ys) (t.same x y) refl e where
    by : ((n : ℕ) → parting xs ys ≡ Some n → PartAt n xs ys) → (b : Bool) → t.same x y ≡ b
        → cond b (option_map suc (parting xs ys)) (Some 0) ≡ Some place
        → PartAt place (x ∷ xs) (y ∷ ys)
    by behind true same h = later x y xs ys (t.sound x y same) behind (parting xs ys) refl place h
    by behind false other h = here (x ∷ xs) (y ∷ ys) place h
        (λ g. let one : x ≡ y = cc in differ x y other one)
