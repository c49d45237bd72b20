-- Tests that hold of equal things alone, of data made of data that has such a test.
use Rattle.std.proofs.Common.{◌≡◌, ◌==◌, List, [], ◌∷◌, Bool, true, false, ◌&&◌, refl, sym, ap, ◌∙◌}
use Rattle.std.proofs.Common.{◌⊎◌, true≢false}
use Rattle.std.proofs.lemmas.Bool.{eqb-true, eq-eqb, and_parts, and_from}
use Rattle.std.specs.Coded.{Coded}
use mathlib.Core.Logic.{inl, inr}
use base.Stored.{Gv, gnil, gnum, gcons}

pub record Tells (A : Type 0) : Type 0 where
  pub same : A → A → Bool
  pub sound : (x y : A) → same x y ≡ true → x ≡ y
  pub alike : (x : A) → same x x ≡ true

abbrev same_code : Gv → Gv → Bool
same_code gnil gnil = true
same_code (gnum m) (gnum n) = m == n
same_code (gcons a b) (gcons c d) = same_code a c && same_code b d
same_code gnil (gnum n) = false
same_code gnil (gcons c d) = false
same_code (gnum m) gnil = false
same_code (gnum m) (gcons c d) = false
same_code (gcons a b) gnil = false
same_code (gcons a b) (gnum n) = false

sound-code : (a b : Gv) → same_code a b ≡ true → a ≡ b
sound-code gnil gnil e = refl
sound-code (gnum m) (gnum n) e = ap gnum (eqb-true m n e)
sound-code (gcons a b) (gcons c d) e =
    let both = and_parts (same_code a c) (same_code b d) e in
    ap (λ x. gcons x b) (sound-code a c both.0) ∙ ap (gcons c) (sound-code b d both.1)
sound-code gnil (gnum n) e = absurd (true≢false (sym e))
sound-code gnil (gcons c d) e = absurd (true≢false (sym e))
sound-code (gnum m) gnil e = absurd (true≢false (sym e))
sound-code (gnum m) (gcons c d) e = absurd (true≢false (sym e))
sound-code (gcons a b) gnil e = absurd (true≢false (sym e))
sound-code (gcons a b) (gnum n) e = absurd (true≢false (sym e))

alike-code : (a : Gv) → same_code a a ≡ true
alike-code gnil = refl
alike-code (gnum m) = eq-eqb m m refl
alike-code (gcons a b) = and_from (same_code a a) (same_code b b) (alike-code a) (alike-code b)

pub coded : {A : Type 0} → Coded A → Tells A
coded c = record {
  same = λ x y. same_code (c.code x) (c.code y);
  sound = λ x y e. c.inj x y (sound-code (c.code x) (c.code y) e);
  alike = λ x. alike-code (c.code x);
}

module _ {A : Type 0} (t : Tells A) where
  abbrev same_items : List A → List A → Bool
  same_items [] [] = true
  same_items [] (y ∷ ys) = false
  same_items (x ∷ xs) [] = false
  same_items (x ∷ xs) (y ∷ ys) = t.same x y && same_items xs ys

  sound-items : (xs ys : List A) → same_items xs ys ≡ true → xs ≡ ys
  sound-items [] [] e = refl
  sound-items [] (y ∷ ys) e = absurd (true≢false (sym e))
  sound-items (x ∷ xs) [] e = absurd (true≢false (sym e))
  sound-items (x ∷ xs) (y ∷ ys) e =
      let both = and_parts (t.same x y) (same_items xs ys) e in
      ap (λ z. z ∷ xs) (t.sound x y both.0) ∙ ap (λ (zs : List A). y ∷ zs) (sound-items xs ys both.1)

  alike-items : (xs : List A) → same_items xs xs ≡ true
  alike-items [] = refl
  alike-items (x ∷ xs) = and_from (t.same x x) (same_items xs xs) (t.alike x) (alike-items xs)

  pub items : Tells (List A)
  items = record { same = same_items; sound = sound-items; alike = alike-items }

module _ {A B : Type 0} (a : Tells A) (b : Tells B) where
  pub pair : Tells (A × B)
  pair = record {
    same = λ p q. a.same p.0 q.0 && b.same p.1 q.1;
    sound = λ p q e.
        let both = and_parts (a.same p.0 q.0) (b.same p.1 q.1) e in
        ap (λ (x : A). (x, p.1)) (a.sound p.0 q.0 both.0) ∙ ap (λ (y : B). (q.0, y)) (b.sound p.1 q.1 both.1);
    alike = λ p. and_from (a.same p.0 p.0) (b.same p.1 p.1) (a.alike p.0) (b.alike p.1);
  }

  abbrev same_side : A ⊎ B → A ⊎ B → Bool
  same_side (inl x) (inl y) = a.same x y
  same_side (inr x) (inr y) = b.same x y
  same_side (inl x) (inr y) = false
  same_side (inr x) (inl y) = false

  sound-side : (p q : A ⊎ B) → same_side p q ≡ true → p ≡ q
  sound-side (inl x) (inl y) e = ap inl (a.sound x y e)
  sound-side (inr x) (inr y) e = ap inr (b.sound x y e)
  sound-side (inl x) (inr y) e = absurd (true≢false (sym e))
  sound-side (inr x) (inl y) e = absurd (true≢false (sym e))

  alike-side : (p : A ⊎ B) → same_side p p ≡ true
  alike-side (inl x) = a.alike x
  alike-side (inr x) = b.alike x

  pub either : Tells (A ⊎ B)
  either = record { same = same_side; sound = sound-side; alike = alike-side }

-- of what is given back by what it is read as
pub by_parts : {A : Type 0} (B : Type 0) → Tells B → (to : A → B) (from : B → A)
    → ((x : A) → from (to x) ≡ x) → Tells A
by_parts B t to from back = record {
  same = λ x y. t.same (to x) (to y);
  sound = λ x y e. sym (back x) ∙ ap from (t.sound (to x) (to y) e) ∙ back y;
  alike = λ x. t.alike (to x);
}
