-- What beginnings of one history tell alike.
use Rattle.std.proofs.Common.{◌≡◌, ◌≢◌, inl, inr, ◌∙◌, ◌==◌, ◌+◌, ◌≤◌, ℕ, suc, Bool, true, false}
use Rattle.std.proofs.Common.{List, [], ◌∷◌, ◌++◌, length, map, Option, None, Some, refl, sym, ap, arith}
use Rattle.std.proofs.Common.{if◌then◌else◌}
use Rattle.std.proofs.lemmas.Bool.Decides.{nat_tests}
use Rattle.std.proofs.lemmas.List.{map-append}
use mathlib.Core.List.{IsPrefix}
use Rattle.knowing_book.specs.Lasts.{is_key, last_from, last_of, AreLasts, IsNotedIn, IsForgottenIn}
use Rattle.knowing_book.specs.declared.lasts.Lasts.{Lasts}

-- what a history tells, entry by entry
abbrev pub told_from : {A E : Type 0} → (A → E → A) → A → List E → A
told_from tell a [] = a
told_from tell a (e ∷ es) = told_from tell (tell a e) es

pub told-snoc : {A E : Type 0} (tell : A → E → A) (a : A) (es : List E) (e : E)
    → told_from tell a (es ++ e ∷ []) ≡ tell (told_from tell a es) e
told-snoc tell a [] e = refl
told-snoc tell a (x ∷ es) e = told-snoc tell (tell a x) es e

pub prefix-map : {A B : Type 0} (f : A → B) (xs ys : List A) → IsPrefix xs ys
    → IsPrefix (map f xs) (map f ys)
prefix-map f xs ys p = (map f p.0, sym (map-append f xs p.0) ∙ ap (map f) p.1)

prefix-front : {A : Type 0} (xs : List A) (x : A) (ys : List A) → IsPrefix (xs ++ x ∷ []) ys
    → IsPrefix xs ys
prefix-front [] x ys p = (ys, refl)
prefix-front (z ∷ xs) x [] p = absurd (cc (p.1))
prefix-front (z ∷ xs) x (y ∷ ys) p =
    let r = prefix-front xs x ys (p.0, cc (p.1)) in (r.0, cc (p.1, r.1))

module _ {E : Type 0} (is : E → Bool) where
  snoc-from : (at last : ℕ) (es : List E) (e : E)
      → last_from is at last (es ++ e ∷ [])
      ≡ (if is e then suc (at + length es) else last_from is at last es)
  snoc-from at last [] e = by (is e)
    where
      by : (b : Bool) → (if b then suc at else last) ≡ (if b then suc (at + 0) else last)
      by true = omega arith
      by false = refl
  snoc-from at last (x ∷ es) e =
      snoc-from (suc at) (if is x then suc at else last) es e ∙ by (is e)
    where
      rest : ℕ
      rest = last_from is (suc at) (if is x then suc at else last) es

      by : (b : Bool) → (if b then suc (suc at + length es) else rest)
          ≡ (if b then suc (at + suc (length es)) else rest)
      by true = omega arith
      by false = refl

  pub last-snoc : (es : List E) (e : E)
      → last_of is (es ++ e ∷ []) ≡ (if is e then suc (length es) else last_of is es)
  last-snoc es e =
      let count : 0 + length es ≡ length es = omega arith in
      snoc-from 0 0 es e ∙ ap (λ n. if is e then suc n else last_of is es) count

  -- the last one stands no further to the front than the last before
  grows-by : (b : Bool) (at last : ℕ) → last ≤ at → (if b then suc at else last) ≤ suc at
  grows-by true at last le = omega arith
  grows-by false at last le = omega arith

  later-by : (b : Bool) (at last : ℕ) → last ≤ at → last ≤ (if b then suc at else last)
  later-by true at last le = omega arith
  later-by false at last le = omega arith

  grows : (at last : ℕ) (es : List E) → last ≤ at → last ≤ last_from is at last es
  grows at last [] le = omega arith
  grows at last (e ∷ es) le =
      let r = grows (suc at) (if is e then suc at else last) es (grows-by (is e) at last le) in
      let l = later-by (is e) at last le in
      omega arith

module _ {A E : Type 0} (tell : A → E → A) (is : E → Bool)
    (quiet : (a : A) (e : E) → is e ≡ false → tell a e ≡ a) where
  -- where none came since, the same is told
  none-by : (b : Bool) (at last : ℕ) (a : A) (e : E) (es : List E) → is e ≡ b → last ≤ at
      → ((x : A) → last_from is (suc at) last es ≡ last → told_from tell x es ≡ x)
      → last_from is (suc at) (if b then suc at else last) es ≡ last
      → told_from tell (tell a e) es ≡ a
  none-by true at last a e es its le ih none =
      let g = grows is (suc at) (suc at) es (omega arith) in absurd (omega arith)
  none-by false at last a e es its le ih none =
      ih (tell a e) none ∙ quiet a e its

  none-since : (at last : ℕ) (a : A) (es : List E) → last ≤ at → last_from is at last es ≡ last
      → told_from tell a es ≡ a
  none-since at last a [] le none = refl
  none-since at last a (e ∷ es) le none =
      none-by (is e) at last a e es refl le
      (λ x h. none-since (suc at) last x es (omega arith) h) none

  same-from : (at last : ℕ) (a : A) (xs ys whole : List E) → last ≤ at → IsPrefix xs whole
      → IsPrefix ys whole → last_from is at last xs ≡ last_from is at last ys
      → told_from tell a xs ≡ told_from tell a ys
  same-from at last a [] ys whole le p q same = sym (none-since at last a ys le (sym same))
  same-from at last a (x ∷ xs) [] whole le p q same = none-since at last a (x ∷ xs) le same
  same-from at last a (x ∷ xs) (y ∷ ys) [] le p q same = absurd (cc (p.1))
  same-from at last a (x ∷ xs) (y ∷ ys) (z ∷ whole) le p q same =
      let one : x ≡ y = cc (p.1, q.1) in
      same-from (suc at) (if is x then suc at else last) (tell a x) xs ys whole
      (grows-by is (is x) at last le) (p.0, cc (p.1)) (q.0, cc (q.1))
      (same ∙ ap (λ e. last_from is (suc at) (if is e then suc at else last) ys) (sym one))
      ∙ ap (λ e. told_from tell (tell a e) ys) one

  -- Two beginnings of one history, whose last entry of this kind is the same one.
  pub same-told : (a : A) (xs ys whole : List E) → IsPrefix xs whole → IsPrefix ys whole
      → last_of is xs ≡ last_of is ys → told_from tell a xs ≡ told_from tell a ys
  same-told a xs ys whole p q same = same-from 0 0 a xs ys whole (omega arith) p q same

  -- Who knew a beginning, and learns of one more entry of this kind with the place of the one before,
  -- knows what is told behind it.
  pub told-on : (a : A) (known before both : List E) (e : E) → IsPrefix known both
      → IsPrefix (before ++ e ∷ []) both → last_of is known ≡ last_of is before
      → told_from tell a (before ++ e ∷ []) ≡ tell (told_from tell a known) e
  told-on a known before both e p q same =
      told-snoc tell a before e
      ∙ ap (λ x. tell x e)
      (sym (same-told a known before both p (prefix-front before e both q) same))

-- What is kept of the last entries stays true.

own-key : (k j : ℕ) → k ≡ j → (j == k) ≡ true
own-key k j is = grind (arith, nat_tests)

other-key : (k j : ℕ) → k ≢ j → (j == k) ≡ false
other-key k j is = grind (arith, nat_tests)

module _ {E : Type 0} (key_of : E → Option ℕ) where
  abbrev under : ℕ → E → Bool
  under k e = is_key k (key_of e)

  pub under-own : (k : ℕ) (e : E) → key_of e ≡ Some k → is_key k (key_of e) ≡ true
  under-own k e is = ap (is_key k) is ∙ own-key k k refl

  -- behind an entry under a key
  pub noted : (es : List E) (e : E) (old new : Lasts) (key place : ℕ) → AreLasts key_of es old
      → key_of e ≡ Some key → length es ≡ place → IsNotedIn old new key place
      → AreLasts key_of (es ++ e ∷ []) new
  noted es e old new key place are its long moved k n at =
      elim (moved k n at) [
        | inl p ↦
            let mine : is_key k (key_of e) ≡ true = ap (is_key k) its ∙ own-key k key p.0 in
            let count : place + 1 ≡ suc (length es) = omega (arith, long) in
            p.1 ∙ count
            ∙ ap (λ b. if b then suc (length es) else last_of (under k) es) (sym mine)
            ∙ sym (last-snoc (under k) es e)
        | inr p ↦
            let mine : is_key k (key_of e) ≡ false = ap (is_key k) its ∙ other-key k key p.0 in
            are k n p.1
            ∙ ap (λ b. if b then suc (length es) else last_of (under k) es) (sym mine)
            ∙ sym (last-snoc (under k) es e)
      ]

  -- behind one that stands under none
  pub passed : (es : List E) (e : E) (lasts : Lasts) → AreLasts key_of es lasts → key_of e ≡ None
      → AreLasts key_of (es ++ e ∷ []) lasts
  passed es e lasts are its k n at =
      are k n at
      ∙ ap (λ b. if b then suc (length es) else last_of (under k) es) (sym (ap (is_key k) its))
      ∙ sym (last-snoc (under k) es e)

  -- behind one under a key that is followed no more
  pub gone : (es : List E) (e : E) (old new : Lasts) (key : ℕ) → AreLasts key_of es old
      → key_of e ≡ Some key → IsForgottenIn old new key → AreLasts key_of (es ++ e ∷ []) new
  gone es e old new key are its moved k n at =
      let p = moved k n at in
      let mine : is_key k (key_of e) ≡ false = ap (is_key k) its ∙ other-key k key p.0 in
      are k n p.1
      ∙ ap (λ b. if b then suc (length es) else last_of (under k) es) (sym mine)
      ∙ sym (last-snoc (under k) es e)

  -- where a key is followed no more
  pub forgotten : (es : List E) (old new : Lasts) (key : ℕ) → AreLasts key_of es old
      → IsForgottenIn old new key → AreLasts key_of es new
  forgotten es old new key are moved k n at = are k n (moved k n at).1
