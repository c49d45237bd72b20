-- Lists as finite maps.
use Rattle.std.proofs.Common.{◌≡◌, ◌≢◌, ℕ, zero, suc, List, [], ◌∷◌, Bool, true, false}
use Rattle.std.proofs.Common.{if◌then◌else◌, Option, Some, None, refl, sym, ap, ◌∙◌, map, ◌==◌}
use Rattle.std.proofs.Common.{slice_get}
use Rattle.std.specs.Prelude.{option_map}
use Rattle.std.proofs.lemmas.Bool.{eqb-true, ne_eqb, eq-eqb}
use Rattle.ref_table.specs.Numbered.{changed_at, Entry, entry, part_under, with_part, without}
use Rattle.server_rules.specs.Isolation.View.{map_entry}

pub none-some : {A : Type 0} {x : A} → ◌≡◌ {A = Option A} None (Some x) → ⊥
none-some e = cc

pub some-same : {A : Type 0} (x y : A) → ◌≡◌ {A = Option A} (Some x) (Some y) → x ≡ y
some-same x y e = cc

option_map-if : {A B : Type 0} (f : A → B) (b : Bool) (x y : Option A)
    → option_map f (if b then x else y) ≡ (if b then option_map f x else option_map f y)
option_map-if f true x y = refl
option_map-if f false x y = refl

map-if : {A B : Type 0} (f : A → B) (b : Bool) (x y : List A)
    → map f (if b then x else y) ≡ (if b then map f x else map f y)
map-if f true x y = refl
map-if f false x y = refl

pub slice_get-map : {A B : Type 0} (f : A → B) (n : ℕ) (xs : List A)
    → slice_get (map f xs) n ≡ option_map f (slice_get xs n)
slice_get-map f n [] = refl
slice_get-map f zero (x ∷ xs) = refl
slice_get-map f (suc n) (x ∷ xs) = slice_get-map f n xs

pub changed_at-map
    : {A B : Type 0} (f : A → B) (g : A → A) (h : B → B) → ((x : A) → f (g x) ≡ h (f x))
    → (n : ℕ) (xs : List A) → map f (changed_at n g xs) ≡ changed_at n h (map f xs)
changed_at-map f g h same n [] = refl
changed_at-map f g h same zero (x ∷ xs) = ap (λ y. y ∷ map f xs) (same x)
changed_at-map f g h same (suc n) (x ∷ xs) =
    ap (λ ys. f x ∷ ys) (changed_at-map f g h same n xs)

-- a change that f does not see
pub changed_at-unseen
    : {A B : Type 0} (f : A → B) (g : A → A) → ((x : A) → f (g x) ≡ f x)
    → (n : ℕ) (xs : List A) → map f (changed_at n g xs) ≡ map f xs
changed_at-unseen f g same n [] = refl
changed_at-unseen f g same zero (x ∷ xs) = ap (λ y. y ∷ map f xs) (same x)
changed_at-unseen f g same (suc n) (x ∷ xs) =
    ap (λ ys. f x ∷ ys) (changed_at-unseen f g same n xs)

pub part_under-map : {A B : Type 0} (f : A → B) (n : ℕ) (es : List (Entry A))
    → part_under n (map (map_entry f) es) ≡ option_map f (part_under n es)
part_under-map f n [] = refl
part_under-map f n (e ∷ es) =
    ap (λ rest. if n == e.number then Some (f e.part) else rest) (part_under-map f n es)
    ∙ sym (option_map-if f (n == e.number) (Some e.part) (part_under n es))

pub without-map : {A B : Type 0} (f : A → B) (n : ℕ) (es : List (Entry A))
    → without n (map (map_entry f) es) ≡ map (map_entry f) (without n es)
without-map f n [] = refl
without-map f n (e ∷ es) =
    ap (λ rest. if n == e.number then rest else map_entry f e ∷ rest) (without-map f n es)
    ∙ sym (map-if (map_entry f) (n == e.number) (without n es) (e ∷ without n es))

-- what is found after a change

pub part_under-other : {A : Type 0} (n m : ℕ) (part : A) (es : List (Entry A))
    → n ≢ m → part_under n (with_part m part es) ≡ part_under n es
part_under-other n m part [] other = refl
part_under-other n m part (e ∷ es) other =
    by (part_under-other n m part es other) (m == e.number) refl where
      After : Bool → Type 0
      After b =
          part_under n (if b then entry m part ∷ es else e ∷ with_part m part es) ≡ part_under n (e ∷ es)

      apart : (m == e.number) ≡ true → n ≢ e.number
      apart same q = other (q ∙ sym (eqb-true m e.number same))

      by : part_under n (with_part m part es) ≡ part_under n es → (b : Bool) → (m == e.number) ≡ b → After b
      by behind true same =
          ap (λ b. if b then Some part else part_under n es) (ne_eqb n m other)
          ∙ sym (ap (λ b. if b then Some e.part else part_under n es) (ne_eqb n e.number (apart same)))
      by behind false differs = ap (λ rest. if n == e.number then Some e.part else rest) behind

pub part_under-new : {A : Type 0} (n : ℕ) (part old : A) (es : List (Entry A))
    → part_under n es ≡ Some old → part_under n (with_part n part es) ≡ Some part
part_under-new n part old [] here = absurd (none-some here)
part_under-new n part old (e ∷ es) here =
    by (λ h. part_under-new n part old es h) (n == e.number) refl here where
      by : (part_under n es ≡ Some old → part_under n (with_part n part es) ≡ Some part)
          → (b : Bool) → (n == e.number) ≡ b
          → (if b then Some e.part else part_under n es) ≡ Some old
          → part_under n (if b then entry n part ∷ es else e ∷ with_part n part es) ≡ Some part
      by behind true same h = ap (λ b. if b then Some part else part_under n es) (eq-eqb n n refl)
      by behind false apart h =
          ap (λ b. if b then Some e.part else part_under n (with_part n part es)) apart ∙ behind h
