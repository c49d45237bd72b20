-- Owners, and lists by numbers.
use Rattle.std.proofs.Common.{◌≡◌, ◌≢◌, ℕ, zero, suc, List, [], ◌∷◌, ◌++◌, length, Bool, true}
use Rattle.std.proofs.Common.{false}
use Rattle.std.proofs.Common.{Option, Some, None, refl, sym, ap, ◌==◌, inl, inr, slice_get}
use Rattle.std.proofs.Common.{if◌then◌else◌}
use Rattle.std.specs.Prelude.{◌⊎◌, option_map}
use Rattle.std.proofs.lemmas.Bool.{cases_Bool, eqb-true, eq-eqb}
use Rattle.value_data.specs.Datum.{OwnerData, shared, tenant}
use Rattle.ref_table.specs.Numbered.{changed_at}
use Rattle.ref_history.specs.declared.ref_id.RefId.{RefId}
use Rattle.ref_table.specs.Standing.{Holder, of_owner, of_batch}

pub numbers : (n m : ℕ) → (n ≡ m) ⊎ (n ≢ m)
numbers n m = elim (cases_Bool (n == m)) [
  | inl same ↦ inl (eqb-true n m same)
  | inr apart ↦ inr (λ e. differ n m apart e)
] where
  differ : (n m : ℕ) → (n == m) ≡ false → n ≢ m
  differ n m apart e = let same = eq-eqb n m e in cc

pub owners : (o p : OwnerData) → (o ≡ p) ⊎ (o ≢ p)
owners shared shared = inl refl
owners shared (tenant t) = inr (λ e. cc)
owners (tenant t) shared = inr (λ e. cc)
owners (tenant t) (tenant u) = elim (numbers t u) [
  | inl same ↦ inl (ap tenant same)
  | inr apart ↦ inr (λ e. apart (same_tenant t u e))
] where
  same_tenant : (t u : ℕ) → tenant t ≡ tenant u → t ≡ u
  same_tenant t u e = cc

pub owner-same : (o p : OwnerData) → of_owner o ≡ of_owner p → o ≡ p
owner-same o p e = cc

pub batch-same : (b c : ℕ) → of_batch b ≡ of_batch c → b ≡ c
batch-same b c e = cc

pub owner-batch : (o : OwnerData) (b : ℕ) → of_owner o ≢ of_batch b
owner-batch o b e = cc

pub holders : (h k : Holder) → (h ≡ k) ⊎ (h ≢ k)
holders (of_owner o) (of_owner p) = elim (owners o p) [
  | inl same ↦ inl (ap of_owner same)
  | inr differs ↦ inr (λ e. differs (owner-same o p e))
]
holders (of_owner o) (of_batch b) = inr (owner-batch o b)
holders (of_batch b) (of_owner o) = inr (λ e. owner-batch o b (sym e))
holders (of_batch b) (of_batch c) = elim (numbers b c) [
  | inl same ↦ inl (ap of_batch same)
  | inr differs ↦ inr (λ e. differs (batch-same b c e))
]

pub some-same : {A : Type 0} (x y : A) → ◌≡◌ {A = Option A} (Some x) (Some y) → x ≡ y
some-same x y e = cc

pub none-some : {A : Type 0} {x : A} → ◌≡◌ {A = Option A} None (Some x) → ⊥
none-some e = cc

pub slice_get-changed : {A : Type 0} (n : ℕ) (f : A → A) (xs : List A)
    → slice_get (changed_at n f xs) n ≡ option_map f (slice_get xs n)
slice_get-changed n f [] = refl
slice_get-changed zero f (x ∷ xs) = refl
slice_get-changed (suc n) f (x ∷ xs) = slice_get-changed n f xs

pub slice_get-changed_other : {A : Type 0} (n m : ℕ) (f : A → A) (xs : List A) → n ≢ m
    → slice_get (changed_at m f xs) n ≡ slice_get xs n
slice_get-changed_other n m f [] other = refl
slice_get-changed_other zero zero f (x ∷ xs) other = absurd (other refl)
slice_get-changed_other zero (suc m) f (x ∷ xs) other = refl
slice_get-changed_other (suc n) zero f (x ∷ xs) other = refl
slice_get-changed_other (suc n) (suc m) f (x ∷ xs) other =
    slice_get-changed_other n m f xs (λ e. other (ap suc e))

pub changed_at-absent : {A : Type 0} (n : ℕ) (f : A → A) (xs : List A) → slice_get xs n ≡ None
    → changed_at n f xs ≡ xs
changed_at-absent n f [] none = refl
changed_at-absent zero f (x ∷ xs) none = absurd (none-some (sym none))
changed_at-absent (suc n) f (x ∷ xs) none = ap (λ ys. x ∷ ys) (changed_at-absent n f xs none)

pub slice_get-added : {A : Type 0} (xs : List A) (x : A)
    → slice_get (xs ++ x ∷ []) (length xs) ≡ Some x
slice_get-added [] x = refl
slice_get-added (y ∷ xs) x = slice_get-added xs x

pub slice_get-added_other : {A : Type 0} (n : ℕ) (xs : List A) (x : A) → n ≢ length xs
    → slice_get (xs ++ x ∷ []) n ≡ slice_get xs n
slice_get-added_other zero [] x other = absurd (other refl)
slice_get-added_other (suc n) [] x other = refl
slice_get-added_other zero (y ∷ xs) x other = refl
slice_get-added_other (suc n) (y ∷ xs) x other =
    slice_get-added_other n xs x (λ e. other (ap suc e))

pub slice_get-behind : {A : Type 0} (xs : List A) → slice_get xs (length xs) ≡ None
slice_get-behind [] = refl
slice_get-behind (y ∷ xs) = slice_get-behind xs

pub slice_get-front : {A : Type 0} (n : ℕ) (xs : List A) (x y : A) → slice_get xs n ≡ Some x
    → slice_get (xs ++ y ∷ []) n ≡ Some x
slice_get-front n [] x y e = absurd (none-some e)
slice_get-front zero (z ∷ xs) x y e = e
slice_get-front (suc n) (z ∷ xs) x y e = slice_get-front n xs x y e

pub ids : (i j : RefId) → (i ≡ j) ⊎ (i ≢ j)
ids i j = elim (numbers i.place j.place) [
  | inl same ↦ inl (same_place i j same)
  | inr differs ↦ inr (λ e. differs (ap (λ k. k.place) e))
] where
  same_place : (i j : RefId) → i.place ≡ j.place → i ≡ j
  same_place i j e = let id : ℕ → RefId = λ n. record { place = n } in ap id e

-- an id is among these or not
pub among : (i : RefId) (is : List RefId)
    → ((n : ℕ) × (slice_get is n ≡ Some i)) ⊎ ((n : ℕ) → slice_get is n ≢ Some i)
among i [] = inr (λ n e. none-some e)
among i (j ∷ is) = elim (ids j i) [
  | inl same ↦ inl (0, ap Some same)
  | inr differs ↦ elim (among i is) [
    | inl found ↦ inl (suc found.0, found.1)
    | inr none ↦ inr (nowhere differs none)
  ]
] where
  nowhere : j ≢ i → ((n : ℕ) → slice_get is n ≢ Some i)
      → (n : ℕ) → slice_get (j ∷ is) n ≢ Some i
  nowhere differs none zero e = differs (some-same j i e)
  nowhere differs none (suc n) e = none n e

-- what is found under a test that holds
pub found_if : {A : Type 0} (b : Bool) (o : Option A) (x : A) → (if b then o else None) ≡ Some x
    → (b ≡ true) × (o ≡ Some x)
found_if true o x e = (refl, e)
found_if false o x e = absurd (none-some e)
