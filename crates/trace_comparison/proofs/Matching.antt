-- Two lists compared place by place: what is equal before a place, at it, and in all.
use Rattle.std.proofs.Common.{◌≡◌, ◌≢◌, ℕ, zero, suc, ◌+◌, ◌<◌, List, [], ◌∷◌, Some, length, get_or, take, slice_get, map, option_map, refl, sym, ap, ◌∙◌, add-one, arith}
use Rattle.std.proofs.lemmas.List.{length-map, get_or_default}
use Rattle.std.proofs.lemmas.Option.{slice_get-map, slice_get_read}
use Rattle.value_data.specs.Inside.View.{owner_view}
use Rattle.value_data.specs.declared.value.Owner.{Owner}
use Rattle.value_data.specs.declared.value.RefName.{RefName}
use Rattle.repl_asks.specs.Transactions.{RefNameData}
use Rattle.repl_asks.specs.Inside.View.{name_view}

module _ {A : Type 0} where
  -- one place more
  pub take-next : (xs ys : List A) (i : ℕ) → take i xs ≡ take i ys → slice_get xs i ≡ slice_get ys i → take (suc i) xs ≡ take (suc i) ys
  take-next [] [] i h at = refl
  take-next [] (y ∷ ys) zero h at = absurd (cc)
  take-next [] (y ∷ ys) (suc i) h at = absurd (cc)
  take-next (x ∷ xs) [] zero h at = absurd (cc)
  take-next (x ∷ xs) [] (suc i) h at = absurd (cc)
  take-next (x ∷ xs) (y ∷ ys) zero h at = let e : x ≡ y = cc in rw e refl
  take-next (x ∷ xs) (y ∷ ys) (suc i) h at =
      let e : x ≡ y = cc in
      let f : take i xs ≡ take i ys = cc in
      let g : take (suc i) xs ≡ take (suc i) ys = take-next xs ys i f at in cc

module _ {A C : Type 0} (f : A → C) where
  -- what stands at a place of both
  pub at-place : (xs : List A) (i : ℕ) (x : A) → i < length xs → x ≡ get_or xs i x → slice_get (map f xs) i ≡ Some (f x)
  at-place xs i x within is = slice_get-map f xs i ∙ ap (option_map f) (slice_get_read xs (length xs) i x refl within is)

-- two lists, which may be of different things that stand for the same
module _ {A B C : Type 0} (f : A → C) (g : B → C) where
  pub equal-next : (xs : List A) (ys : List B) (i : ℕ) (x : A) (y : B) → i < length xs → i < length ys → x ≡ get_or xs i x → y ≡ get_or ys i y → f x ≡ g y
      → take i (map f xs) ≡ take i (map g ys) → take (i + 1) (map f xs) ≡ take (i + 1) (map g ys)
  equal-next xs ys i x y k l is at same before =
      rw add-one
      (take-next (map f xs) (map g ys) i before (at-place f xs i x k is ∙ ap Some same ∙ sym (at-place g ys i y l at)))

  pub unequal-at : (xs : List A) (ys : List B) (i : ℕ) (x : A) (y : B) → i < length xs → i < length ys → x ≡ get_or xs i x → y ≡ get_or ys i y → (f x ≡ g y → ⊥)
      → slice_get (map f xs) i ≢ slice_get (map g ys) i
  unequal-at xs ys i x y k l is at differ e =
      let both : Some (f x) ≡ Some (g y) = sym (at-place f xs i x k is) ∙ e ∙ at-place g ys i y l at in
      differ (cc)

  pub differ-at : (xs : List A) (ys : List B) (i : ℕ) (x : A) (y : B) → i < length xs → i < length ys → x ≡ get_or xs i x → y ≡ get_or ys i y → (f x ≡ g y → ⊥)
      → map f xs ≡ map g ys → ⊥
  differ-at xs ys i x y k l is at differ e = unequal-at xs ys i x y k l is at differ (ap (λ (zs : List C). slice_get zs i) e)

  -- where one list ends the longer one goes on
  pub goes-on : (xs : List A) (ys : List B) → length xs < length ys → slice_get (map f xs) (length xs) ≢ slice_get (map g ys) (length xs)
  goes-on [] [] h e = absurd (omega (arith, h))
  goes-on [] (y ∷ ys) h e = absurd (cc)
  goes-on (x ∷ xs) [] h e = absurd (omega (arith, h))
  goes-on (x ∷ xs) (y ∷ ys) h e = goes-on xs ys (omega (arith, h)) e

  pub unequal-lengths : (xs : List A) (ys : List B) → length xs ≢ length ys → map f xs ≡ map g ys → ⊥
  unequal-lengths xs ys differ e = differ (sym (length-map xs f) ∙ ap length e ∙ length-map ys g)

module _ {A B : Type 0} (f : A → B) where
  -- the same, where what stands at the place is copied
  pub equal-next_copied : (xs ys : List A) (i : ℕ) (d : A) → i < length xs → i < length ys → f (get_or xs i d) ≡ f (get_or ys i d)
      → take i (map f xs) ≡ take i (map f ys) → take (i + 1) (map f xs) ≡ take (i + 1) (map f ys)
  equal-next_copied xs ys i d k l =
      equal-next f f xs ys i (get_or xs i d) (get_or ys i d) k l (get_or_default xs i d (get_or xs i d) k) (get_or_default ys i d (get_or ys i d) l)

  pub differ-at_copied : (xs ys : List A) (i : ℕ) (d : A) → i < length xs → i < length ys → (f (get_or xs i d) ≡ f (get_or ys i d) → ⊥) → map f xs ≡ map f ys → ⊥
  differ-at_copied xs ys i d k l =
      differ-at f f xs ys i (get_or xs i d) (get_or ys i d) k l (get_or_default xs i d (get_or xs i d) k) (get_or_default ys i d (get_or ys i d) l)

-- a ref's name says which it is
owner-same : (a b : Owner) → owner_view a ≡ owner_view b → a ≡ b
owner-same Owner.Shared Owner.Shared e = refl
owner-same Owner.Shared (Owner.Tenant t) e = absurd (cc)
owner-same (Owner.Tenant s) Owner.Shared e = absurd (cc)
owner-same (Owner.Tenant s) (Owner.Tenant t) e = cc

pub name-same : (a b : RefName) → name_view a ≡ name_view b → a ≡ b
name-same a b e =
    let owner = owner-same a.owner b.owner (ap (λ (n : RefNameData). n.owner) e) in
    let number : a.number ≡ b.number = ap (λ (n : RefNameData). n.number) e in
    rw (owner, number) refl

pub ruleset place_steps = (equal-next, take-next, differ-at, goes-on, unequal-lengths)

pub ruleset ref_steps = (name-same, equal-next_copied, differ-at_copied, unequal-lengths)
