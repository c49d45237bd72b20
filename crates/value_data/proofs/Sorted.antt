-- Sort keys that ascend, and that two such lists with the same members are one.
use Rattle.std.proofs.Common.{◌≡◌, ◌⊎◌, inl, inr, List, [], ◌∷◌, refl, sym, ap, ◌∙◌, subst}
use Rattle.std.specs.declared.cmp.Ordering.{Ordering}
use Rattle.std.specs.declared.cmp.Ordering.TheVariants.{Less, Equal, Greater}
use Rattle.std.specs.Ordering.{ordering_reverse, match_ordering}
use Rattle.value_data.specs.Inside.Order.{SortKey, order, with_sort_key, sorted_keys, chain}
use Rattle.value_data.proofs.Ordered.{order-reverse, order-exact, order-self, order-Less}

abbrev pub IsIn : SortKey → List SortKey → Type 0
IsIn z [] = ⊥
IsIn z (x ∷ xs) = (z ≡ x) ⊎ IsIn z xs

-- each comes before all behind it
abbrev pub Ascends : List SortKey → Type 0
Ascends [] = Unit {0}
Ascends (x ∷ xs) = ((z : SortKey) → IsIn z xs → order x z ≡ Less) × Ascends xs

flipped : (p q : Ordering) → p ≡ Greater → p ≡ ordering_reverse q → q ≡ Less
flipped p Less h e = refl
flipped p Equal h e = absurd (cc)
flipped p Greater h e = absurd (cc)

-- what is greater has the other before it
pub order-Greater : (x y : SortKey) → order x y ≡ Greater → order y x ≡ Less
order-Greater x y h = flipped (order x y) (order y x) h (order-reverse x y)

-- what is put in stands there, and so does what stood there
with_sort_key-in : (x : SortKey) (ys : List SortKey) (z : SortKey) → (z ≡ x) ⊎ IsIn z ys → IsIn z (with_sort_key x ys)
with_sort_key-in x [] z h = h
with_sort_key-in x (y ∷ ys) z h = at (with_sort_key-in x ys z) (order x y) refl h
  where
    at : ((z ≡ x) ⊎ IsIn z ys → IsIn z (with_sort_key x ys)) → (o : Ordering) → order x y ≡ o → (z ≡ x) ⊎ IsIn z (y ∷ ys)
        → IsIn z (match_ordering o (x ∷ y ∷ ys) (y ∷ ys) (y ∷ with_sort_key x ys))
    at more Less e i = i
    at more Equal e (inl p) = inl (p ∙ order-exact x y e)
    at more Equal e (inr p) = p
    at more Greater e (inl p) = inr (more (inl p))
    at more Greater e (inr (inl p)) = inl p
    at more Greater e (inr (inr p)) = inr (more (inr p))

-- and nothing else
in-with_sort_key : (x : SortKey) (ys : List SortKey) (z : SortKey) → IsIn z (with_sort_key x ys) → (z ≡ x) ⊎ IsIn z ys
in-with_sort_key x [] z h = h
in-with_sort_key x (y ∷ ys) z h = at (in-with_sort_key x ys z) (order x y) h
  where
    later : (z ≡ x) ⊎ IsIn z ys → (z ≡ x) ⊎ IsIn z (y ∷ ys)
    later (inl p) = inl p
    later (inr p) = inr (inr p)

    at : (IsIn z (with_sort_key x ys) → (z ≡ x) ⊎ IsIn z ys) → (o : Ordering) → IsIn z (match_ordering o (x ∷ y ∷ ys) (y ∷ ys) (y ∷ with_sort_key x ys))
        → (z ≡ x) ⊎ IsIn z (y ∷ ys)
    at more Less i = i
    at more Equal i = inr i
    at more Greater (inl p) = inr (inl p)
    at more Greater (inr p) = later (more p)

pub sorted_keys-in : (xs : List SortKey) (z : SortKey) → IsIn z xs → IsIn z (sorted_keys xs)
sorted_keys-in [] z h = h
sorted_keys-in (x ∷ xs) z (inl p) = with_sort_key-in x (sorted_keys xs) z (inl p)
sorted_keys-in (x ∷ xs) z (inr p) = with_sort_key-in x (sorted_keys xs) z (inr (sorted_keys-in xs z p))

pub in-sorted_keys : (xs : List SortKey) (z : SortKey) → IsIn z (sorted_keys xs) → IsIn z xs
in-sorted_keys [] z h = h
in-sorted_keys (x ∷ xs) z h = at (in-sorted_keys xs z) (in-with_sort_key x (sorted_keys xs) z h)
  where
    at : (IsIn z (sorted_keys xs) → IsIn z xs) → (z ≡ x) ⊎ IsIn z (sorted_keys xs) → (z ≡ x) ⊎ IsIn z xs
    at rest (inl p) = inl p
    at rest (inr p) = inr (rest p)

with_sort_key-ascends : (x : SortKey) (ys : List SortKey) → Ascends ys → Ascends (with_sort_key x ys)
with_sort_key-ascends x [] h = (λ z i. absurd i, tt)
with_sort_key-ascends x (y ∷ ys) h = at (with_sort_key-ascends x ys h.1) (order x y) refl
  where
    behind : order x y ≡ Less → (z : SortKey) → IsIn z (y ∷ ys) → order x z ≡ Less
    behind e z (inl p) = ap (order x) p ∙ e
    behind e z (inr p) = order-Less x y z e (h.0 z p)

    after : order y x ≡ Less → (z : SortKey) → (z ≡ x) ⊎ IsIn z ys → order y z ≡ Less
    after e z (inl p) = ap (order y) p ∙ e
    after e z (inr p) = h.0 z p

    at : Ascends (with_sort_key x ys) → (o : Ordering) → order x y ≡ o → Ascends (match_ordering o (x ∷ y ∷ ys) (y ∷ ys) (y ∷ with_sort_key x ys))
    at more Less e = (behind e, h)
    at more Equal e = h
    at more Greater e = (λ z i. after (order-Greater x y e) z (in-with_sort_key x ys z i), more)

pub sorted_keys-ascends : (xs : List SortKey) → Ascends (sorted_keys xs)
sorted_keys-ascends [] = tt
sorted_keys-ascends (x ∷ xs) = with_sort_key-ascends x (sorted_keys xs) (sorted_keys-ascends xs)

not-before : (x : SortKey) → order x x ≡ Less → ⊥
not-before x h = let e : Equal ≡ Less = sym (order-self x) ∙ h in cc

-- the first of each is the first of the other
first-same : (x y : SortKey) (xs ys : List SortKey) → ((z : SortKey) → IsIn z xs → order x z ≡ Less) → ((z : SortKey) → IsIn z ys → order y z ≡ Less)
    → (x ≡ y) ⊎ IsIn x ys → (y ≡ x) ⊎ IsIn y xs → x ≡ y
first-same x y xs ys f g (inl p) k = p
first-same x y xs ys f g (inr p) (inl q) = sym q
first-same x y xs ys f g (inr p) (inr q) = absurd (not-before x (order-Less x y x (f y q) (g x p)))

-- a member of the one list is behind the first of the other
behind-first : (x : SortKey) (xs ys : List SortKey) → ((z : SortKey) → IsIn z xs → order x z ≡ Less)
    → ((z : SortKey) → IsIn z (x ∷ xs) → IsIn z (x ∷ ys)) → (z : SortKey) → IsIn z xs → IsIn z ys
behind-first x xs ys f g z h = at (g z (inr h))
  where
    at : (z ≡ x) ⊎ IsIn z ys → IsIn z ys
    at (inl p) = absurd (not-before x (sym (ap (order x) p) ∙ f z h))
    at (inr p) = p

pub ascending-same : (xs ys : List SortKey) → Ascends xs → Ascends ys → ((z : SortKey) → IsIn z xs → IsIn z ys) → ((z : SortKey) → IsIn z ys → IsIn z xs) → xs ≡ ys
ascending-same [] [] a b f g = refl
ascending-same [] (y ∷ ys) a b f g = absurd (g y (inl refl))
ascending-same (x ∷ xs) [] a b f g = absurd (f x (inl refl))
ascending-same (x ∷ xs) (y ∷ ys) a b f g =
    let e : x ≡ y = first-same x y xs ys a.0 b.0 (f x (inl refl)) (g y (inl refl)) in
    ap (λ w. w ∷ xs) e
    ∙ ap (λ ws. y ∷ ws)
    (ascending-same xs ys a.1 b.1
    (behind-first x xs ys a.0 (λ z h. subst (λ w. IsIn z (w ∷ ys)) (sym e) (f z h)))
    (behind-first y ys xs b.0 (λ z h. subst (λ w. IsIn z (w ∷ xs)) e (g z h))))

-- sorted lists with the same members are one
pub sorted_keys-same : (xs ys : List SortKey) → ((z : SortKey) → IsIn z xs → IsIn z ys) → ((z : SortKey) → IsIn z ys → IsIn z xs) → sorted_keys xs ≡ sorted_keys ys
sorted_keys-same xs ys f g =
    ascending-same (sorted_keys xs) (sorted_keys ys) (sorted_keys-ascends xs) (sorted_keys-ascends ys)
    (λ z h. sorted_keys-in ys z (f z (in-sorted_keys xs z h))) (λ z h. sorted_keys-in xs z (g z (in-sorted_keys ys z h)))

chain-exact : (xs ys : List SortKey) → chain xs ≡ chain ys → xs ≡ ys
chain-exact [] [] h = refl
chain-exact [] (y ∷ ys) h = absurd (cc)
chain-exact (x ∷ xs) [] h = absurd (cc)
chain-exact (x ∷ xs) (y ∷ ys) h =
    let e : x ≡ y = cc in
    let f : chain xs ≡ chain ys = cc in
    rw (e, chain-exact xs ys f) refl

pub same-members : (xs ys : List SortKey) → chain (sorted_keys xs) ≡ chain (sorted_keys ys) → (z : SortKey) → IsIn z xs → IsIn z ys
same-members xs ys h z i = in-sorted_keys ys z (subst (IsIn z) (chain-exact (sorted_keys xs) (sorted_keys ys) h) (sorted_keys-in xs z i))
