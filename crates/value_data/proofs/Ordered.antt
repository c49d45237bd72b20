-- The order of sort keys is total.
use Rattle.std.proofs.Common.{◌≡◌, ℤ, refl, sym, ap}
use Rattle.std.specs.declared.cmp.Ordering.{Ordering}
use Rattle.std.specs.declared.cmp.Ordering.TheVariants.{Less, Equal, Greater}
use Rattle.std.specs.Ordering.{int_cmp, is_eq, ordering_then, ordering_reverse}
use Rattle.std.specs.Cmp.{nat_cmp_total, int_cmp_total}
use Rattle.std.specs.Cmp.Lexicographic.{nat_list_cmp_total}
use Rattle.std.proofs.lemmas.Map.Lookups.{exact_unsigned, exact_bytes}
use Rattle.std.proofs.lemmas.Bool.Decides.{Decides-int_eq}
use Rattle.value_data.specs.Inside.Order.{SortKey, number, signed, text, both, order}

then-reverse : (p q r s : Ordering) → p ≡ ordering_reverse r → q ≡ ordering_reverse s → ordering_then p q ≡ ordering_reverse (ordering_then r s)
then-reverse p q Less s e f = rw e refl
then-reverse p q Equal s e f = rw (e, f) refl
then-reverse p q Greater s e f = rw e refl

then-Equal : (p q : Ordering) → ordering_then p q ≡ Equal → (p ≡ Equal) × (q ≡ Equal)
then-Equal Less q h = absurd (cc)
then-Equal Equal q h = (refl, h)
then-Equal Greater q h = absurd (cc)

-- the other way round
pub order-reverse : (x y : SortKey) → order x y ≡ ordering_reverse (order y x)
order-reverse (number m) (number n) = nat_cmp_total.antisymm m n
order-reverse (signed m) (signed n) = int_cmp_total.antisymm m n
order-reverse (text s) (text t) = nat_list_cmp_total.antisymm s t
order-reverse (both a b) (both c d) = then-reverse (order a c) (order b d) (order c a) (order d b) (order-reverse a c) (order-reverse b d)
order-reverse (number m) y = refl
order-reverse (signed m) y = refl
order-reverse (text s) y = refl
order-reverse (both a b) y = refl

integers : (m n : ℤ) → int_cmp m n ≡ Equal → m ≡ n
integers m n h = (Decides-int_eq m n).0 (ap is_eq h)

-- only equal keys tie
pub order-exact : (x y : SortKey) → order x y ≡ Equal → x ≡ y
order-exact (number m) (number n) h = ap number (exact_unsigned m n h)
order-exact (signed m) (signed n) h = ap signed (integers m n h)
order-exact (text s) (text t) h = ap text (exact_bytes s t h)
order-exact (both a b) (both c d) h =
    let parts : (order a c ≡ Equal) × (order b d ≡ Equal) = then-Equal (order a c) (order b d) h in
    rw (order-exact a c parts.0, order-exact b d parts.1) refl
order-exact x y h = absurd (cc)

self : (p : Ordering) → p ≡ ordering_reverse p → p ≡ Equal
self Less h = absurd (cc)
self Equal h = refl
self Greater h = absurd (cc)

pub order-self : (x : SortKey) → order x x ≡ Equal
order-self x = self (order x x) (order-reverse x x)

then-Less : (p q r s t u : Ordering) → (p ≡ Less → r ≡ Less → t ≡ Less) → (p ≡ Equal → t ≡ r) → (r ≡ Equal → t ≡ p)
    → (q ≡ Less → s ≡ Less → u ≡ Less) → ordering_then p q ≡ Less → ordering_then r s ≡ Less → ordering_then t u ≡ Less
then-Less Less q Less s t u both_less left right rest h i = rw (both_less refl refl) refl
then-Less Less q Equal s t u both_less left right rest h i = rw (right refl) refl
then-Less Equal q Less s t u both_less left right rest h i = rw (left refl) refl
then-Less Equal q Equal s t u both_less left right rest h i = rw (left refl, rest h i) refl
then-Less Greater q r s t u both_less left right rest h i = absurd (cc)
then-Less Less q Greater s t u both_less left right rest h i = absurd (cc)
then-Less Equal q Greater s t u both_less left right rest h i = absurd (cc)

pub order-Less : (x y z : SortKey) → order x y ≡ Less → order y z ≡ Less → order x z ≡ Less
order-Less (number m) (number n) (number o) h i = nat_cmp_total.trans m n o h i
order-Less (signed m) (signed n) (signed o) h i = int_cmp_total.trans m n o h i
order-Less (text s) (text t) (text u) h i = nat_list_cmp_total.trans s t u h i
order-Less (both a b) (both c d) (both e f) h i =
    then-Less (order a c) (order b d) (order c e) (order d f) (order a e) (order b f) (order-Less a c e)
    (λ p. ap (λ x. order x e) (order-exact a c p)) (λ p. ap (order a) (sym (order-exact c e p)))
    (order-Less b d f) h i
order-Less (number m) y (number o) h i = absurd (cc)
order-Less (number m) y (signed o) h i = refl
order-Less (number m) y (text u) h i = refl
order-Less (number m) y (both e f) h i = refl
order-Less (signed m) (number n) (number o) h i = absurd (cc)
order-Less (signed m) (signed n) (number o) h i = absurd (cc)
order-Less (signed m) (text t) (number o) h i = absurd (cc)
order-Less (signed m) (both c d) (number o) h i = absurd (cc)
order-Less (signed m) y (signed o) h i = absurd (cc)
order-Less (signed m) y (text u) h i = refl
order-Less (signed m) y (both e f) h i = refl
order-Less (text s) (number n) (number o) h i = absurd (cc)
order-Less (text s) (signed n) (number o) h i = absurd (cc)
order-Less (text s) (text t) (number o) h i = absurd (cc)
order-Less (text s) (both c d) (number o) h i = absurd (cc)
order-Less (text s) (number n) (signed o) h i = absurd (cc)
order-Less (text s) (signed n) (signed o) h i = absurd (cc)
order-Less (text s) (text t) (signed o) h i = absurd (cc)
order-Less (text s) (both c d) (signed o) h i = absurd (cc)
order-Less (text s) y (text u) h i = absurd (cc)
order-Less (text s) y (both e f) h i = refl
order-Less (both a b) (number n) (number o) h i = absurd (cc)
order-Less (both a b) (signed n) (number o) h i = absurd (cc)
order-Less (both a b) (text t) (number o) h i = absurd (cc)
order-Less (both a b) (both c d) (number o) h i = absurd (cc)
order-Less (both a b) (number n) (signed o) h i = absurd (cc)
order-Less (both a b) (signed n) (signed o) h i = absurd (cc)
order-Less (both a b) (text t) (signed o) h i = absurd (cc)
order-Less (both a b) (both c d) (signed o) h i = absurd (cc)
order-Less (both a b) (number n) (text u) h i = absurd (cc)
order-Less (both a b) (signed n) (text u) h i = absurd (cc)
order-Less (both a b) (text t) (text u) h i = absurd (cc)
order-Less (both a b) (both c d) (text u) h i = absurd (cc)
order-Less (both a b) y (both e f) h i = absurd (cc)
