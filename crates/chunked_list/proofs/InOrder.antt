-- Places that stand in an order from the start: each item has its place as its ticket.
use Rattle.std.proofs.Common.{◌≡◌, ⊎_elim, ℕ, zero, suc, ◌+◌, ◌-◌, ◌<◌, ◌≤◌, min, List, [], ◌∷◌, ◌++◌, length, get_or, map, refl, sym, ap, ◌∙◌, subst, arith}
use Rattle.std.specs.Prelude.{All, Contains, IsPermutation, sum_by}
use Rattle.std.proofs.lemmas.List.Recursion.{is_sum_by}
use Rattle.std.proofs.lemmas.Bool.{cases_lt}
use Rattle.std.proofs.lemmas.List.{length-append, get_or_append_left, get_or-append-add}
use Rattle.std.proofs.lemmas.List.Sorted.{sum_by-IsPermutation, All-permutation}
use Rattle.chunked_list.specs.Places.{first_places, below, places_of, KeepsTickets}
use Rattle.chunked_list.proofs.Tickets.{below-append}

pub long : (n : ℕ) → length (first_places n) ≡ n
long zero = refl
long (suc n) = omega (arith, length-append (first_places n) (n ∷ []), long n)

first-at : (n i : ℕ) → i < n → get_or (first_places n) i 0 ≡ i
first-at zero i h = absurd (omega (arith, h))
first-at (suc n) i h =
    ⊎_elim
    (λ (a : i < n). get_or_append_left (first_places n) (n ∷ []) 0 i (omega (arith, a, long n)) ∙ first-at n i a)
    (λ (a : n ≤ i).
    let e : i ≡ length (first_places n) + 0 = omega (arith, a, h, long n) in
    ap (λ (j : ℕ). get_or (first_places n ++ n ∷ []) j 0) e ∙ get_or-append-add (first_places n) (n ∷ []) 0 0 ∙ omega (arith, a, h))
    (cases_lt i n)

below-first : (m n : ℕ) → below m (first_places n) ≡ min m n
below-first m zero = omega arith
below-first m (suc n) = omega (arith, below-append m (first_places n) (n ∷ []), below-first m n)

below-sum : (m : ℕ) (ns : List ℕ) → below m ns ≡ sum_by (λ n. min 1 (m - n)) ns
below-sum m = is_sum_by (below m) (λ n. min 1 (m - n)) refl (λ n ns. refl)

below-permutation : (m : ℕ) (ns ms : List ℕ) → IsPermutation ns ms → below m ms ≡ below m ns
below-permutation m ns ms p = below-sum m ms ∙ sum_by-IsPermutation (λ n. min 1 (m - n)) ns ms p ∙ sym (below-sum m ns)

pub in-order-keeps : (order ts rs : List ℕ) → ts ≡ first_places (length order) → rs ≡ order → IsPermutation (first_places (length order)) order
    → KeepsTickets ts rs (length order)
in-order-keeps order ts rs e f p =
    rw (e, f) (record {
      rising = λ i j l m. omega (arith, l, m, long (length order), first-at (length order) i (omega (arith, l, m, long (length order))), first-at (length order) j (omega (arith, m, long (length order))));
      bounded = λ i l. omega (arith, l, long (length order), first-at (length order) i (omega (arith, l, long (length order))));
      counted = sym (long (length order));
      same = λ t. below-permutation t (first_places (length order)) order p;
    })

own : (count : ℕ) (ns : List ℕ) → All (λ n. n < count) ns → map (λ t. below t (first_places count)) ns ≡ ns
own count [] h = refl
own count (n ∷ ns) h =
    ap (λ (m : ℕ). m ∷ map (λ t. below t (first_places count)) ns) (omega (arith, below-first n count, h 0 0 (omega arith)))
    ∙ ap (λ (ms : List ℕ). n ∷ ms) (own count ns (λ k d l. h (suc k) d (omega (arith, l))))

any-default : (ns : List ℕ) (i a b : ℕ) → i < length ns → get_or ns i a ≡ get_or ns i b
any-default [] i a b h = absurd (omega (arith, h))
any-default (n ∷ ns) zero a b h = refl
any-default (n ∷ ns) (suc i) a b h = any-default ns i a b (omega (arith, h))

pub all-first : (n : ℕ) → All (λ m. m < n) (first_places n)
all-first n k d l =
    subst (λ (m : ℕ). m < n) (sym (any-default (first_places n) k d 0 l ∙ first-at n k (omega (arith, l, long n)))) (omega (arith, l, long n))

pub in-order-places : (order ts rs : List ℕ) → ts ≡ first_places (length order) → rs ≡ order → IsPermutation (first_places (length order)) order
    → places_of ts rs ≡ order
in-order-places order ts rs e f p =
    rw (e, f) (own (length order) order (All-permutation (λ m. m < length order) (first_places (length order)) order p (all-first (length order))))

pub contains-first : (n m : ℕ) → m < n → Contains (first_places n) m
contains-first n m h = (m, omega (arith, h, long n), any-default (first_places n) m m 0 (omega (arith, h, long n)) ∙ first-at n m h)
