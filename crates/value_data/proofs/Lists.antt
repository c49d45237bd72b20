-- Items and pairs as the lists that they were made of.
use Rattle.std.proofs.Common.{◌≡◌, ℕ, zero, suc, ◌≤◌, List, [], ◌∷◌, length, take, refl, ap, arith}
use Rattle.value_data.specs.Datum.{Datum}
use Rattle.value_data.specs.Listed.{listed, pairs_listed, items_of, pairs_of}

pub listed-of : (ds : List Datum) → listed (items_of ds) ≡ ds
listed-of [] = refl
listed-of (d ∷ ds) = ap (λ (es : List Datum). d ∷ es) (listed-of ds)

pub pairs_listed-of : (ps : List (Datum × Datum)) → pairs_listed (pairs_of ps) ≡ ps
pairs_listed-of [] = refl
pairs_listed-of (p ∷ ps) = ap (λ (qs : List (Datum × Datum)). p ∷ qs) (pairs_listed-of ps)

-- the first items of some, where there are no more and where there are as many
pub take-whole : (ns : List ℕ) (count : ℕ) → length ns ≤ count → ns ≡ take count ns
take-whole [] zero h = refl
take-whole [] (suc count) h = refl
take-whole (n ∷ ns) zero h = absurd (omega (arith, h))
take-whole (n ∷ ns) (suc count) h = ap (λ (ms : List ℕ). n ∷ ms) (take-whole ns count (omega (arith, h)))

pub take-counts : (ns : List ℕ) (count : ℕ) → count ≤ length ns → count ≡ length (take count ns)
take-counts ns zero h = refl
take-counts [] (suc count) h = absurd (omega (arith, h))
take-counts (n ∷ ns) (suc count) h = ap suc (take-counts ns count (omega (arith, h)))

pub ruleset lists = (listed-of, pairs_listed-of)
