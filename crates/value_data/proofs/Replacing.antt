-- Pairs with another value at one place, and what was measured of them.
use Rattle.std.proofs.Common.{◌≡◌, refl, ℕ, zero, suc, max, List, [], ◌∷◌, length, get_or, ◌<◌, ap, sym, arith}
use Rattle.value_data.specs.Datum.{Datum, Pairs, no_pairs, pair}
use Rattle.value_data.specs.Listed.{pairs_of}
use Rattle.value_data.specs.Inside.Placed.{with_value, without_at, StandsAt}
use Rattle.value_data.specs.Inside.Hash.{hash, peak, salted, pair_hash}

pub stands-at : (xs : List (Datum × Datum)) (n : ℕ) (p : Datum × Datum) → p ≡ get_or xs n p → n < length xs → StandsAt (pairs_of xs) n p.0 p.1
stands-at [] n p e h = absurd (omega (arith, h))
stands-at (x ∷ xs) zero p e h = (ap (λ (q : Datum × Datum). q.0) (sym e), ap (λ (q : Datum × Datum). q.1) (sym e))
stands-at (x ∷ xs) (suc n) p e h = stands-at xs n p e (omega (arith, h))

pub peak-with : (salt : ℕ) (ps : Pairs) (n : ℕ) (k v d : Datum) → StandsAt ps n k v
    → (m : ℕ) × (peak salt ps ≡ max m (salted salt (pair_hash (hash k) (hash v)))) × (peak salt (with_value n d ps) ≡ max m (salted salt (pair_hash (hash k) (hash d))))
peak-with salt no_pairs n k v d h = absurd h
peak-with salt (pair l w ps) zero k v d h = (
  peak salt ps,
  omega (arith, ap (λ (e : Datum). salted salt (pair_hash (hash e) (hash w))) h.0, ap (λ (e : Datum). salted salt (pair_hash (hash k) (hash e))) h.1),
  omega (arith, ap (λ (e : Datum). salted salt (pair_hash (hash e) (hash d))) h.0),
)
peak-with salt (pair l w ps) (suc n) k v d h =
    let r : (m : ℕ) × (peak salt ps ≡ max m (salted salt (pair_hash (hash k) (hash v)))) × (peak salt (with_value n d ps) ≡ max m (salted salt (pair_hash (hash k) (hash d)))) =
    peak-with salt ps n k v d h in
    (max (salted salt (pair_hash (hash l) (hash w))) r.0, omega (arith, r.1), omega (arith, r.2))

pub peak-without : (salt : ℕ) (ps : Pairs) (n : ℕ) (k v : Datum) → StandsAt ps n k v
    → (m : ℕ) × (peak salt ps ≡ max m (salted salt (pair_hash (hash k) (hash v)))) × (peak salt (without_at n ps) ≡ m)
peak-without salt no_pairs n k v h = absurd h
peak-without salt (pair l w ps) zero k v h = (
  peak salt ps,
  omega (arith, ap (λ (e : Datum). salted salt (pair_hash (hash e) (hash w))) h.0, ap (λ (e : Datum). salted salt (pair_hash (hash k) (hash e))) h.1),
  refl,
)
peak-without salt (pair l w ps) (suc n) k v h =
    let r : (m : ℕ) × (peak salt ps ≡ max m (salted salt (pair_hash (hash k) (hash v)))) × (peak salt (without_at n ps) ≡ m) = peak-without salt ps n k v h in
    (max (salted salt (pair_hash (hash l) (hash w))) r.0, omega (arith, r.1), omega (arith, r.2))
