-- How many nodes are in rings, where one ring is changed.
use Rattle.std.proofs.Common.{◌≡◌, ◌≢◌, ◌≤◌, ◌+◌, ℕ, zero, suc, List, [], ◌∷◌, get_or, Option, None}
use Rattle.std.proofs.Common.{refl, ap, arith}
use Rattle.version_rings.specs.Inside.Sound.{nodes_in, total}
use Rattle.version_rings.specs.declared.node.Ring.{Ring}

abbrev pub ring_at : List (Option Ring) → ℕ → Option Ring
ring_at rings id = get_or rings id None

-- the first of each list is the one that changed
at-first : (x y tx ty nx ny : ℕ) → ty + nx ≡ tx + ny → ny ≡ nx → (y + ty) + x ≡ (x + tx) + y
at-first x y tx ty nx ny tails same = omega arith

-- the first of each list is the same
behind-first : (x y tx ty nx ny : ℕ) → ty + nx ≡ tx + ny → y ≡ x → (y + ty) + nx ≡ (x + tx) + ny
behind-first x y tx ty nx ny tails same = omega arith

pub total-but : (old new : List (Option Ring)) (id : ℕ)
    → ((k : ℕ) → k ≢ id → ring_at new k ≡ ring_at old k)
    → total new + nodes_in (ring_at old id) ≡ total old + nodes_in (ring_at new id)
total-but [] [] id same = refl
total-but [] (y ∷ ys) zero same =
    at-first 0 (nodes_in y) 0 (total ys) 0 (nodes_in (ring_at ys 0))
    (total-but [] ys zero (λ k differ. same (suc k) (λ e. cc))) (ap nodes_in (same 1 (λ e. cc)))
total-but [] (y ∷ ys) (suc id) same =
    behind-first 0 (nodes_in y) 0 (total ys) 0 (nodes_in (ring_at ys id))
    (total-but [] ys id (λ k differ. same (suc k) (λ e. differ cc)))
    (ap nodes_in (same 0 (λ e. cc)))
total-but (x ∷ xs) [] zero same =
    at-first (nodes_in x) 0 (total xs) 0 (nodes_in (ring_at xs 0)) 0
    (total-but xs [] zero (λ k differ. same (suc k) (λ e. cc))) (ap nodes_in (same 1 (λ e. cc)))
total-but (x ∷ xs) [] (suc id) same =
    behind-first (nodes_in x) 0 (total xs) 0 (nodes_in (ring_at xs id)) 0
    (total-but xs [] id (λ k differ. same (suc k) (λ e. differ cc)))
    (ap nodes_in (same 0 (λ e. cc)))
total-but (x ∷ xs) (y ∷ ys) zero same =
    at-first (nodes_in x) (nodes_in y) (total xs) (total ys) (nodes_in (ring_at xs 0))
    (nodes_in (ring_at ys 0))
    (total-but xs ys zero (λ k differ. same (suc k) (λ e. cc))) (ap nodes_in (same 1 (λ e. cc)))
total-but (x ∷ xs) (y ∷ ys) (suc id) same =
    behind-first (nodes_in x) (nodes_in y) (total xs) (total ys) (nodes_in (ring_at xs id))
    (nodes_in (ring_at ys id))
    (total-but xs ys id (λ k differ. same (suc k) (λ e. differ cc)))
    (ap nodes_in (same 0 (λ e. cc)))

at-most : (a b c : ℕ) → a ≤ b → a ≤ c + b
at-most a b c h = omega arith

first-at-most : (a b : ℕ) → a ≤ a + b
first-at-most a b = omega arith

none-at-most : (a : ℕ) → 0 ≤ a
none-at-most a = omega arith

pub one-of-total : (rings : List (Option Ring)) (id : ℕ)
    → nodes_in (ring_at rings id) ≤ total rings
one-of-total [] id = none-at-most 0
one-of-total (x ∷ xs) zero = first-at-most (nodes_in x) (total xs)
one-of-total (x ∷ xs) (suc id) =
    at-most (nodes_in (ring_at xs id)) (total xs) (nodes_in x) (one-of-total xs id)
