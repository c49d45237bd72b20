-- Seats that are vacated, among other changes.
use Rattle.std.proofs.Common.{◌≡◌, ℕ, suc, ◌==◌, Bool, true, false, List, [], ◌∷◌, ◌++◌, Option}
use Rattle.std.proofs.Common.{Some, None, refl, sym, ap, ◌∙◌, ◌||◌, ◌<◌, true≢false, arith}
use Rattle.std.specs.BTreeSet.{insert_key}
use Rattle.std.specs.Ordering.{nat_cmp, match_ordering, MatchOrdering}
use Rattle.std.specs.declared.cmp.Ordering.{Ordering}
use Rattle.std.specs.declared.cmp.Ordering.TheVariants.{Less, Equal, Greater}
use Rattle.std.proofs.lemmas.Bool.{eq-eqb}
use Rattle.std.proofs.lemmas.Cmp.{ranked}
use Rattle.repl_sessions.specs.Inside.Leaving.{is_leaving}
use Rattle.ref_table.specs.Numbered.{Entry, entry, part_under, with_part, without}
use Rattle.server_rules.specs.Operating.{with_vacated_seat}
use Rattle.server_rules.specs.Request.{WorkInHand}
use Rattle.server_rules.specs.Tenant.{ActorData}
use Rattle.tenant_parts.specs.Queues.{changed_found, with_changed_actor, vacated_found, vacated_at}
use Rattle.tenant_parts.specs.View.{AreBelow}
use Rattle.tenant_moves.specs.Scene.{all_vacated}
use Rattle.tenant_moves.proofs.Apart.{part_under-with_part-apart, part_under-without-apart}
use Rattle.tenant_moves.proofs.Apart.{with_part-with_part-apart, with_part-without-apart}
use Rattle.tenant_moves.proofs.Apart.{without-without, part_under-added, with_part-added}
use Rattle.tenant_moves.proofs.Apart.{without-added, below-with_part, below-without}

abbrev pub Actors : Type 0
Actors = List (Entry ActorData)

-- one seat
part_under-with_vacated_seat : (n m : ℕ) (h : Option WorkInHand) (es : Actors) → (n ≡ m → ⊥) → part_under n (with_vacated_seat m h es) ≡ part_under n es
part_under-with_vacated_seat n m None es apart = part_under-without-apart n m es apart
part_under-with_vacated_seat n m (Some h) es apart = part_under-with_part-apart n m _ es apart

with_part-with_vacated_seat : (n m : ℕ) (x : ActorData) (h : Option WorkInHand) (es : Actors) → (n ≡ m → ⊥)
    → with_part n x (with_vacated_seat m h es) ≡ with_vacated_seat m h (with_part n x es)
with_part-with_vacated_seat n m x None es apart = with_part-without-apart n m x es apart
with_part-with_vacated_seat n m x (Some h) es apart = with_part-with_part-apart n m x _ es apart

without-with_vacated_seat : (n m : ℕ) (h : Option WorkInHand) (es : Actors) → (n ≡ m → ⊥)
    → without n (with_vacated_seat m h es) ≡ with_vacated_seat m h (without n es)
without-with_vacated_seat n m None es apart = without-without n m es
without-with_vacated_seat n m (Some h) es apart = sym (with_part-without-apart m n _ es (λ same. apart (sym same)))

with_vacated_seat-with_vacated_seat : (n m : ℕ) (h k : Option WorkInHand) (es : Actors) → (n ≡ m → ⊥)
    → with_vacated_seat n h (with_vacated_seat m k es) ≡ with_vacated_seat m k (with_vacated_seat n h es)
with_vacated_seat-with_vacated_seat n m None k es apart = without-with_vacated_seat n m k es apart
with_vacated_seat-with_vacated_seat n m (Some h) k es apart = with_part-with_vacated_seat n m _ k es apart

with_vacated_seat-added : (n m : ℕ) (x : ActorData) (h : Option WorkInHand) (es : Actors) → (n ≡ m → ⊥)
    → with_vacated_seat n h (es ++ entry m x ∷ []) ≡ with_vacated_seat n h es ++ entry m x ∷ []
with_vacated_seat-added n m x None es apart = without-added n m x es apart
with_vacated_seat-added n m x (Some h) es apart = with_part-added n m x _ es apart

-- the seat where an actor is found
part_under-left : (n m : ℕ) (o : Option ActorData) (es : Actors) → (n ≡ m → ⊥) → part_under n (vacated_found m es o) ≡ part_under n es
part_under-left n m None es apart = refl
part_under-left n m (Some x) es apart = part_under-with_vacated_seat n m x.hand es apart

pub part_under-one : (n m : ℕ) (es : Actors) → (n ≡ m → ⊥) → part_under n (vacated_at m es) ≡ part_under n es
part_under-one n m es apart = part_under-left n m (part_under m es) es apart

left-left : (n m : ℕ) (o p : Option ActorData) (es : Actors) → (n ≡ m → ⊥)
    → vacated_found n (vacated_found m es p) o ≡ vacated_found m (vacated_found n es o) p
left-left n m None p es apart = refl
left-left n m (Some x) None es apart = refl
left-left n m (Some x) (Some y) es apart = with_vacated_seat-with_vacated_seat n m x.hand y.hand es apart

pub vacated-one : (n m : ℕ) (es : Actors) → (n ≡ m → ⊥) → vacated_at n (vacated_at m es) ≡ vacated_at m (vacated_at n es)
vacated-one n m es apart =
    ap (vacated_found n (vacated_at m es)) (part_under-one n m es apart)
    ∙ left-left n m (part_under n es) (part_under m es) es apart
    ∙ sym (ap (vacated_found m (vacated_at n es)) (part_under-one m n es (λ same. apart (sym same))))

part_under-changed : (n m : ℕ) (f : ActorData → ActorData) (o : Option ActorData) (es : Actors) → (n ≡ m → ⊥)
    → part_under n (changed_found m f es o) ≡ part_under n es
part_under-changed n m f None es apart = refl
part_under-changed n m f (Some x) es apart = part_under-with_part-apart n m (f x) es apart

changed-left : (n m : ℕ) (f : ActorData → ActorData) (o p : Option ActorData) (es : Actors) → (n ≡ m → ⊥)
    → changed_found n f (vacated_found m es p) o ≡ vacated_found m (changed_found n f es o) p
changed-left n m f None p es apart = refl
changed-left n m f (Some x) None es apart = refl
changed-left n m f (Some x) (Some y) es apart = with_part-with_vacated_seat n m (f x) y.hand es apart

pub changed-one : (n m : ℕ) (f : ActorData → ActorData) (es : Actors) → (n ≡ m → ⊥)
    → with_changed_actor n f (vacated_at m es) ≡ vacated_at m (with_changed_actor n f es)
changed-one n m f es apart =
    ap (changed_found n f (vacated_at m es)) (part_under-one n m es apart)
    ∙ changed-left n m f (part_under n es) (part_under m es) es apart
    ∙ sym (ap (vacated_found m (with_changed_actor n f es)) (part_under-changed m n f (part_under n es) es (λ same. apart (sym same))))

added-left : (n m : ℕ) (x : ActorData) (o : Option ActorData) (es : Actors) → (n ≡ m → ⊥)
    → vacated_found n (es ++ entry m x ∷ []) o ≡ vacated_found n es o ++ entry m x ∷ []
added-left n m x None es apart = refl
added-left n m x (Some y) es apart = with_vacated_seat-added n m x y.hand es apart

pub added-one : (n m : ℕ) (x : ActorData) (es : Actors) → (n ≡ m → ⊥)
    → vacated_at n (es ++ entry m x ∷ []) ≡ vacated_at n es ++ entry m x ∷ []
added-one n m x es apart =
    ap (vacated_found n (es ++ entry m x ∷ [])) (part_under-added n m x es apart)
    ∙ added-left n m x (part_under n es) es apart

-- a seat is none of these sessions'
abbrev pub IsApart : ℕ → List ℕ → Type 0
IsApart seat [] = Unit {0}
IsApart seat (k ∷ ks) = (seat ≡ suc (suc k) → ⊥) × IsApart seat ks

pub bare-apart : (ks : List ℕ) → IsApart 1 ks
bare-apart [] = tt
bare-apart (k ∷ ks) = ((λ same. omega (arith, same)), bare-apart ks)

pub staying-apart : (n : ℕ) (ks : List ℕ) → is_leaving ks n ≡ false → IsApart (suc (suc n)) ks
staying-apart n [] absent = tt
staying-apart n (k ∷ ks) absent = by (n == k) refl absent (λ later. staying-apart n ks later)
  where
    by : (b : Bool) → (n == k) ≡ b → (b || is_leaving ks n) ≡ false → (is_leaving ks n ≡ false → IsApart (suc (suc n)) ks) → IsApart (suc (suc n)) (k ∷ ks)
    by true i h ih = absurd (cc)
    by false i h ih = ((λ same. apart i (omega (arith, same))), ih h)
      where
        apart : (n == k) ≡ false → n ≡ k → ⊥
        apart i same = let yes : (n == k) ≡ true = eq-eqb n k same in true≢false (sym yes ∙ i)

pub all-part_under : (seat : ℕ) (ks : List ℕ) (es : Actors) → IsApart seat ks → part_under seat (all_vacated ks es) ≡ part_under seat es
all-part_under seat [] es apart = refl
all-part_under seat (k ∷ ks) es apart = all-part_under seat ks (vacated_at (suc (suc k)) es) apart.1 ∙ part_under-one seat (suc (suc k)) es apart.0

pub all-changed : (seat : ℕ) (f : ActorData → ActorData) (ks : List ℕ) (es : Actors) → IsApart seat ks
    → with_changed_actor seat f (all_vacated ks es) ≡ all_vacated ks (with_changed_actor seat f es)
all-changed seat f [] es apart = refl
all-changed seat f (k ∷ ks) es apart =
    all-changed seat f ks (vacated_at (suc (suc k)) es) apart.1 ∙ ap (all_vacated ks) (changed-one seat (suc (suc k)) f es apart.0)

pub all-added : (seat : ℕ) (x : ActorData) (ks : List ℕ) (es : Actors) → IsApart seat ks
    → all_vacated ks (es ++ entry seat x ∷ []) ≡ all_vacated ks es ++ entry seat x ∷ []
all-added seat x [] es apart = refl
all-added seat x (k ∷ ks) es apart =
    ap (all_vacated ks) (added-one (suc (suc k)) seat x es (λ same. apart.0 (sym same)))
    ∙ all-added seat x ks (vacated_at (suc (suc k)) es) apart.1

pub all-one : (seat : ℕ) (ks : List ℕ) (es : Actors) → IsApart seat ks
    → all_vacated ks (vacated_at seat es) ≡ vacated_at seat (all_vacated ks es)
all-one seat [] es apart = refl
all-one seat (k ∷ ks) es apart =
    ap (all_vacated ks) (vacated-one (suc (suc k)) seat es (λ same. apart.0 (sym same)))
    ∙ all-one seat ks (vacated_at (suc (suc k)) es) apart.1

-- one session more that leaves
pub all-inserted : (n : ℕ) (ks : List ℕ) (es : Actors) → IsApart (suc (suc n)) ks
    → all_vacated (insert_key nat_cmp ks n) es ≡ vacated_at (suc (suc n)) (all_vacated ks es)
all-inserted n [] es apart = refl
all-inserted n (k ∷ ks) es apart =
    by (nat_cmp n k) (ranked n k (nat_cmp n k) refl) (all-inserted n ks (vacated_at (suc (suc k)) es) apart.1)
  where
    by : (o : Ordering) → MatchOrdering o (n < k) (n ≡ k) (k < n)
        → all_vacated (insert_key nat_cmp ks n) (vacated_at (suc (suc k)) es) ≡ vacated_at (suc (suc n)) (all_vacated ks (vacated_at (suc (suc k)) es))
        → all_vacated (match_ordering o (n ∷ k ∷ ks) (k ∷ ks) (k ∷ insert_key nat_cmp ks n)) es
        ≡ vacated_at (suc (suc n)) (all_vacated ks (vacated_at (suc (suc k)) es))
    by Less h ih = all-one (suc (suc n)) (k ∷ ks) es apart
    by Equal h ih = absurd (apart.0 (ap (λ k. suc (suc k)) h))
    by Greater h ih = ih

-- actors with lower seats
below-left : (m n : ℕ) (o : Option ActorData) (es : Actors) → AreBelow m es → AreBelow m (vacated_found n es o)
below-left m n None es below = below
below-left m n (Some x) es below = by x.hand
  where
    by : (h : Option WorkInHand) → AreBelow m (with_vacated_seat n h es)
    by None = below-without m n es below
    by (Some h) = below-with_part m n _ es below

pub below-all : (m : ℕ) (ks : List ℕ) (es : Actors) → AreBelow m es → AreBelow m (all_vacated ks es)
below-all m [] es below = below
below-all m (k ∷ ks) es below = below-all m ks (vacated_at (suc (suc k)) es) (below-left m (suc (suc k)) (part_under (suc (suc k)) es) es below)

pub below-changed : (m n : ℕ) (f : ActorData → ActorData) (es : Actors) → AreBelow m es → AreBelow m (with_changed_actor n f es)
below-changed m n f es below = by (part_under n es)
  where
    by : (o : Option ActorData) → AreBelow m (changed_found n f es o)
    by None = below
    by (Some x) = below-with_part m n (f x) es below
