-- The attempts of a tenant, through their changes.
use Rattle.std.proofs.Common.{◌≡◌, ◌≢◌, ◌==◌, ℕ, List, [], ◌∷◌, Bool, true, false, cond, Option}
use Rattle.std.proofs.Common.{None, Some, refl, sym, ap, ◌∙◌, true≢false}
use Rattle.std.specs.Prelude.{option_map}
use Rattle.std.proofs.lemmas.Bool.{eqb-true, eq-eqb, ne_eqb}
use Rattle.ref_table.specs.Numbered.{Entry, part_under, without}
use Rattle.server_rules.specs.Tenant.{seat_of}
use Rattle.server_rules.specs.declared.actor.Actor.{Actor}
use Rattle.tenant_parts.proofs.Seats.{at, at-seats}
use Rattle.tenant_parts.proofs.EntryLaws.{found_first, without_first}
use Rattle.tenant_parts.specs.Attempts.{point_at, ArePoints}
use Rattle.tenant_parts.specs.declared.attempts.Attempts.{Attempts}

pub part_under-without : {A : Type 0} (m n : ℕ) (es : List (Entry A)) → m ≢ n
    → part_under m (without n es) ≡ part_under m es
part_under-without m n [] apart = refl
part_under-without {A} m n (e ∷ es) apart = by (part_under-without m n es apart) (n == e.number) refl
  where
    by : part_under m (without n es) ≡ part_under m es → (b : Bool) → (n == e.number) ≡ b
        → part_under m (without_first b e (without n es))
        ≡ found_first (m == e.number) e.part (part_under m es)
    by behind true same = behind
        ∙ sym (ap (λ (b : Bool). found_first b e.part (part_under m es))
        (ap (λ k. m == k) (sym (eqb-true n e.number same)) ∙ ne_eqb m n apart))
    by behind false other = ap (λ it. found_first (m == e.number) e.part it) behind

-- one that was taken away is not found
part_under-gone : {A : Type 0} (n : ℕ) (es : List (Entry A)) → part_under n (without n es) ≡ None
part_under-gone n [] = refl
part_under-gone {A} n (e ∷ es) = by (part_under-gone n es) (n == e.number) refl where
  by : part_under n (without n es) ≡ None → (b : Bool) → (n == e.number) ≡ b
      → part_under n (without_first b e (without n es)) ≡ None
  by behind true same = behind
  by behind false apart = ap (λ (b : Bool). first b) apart ∙ behind where
    first : Bool → Option A
    first b = cond b (Some e.part) (part_under n (without n es))

pub points-left : (old new : Attempts) (a : Actor) (points : List (Entry ℕ))
    → ((b : Actor) → point_at new b ≡ cond (at a b) None (point_at old b))
    → ArePoints old points → ArePoints new (without (seat_of a) points)
points-left old new a points updates are b = by (seat_of a == seat_of b) refl where
  apart-by : (seat_of a == seat_of b) ≡ false → seat_of b ≢ seat_of a
  apart-by other e = true≢false (sym (eq-eqb (seat_of a) (seat_of b) (sym e)) ∙ other)

  by : (c : Bool) → (seat_of a == seat_of b) ≡ c
      → option_map (λ p. p.stamp) (point_at new b) ≡ part_under (seat_of b) (without (seat_of a) points)
  by true same =
      ap (option_map (λ p. p.stamp)) (updates b
      ∙ ap (λ c. cond c None (point_at old b)) (at-seats a b ∙ same))
      ∙ sym (part_under-gone (seat_of b) points)
      ∙ ap (λ n. part_under (seat_of b) (without n points)) (sym (eqb-true (seat_of a) (seat_of b) same))
  by false other =
      ap (option_map (λ p. p.stamp)) (updates b
      ∙ ap (λ c. cond c None (point_at old b)) (at-seats a b ∙ other))
      ∙ are b ∙ sym (part_under-without (seat_of b) (seat_of a) points (apart-by other))
