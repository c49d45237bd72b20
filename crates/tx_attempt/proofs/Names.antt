-- Names of refs, and the keys by which they are found.
use Rattle.std.proofs.Common.{◌≡◌, Bool, true, false, ◌&&◌, refl, sym, ap, ap₂, ◌∙◌}
use Rattle.std.specs.Prelude.{◌==◌}
use Rattle.std.specs.Cmp.{unsigned_tied, tied_then}
use Rattle.std.specs.Ordering.{is_eq, nat_cmp}
use Rattle.std.proofs.lemmas.Bool.{eqb-true, eq-eqb}
use Rattle.std.proofs.lemmas.Cmp.{nat_eq_equiv}
use Rattle.value_data.specs.Datum.{OwnerData, shared, tenant}
use Rattle.value_data.specs.Same.{same_owner}
use Rattle.repl_asks.specs.Transactions.{RefNameData, same_name}
use Rattle.tx_attempt.specs.contracts.key.KeyOrd.TheImpl as order
use Rattle.tx_attempt.specs.Inside.Keys.{key_of, tenant_of}

-- names are the same where their keys are
pub keys-tied : (a b : RefNameData)
    → is_eq ((order.ghosts).cmp (key_of a) (key_of b)) ≡ same_name a b
keys-tied a b = at a.owner b.owner
  where
    at : (o p : OwnerData) → is_eq ((order.ghosts).cmp (record { tenant = tenant_of o; number = a.number })
        (record { tenant = tenant_of p; number = b.number })) ≡ (same_owner o p && a.number == b.number)
    at shared shared = unsigned_tied a.number b.number
    at shared (tenant t) = refl
    at (tenant t) shared = refl
    at (tenant t) (tenant u) = sym (tied_then (nat_cmp t u) (nat_cmp a.number b.number))
        ∙ ap₂ (λ x y. x && y) (unsigned_tied t u) (unsigned_tied a.number b.number)

pub same_name-sym : (a b : RefNameData) → same_name a b ≡ same_name b a
same_name-sym a b = ap₂ (λ x y. x && y) (at a.owner b.owner) (nat_eq_equiv.symm a.number b.number)
  where
    at : (o p : OwnerData) → same_owner o p ≡ same_owner p o
    at shared shared = refl
    at shared (tenant t) = refl
    at (tenant t) shared = refl
    at (tenant t) (tenant u) = nat_eq_equiv.symm t u

pub same_name-refl : (a : RefNameData) → same_name a a ≡ true
same_name-refl a = ap₂ (λ x y. x && y) (at a.owner) (eq-eqb a.number a.number refl)
  where
    at : (o : OwnerData) → same_owner o o ≡ true
    at shared = refl
    at (tenant t) = eq-eqb t t refl

both_true : (a b : Bool) → (a && b) ≡ true → (a ≡ true) × (b ≡ true)
both_true true b e = (refl, e)
both_true false b e = absurd (cc)

same_owner-true : (o p : OwnerData) → same_owner o p ≡ true → o ≡ p
same_owner-true shared shared e = refl
same_owner-true shared (tenant u) e = absurd (cc)
same_owner-true (tenant t) shared e = absurd (cc)
same_owner-true (tenant t) (tenant u) e = ap tenant (eqb-true t u e)

pub same_name-true : (a b : RefNameData) → same_name a b ≡ true → a ≡ b
same_name-true a b e =
    let both = both_true (same_owner a.owner b.owner) (a.number == b.number) e in
    let owner = same_owner-true a.owner b.owner both.0 in
    let number = eqb-true a.number b.number both.1 in
    rw (owner, number) refl
