-- All actors have lower seats than this, through changes.
use Rattle.std.proofs.Common.{◌≡◌, ◌<◌, ◌==◌, ℕ, List, [], ◌∷◌, Bool, true, false, nat_lt, ◌&&◌}
use Rattle.std.proofs.Common.{refl, sym, ap, ◌∙◌, true≢false}
use Rattle.std.proofs.lemmas.Bool.{eqb-true, ltb-true, lt-ltb}
use Rattle.ref_table.specs.Numbered.{Entry, with_part, without}
use Rattle.server_rules.specs.Tenant.{ActorData, seat_of}
use Rattle.server_rules.specs.declared.actor.Actor.{Actor}
use Rattle.tenant_parts.specs.View.{AreBelow}
use Rattle.tenant_parts.proofs.EntryLaws.{replaced_first, without_first}
use Rattle.tenant_world.specs.Acting.{left_after}
use Rattle.tenant_world.specs.Seats.{are_below}

first-true : (b c : Bool) → (b && c) ≡ true → b ≡ true
first-true true c e = refl
first-true false c e = absurd (true≢false (sym e))

second-true : (b c : Bool) → (b && c) ≡ true → c ≡ true
second-true true c e = e
second-true false c e = absurd (true≢false (sym e))

both-true : (b c : Bool) → b ≡ true → c ≡ true → (b && c) ≡ true
both-true true c e f = f
both-true false c e f = absurd (true≢false (sym e))

pub below-with_part : (s n : ℕ) (x : ActorData) (es : List (Entry ActorData)) → are_below s es ≡ true
    → are_below s (with_part n x es) ≡ true
below-with_part s n x [] below = refl
below-with_part s n x (e ∷ es) below =
    let first = first-true (nat_lt e.number s) (are_below s es) below in
    let more = second-true (nat_lt e.number s) (are_below s es) below in
    by first more (below-with_part s n x es more) (n == e.number) refl
  where
    by : nat_lt e.number s ≡ true → are_below s es ≡ true → are_below s (with_part n x es) ≡ true
        → (b : Bool) → (n == e.number) ≡ b → are_below s (replaced_first b n x e es) ≡ true
    by first more behind true same = both-true (nat_lt n s) (are_below s es)
        (ap (λ k. nat_lt k s) (eqb-true n e.number same) ∙ first) more
    by first more behind false apart =
        both-true (nat_lt e.number s) (are_below s (with_part n x es)) first behind

pub below-without : (s n : ℕ) (es : List (Entry ActorData)) → are_below s es ≡ true
    → are_below s (without n es) ≡ true
below-without s n [] below = refl
below-without s n (e ∷ es) below =
    let first = first-true (nat_lt e.number s) (are_below s es) below in
    let more = second-true (nat_lt e.number s) (are_below s es) below in
    by first (below-without s n es more) (n == e.number)
  where
    by : nat_lt e.number s ≡ true → are_below s (without n es) ≡ true → (b : Bool)
        → are_below s (without_first b e (without n es)) ≡ true
    by first behind true = behind
    by first behind false =
        both-true (nat_lt e.number s) (are_below s (without n es)) first behind

pub below-stays : (s : ℕ) (b : Bool) (a : Actor) (es : List (Entry ActorData))
    → are_below s es ≡ true → are_below s (left_after b a es) ≡ true
below-stays s true a es below = below-without s (seat_of a) es below
below-stays s false a es below = below

-- the same, as it is asked for where an actor is added
pub seated-below : (s : ℕ) (es : List (Entry ActorData)) → are_below s es ≡ true → AreBelow s es
seated-below s [] below = tt
seated-below s (e ∷ es) below = (
  lt-from (first-true (nat_lt e.number s) (are_below s es) below),
  seated-below s es (second-true (nat_lt e.number s) (are_below s es) below),
)
  where
    lt-from : nat_lt e.number s ≡ true → e.number < s
    lt-from h = ltb-true e.number s h

pub below-seated : (s : ℕ) (es : List (Entry ActorData)) → AreBelow s es → are_below s es ≡ true
below-seated s [] below = refl
below-seated s (e ∷ es) below =
    both-true (nat_lt e.number s) (are_below s es) (lt-ltb e.number s below.0)
    (below-seated s es below.1)
