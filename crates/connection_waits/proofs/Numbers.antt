-- Each move keeps the rule of the queue.
use Rattle.std.proofs.Common.{◌≡◌, ◌≢◌, ◌∙◌, refl, sym, ap, subst, arith}
use Rattle.std.proofs.Common.{ℕ, zero, suc, ◌≤◌, ◌+◌, true, false, true≢false}
use Rattle.std.proofs.Common.{List, [], ◌∷◌, ◌++◌, set, ⊎_elim}
use mathlib.Core.Option.{some, some-ne-none}
use lib.ListN.{get_elem?}
use Rattle.atomic_table.proofs.Lists.{at_set, at_snoc}
use Rattle.crossbeam_channel.specs.Fifo.{Pushes, Pops, Forks}
use Rattle.connection_waits.specs.declared.feeding.Accepted.{Accepted}
use Rattle.connection_waits.specs.declared.feeding.Hand.{Hand}
use Rattle.connection_waits.specs.Numbers.{hand, IsRising, TicketAgrees, QueueRises}

abbrev All : (ℕ → Hand → Type 0) → List Hand → Type 0
All F views = (port : ℕ) (v : Hand) → get_elem? views port ≡ some v → F port v

-- one ticket is changed, and those of all others stay
all_set : (F : ℕ → Hand → Type 0) (views : List Hand) (port : ℕ) (w : Hand) → F port w
    → ((j : ℕ) (u : Hand) → j ≢ port → get_elem? views j ≡ some u → F j u)
    → All F (set views port w)
all_set F views port w mine others j u e =
    ⊎_elim (λ (x : (j ≡ port) × (w ≡ u)). subst (λ (y : ℕ × Hand). F y.0 y.1)
    (λ i. (sym x.0 i, x.1 i)) mine)
    (λ (x : (j ≢ port) × (get_elem? views j ≡ some u)). others j u x.0 x.1)
    (at_set views port j w u e)

rising_snoc : (items : List Accepted) (low next : ℕ) (x : Accepted) → x.number ≡ next
    → IsRising low items next → IsRising low (items ++ x ∷ []) (next + 1)
rising_snoc [] low next x is h = (omega arith, omega arith)
rising_snoc (y ∷ ys) low next x is h = (h.0, rising_snoc ys (y.number + 1) next x is h.1)

alone : (j : ℕ) (u : Hand) → get_elem? (hand true 0 ∷ []) j ≡ some u → TicketAgrees 0 0 0 j u
alone zero u e =
    ⊎_elim (λ (x : get_elem? [] zero ≡ some u). absurd (some-ne-none u (sym x)))
    (λ (is : hand true 0 ≡ u). subst (TicketAgrees 0 0 0 zero) is
    ((λ _. (refl, refl)), λ _. omega arith)) (at_snoc [] (hand true 0) u zero e)
alone (suc j) u e = absurd (some-ne-none u (sym e))

pub begins : QueueRises [] (hand true 0 ∷ [])
begins = (0, 0, 0, omega arith, alone)

pub sends : (n port : ℕ) (v : Hand) (x : Accepted) → v.sends ≡ true → x.number ≡ v.number
    → Pushes QueueRises n port v x (λ w. w ≡ hand v.sends (v.number + 1))
sends n port v x may is items views _ h at =
    let w : Hand = hand v.sends (v.number + 1) in
    let mine = (h.4 port v at).0 may in
    let sent : TicketAgrees h.0 h.1 (h.2 + 1) port w =
    ((λ _. (mine.0, ap (λ k. k + 1) mine.1)), λ no. absurd (true≢false (sym may ∙ no))) in
    let rising = rising_snoc items h.1 h.2 x (is ∙ mine.1) h.3 in
    let all = all_set (TicketAgrees h.0 h.1 (h.2 + 1)) views port w sent
    (λ j u other e. ((λ p. absurd (other (((h.4 j u e).0 p).0 ∙ sym mine.0))), (h.4 j u e).1)) in
    (w, (h.0, h.1, h.2 + 1, rising, all), refl)

pub gets : (port : ℕ) (v : Hand) → v.sends ≡ false
    → Pops QueueRises port v (λ x w. (v.number ≤ x.number) × (w ≡ hand false (x.number + 1)))
gets port v may x items views h at =
    let w : Hand = hand false (x.number + 1) in
    let mine = (h.4 port v at).1 may in
    let front = h.3.0 in
    let taken : TicketAgrees h.0 (x.number + 1) h.2 port w =
    ((λ p. absurd (true≢false (sym p))), λ _. omega arith) in
    let all = all_set (TicketAgrees h.0 (x.number + 1) h.2) views port w taken
    (λ j u other e. ((h.4 j u e).0, λ q. let low = (h.4 j u e).1 q in omega arith)) in
    (w, (h.0, x.number + 1, h.2, h.3.1, all), (omega arith, refl))

pub forks : (port : ℕ) (v : Hand) → v.sends ≡ true → Forks QueueRises port v v (hand false 0)
forks port v may items views h at =
    let F : ℕ → Hand → Type 0 = TicketAgrees h.0 h.1 h.2 in
    let old : All F (set views port v) =
    all_set F views port v (h.4 port v at) (λ j u other e. h.4 j u e) in
    let new : (j : ℕ) → F j (hand false 0) =
    λ j. ((λ p. absurd (true≢false (sym p))), λ _. omega arith) in (
      h.0,
      h.1,
      h.2,
      h.3,
      λ j u e.
          ⊎_elim (λ (x : get_elem? (set views port v) j ≡ some u). old j u x)
          (λ (is : hand false 0 ≡ u). subst (F j) is (new j))
          (at_snoc (set views port v) (hand false 0) u j e),
    )
