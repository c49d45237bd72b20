-- The rule of the queue of connections.
use Rattle.std.specs.Prelude.{◌≡◌, ℕ, ◌+◌, ◌≤◌, Bool, true, false, List, [], ◌∷◌}
use mathlib.Core.Option.{some}
use lib.ListN.{get_elem?}
use Rattle.connection_waits.specs.declared.feeding.Accepted.{Accepted}
use Rattle.connection_waits.specs.declared.feeding.Hand.{Hand}

abbrev pub hand : Bool → ℕ → Hand
hand sends number = record { sends = sends; number = number }

-- the numbers rise, from low on, and stay below next
abbrev pub IsRising : ℕ → List Accepted → ℕ → Type 0
IsRising low [] next = low ≤ next
IsRising low (x ∷ xs) next = (low ≤ x.number) × IsRising (x.number + 1) xs next

-- the ticket at a port: the one that sends knows the next number, what others took is below low
abbrev pub TicketAgrees : ℕ → ℕ → ℕ → ℕ → Hand → Type 0
TicketAgrees writer low next port v =
    (v.sends ≡ true → (port ≡ writer) × (v.number ≡ next)) × (v.sends ≡ false → v.number ≤ low)

-- the connections that wait rise in their numbers, from above all that were taken to below the next
abbrev pub QueueRises : List Accepted → List Hand → Type 0
QueueRises items views = (writer : ℕ) × (low : ℕ) × (next : ℕ) × IsRising low items next
    × ((port : ℕ) (v : Hand) → get_elem? views port ≡ some v → TicketAgrees writer low next port v)
