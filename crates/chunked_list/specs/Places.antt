-- Places in the order of their ranks, and the tickets that are kept in their stead.
use Rattle.std.specs.Prelude.{◌≡◌, ℕ, zero, suc, ◌+◌, ◌-◌, ◌<◌, min, List, [], ◌∷◌, ◌++◌, length}
use Rattle.std.specs.Prelude.{map, slice_index_or}
use Rattle.std.specs.List.{remove}

-- a place where another one is taken out: one less, if it is behind that
abbrev pub lowered : ℕ → ℕ → ℕ
lowered gone n = n - min 1 (n - gone)

-- the places without that of a rank
abbrev pub without_place : ℕ → List ℕ → List ℕ
without_place rank places = map (lowered (slice_index_or places rank 0)) (remove places rank)

-- 0, 1, .. up to so many
abbrev pub first_places : ℕ → List ℕ
first_places zero = []
first_places (suc n) = first_places n ++ n ∷ []

-- how many of the numbers are less than m
abbrev pub below : ℕ → List ℕ → ℕ
below m [] = 0
below m (n ∷ ns) = min 1 (m - n) + below m ns

-- a ticket's place is the number of those that are less
abbrev pub places_of : List ℕ → List ℕ → List ℕ
places_of tickets ranked = map (λ t. below t tickets) ranked

abbrev pub Rises : List ℕ → Type 0
Rises ns = (i j : ℕ) → i < j → j < length ns → slice_index_or ns i 0 < slice_index_or ns j 0

-- The tickets of the items in their order, and the same ones by rank. The next is greater than all.
pub record KeepsTickets (tickets ranked : List ℕ) (next : ℕ) : Type 0 where
  pub rising : Rises tickets
  pub bounded : (i : ℕ) → i < length tickets → slice_index_or tickets i 0 < next
  pub counted : length ranked ≡ length tickets
  pub same : (t : ℕ) → below t ranked ≡ below t tickets
