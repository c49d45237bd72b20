-- How many pairs there are.
use Rattle.std.proofs.Common.{◌≡◌, List, [], ◌∷◌, length, refl, arith}
use Rattle.value_data.specs.Datum.{Datum}
use Rattle.value_data.specs.Listed.{pairs_of}
use Rattle.value_data.specs.Same.{size}

pub size-pairs_of : (qs : List (Datum × Datum)) → size (pairs_of qs) ≡ length qs
size-pairs_of [] = refl
size-pairs_of (q ∷ qs) = omega (arith, size-pairs_of qs)

pub ruleset size_steps = (size-pairs_of)
