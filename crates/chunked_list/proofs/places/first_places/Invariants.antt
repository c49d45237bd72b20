use Rattle.std.proofs.Common.{◌≡◌}
use Rattle.chunked_list.specs.Places.{first_places}
use Rattle.chunked_list.proofs.places.first_places.Given as goal

abbrev pub invariant-loop-place : goal.invariant-loop-place
invariant-loop-place l = record { numbers_listed : l.places.items ≡ first_places l.place }
