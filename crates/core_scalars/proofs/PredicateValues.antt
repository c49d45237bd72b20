-- Values, seen as data, alone and beside their neighbours.
use Rattle.std.proofs.Common.{◌≡◌, List, [], ◌∷◌, drop, map, refl}
use Rattle.std.specs.List.{list_all, zip, drop-map}
use Rattle.value_data.specs.Inside.View.{view}
use Rattle.value_data.specs.Same.{same}
use Rattle.value_data.specs.declared.value.Value.{Value}
use Rattle.value_data.proofs.Views.{value_views}
use Rattle.repl_values.specs.Arguments.{neighbours}
use Rattle.core_scalars.specs.PredicateMeaning.{each_equals_the_next}

list_all-zip : (xs ys : List Value) → list_all (λ p. same p.0 p.1) (zip (map view xs) (map view ys)) ≡ list_all (λ p. same (view p.0) (view p.1)) (zip xs ys)
list_all-zip [] ys = refl
list_all-zip (x ∷ xs) [] = refl
list_all-zip (x ∷ xs) (y ∷ ys) = rw (list_all-zip xs ys) refl

-- values are compared as they are seen
pub each_equals_the_next-view : (xs : List Value) → each_equals_the_next (map view xs) ≡ list_all (λ p. same (view p.0) (view p.1)) (neighbours xs)
unfolding each_equals_the_next
each_equals_the_next-view xs = rw (drop-map view 1 xs) (list_all-zip xs (drop 1 xs))

pub ruleset seen = (value_views, each_equals_the_next-view)
