-- Values as their data.
use Rattle.std.proofs.Common.{◌≡◌, ℤ, ◌<◌, ◌≤◌, List, [], ◌∷◌, ◌++◌, get_or, drop, length, map, option_map, slice_get, Result, Ok, Err, refl, ap, arith}
use Rattle.value_data.specs.Datum.{Datum, Pairs, no_pairs, pair}
use Rattle.value_data.specs.Listed.{listed, pairs_listed}
use Rattle.value_data.specs.Keyed.{keys_of}
use Rattle.value_data.specs.Inside.Placed.{values_of}
use Rattle.value_data.specs.Inside.View.{view}
use Rattle.value_data.specs.declared.value.Value.{Value}
use Rattle.value_data.proofs.Views.{value_views}
use Rattle.repl_values.specs.Failure.{Failure}
use Rattle.repl_values.proofs.Lists.{lists}
use Rattle.core_collections.specs.MapArguments.{by_turns, left_alone}
use Rattle.core_collections.proofs.SequenceValues.{list_or_nil-empty, list_or_nil-full}

-- two arguments more
pub by_turns-step : (xs : List Value) (x y : Value) → 2 ≤ length xs → x ≡ get_or xs 0 x → y ≡ get_or xs 1 y
    → by_turns (map view xs) ≡ (view x, view y) ∷ by_turns (map view (drop 2 xs))
by_turns-step [] x y two first second = absurd (omega (arith, two))
by_turns-step (u ∷ []) x y two first second = absurd (omega (arith, two))
by_turns-step (u ∷ v ∷ xs) x y two first second =
    let one : x ≡ u = first in let other : y ≡ v = second in cc

pub left_alone-step : (xs : List Value) → 2 ≤ length xs → left_alone (map view xs) ≡ left_alone (map view (drop 2 xs))
left_alone-step [] two = absurd (omega (arith, two))
left_alone-step (u ∷ []) two = absurd (omega (arith, two))
left_alone-step (u ∷ v ∷ xs) two = refl

pub by_turns-short : (xs : List Value) → length xs < 2 → by_turns (map view xs) ≡ []
by_turns-short [] short = refl
by_turns-short (u ∷ []) short = refl
by_turns-short (u ∷ v ∷ xs) short = absurd (omega (arith, short))

pub left_alone-short : (xs : List Value) → length xs < 2 → left_alone (map view xs) ≡ option_map view (slice_get xs 0)
left_alone-short [] short = refl
left_alone-short (u ∷ []) short = refl
left_alone-short (u ∷ v ∷ xs) short = absurd (omega (arith, short))

-- what was found before, and what is still found
abbrev pub with_front : List (ℤ × Datum) → Result (List (ℤ × Datum)) Failure → Result (List (ℤ × Datum)) Failure
with_front front (Ok ps) = Ok (front ++ ps)
with_front front (Err f) = Err f

-- a row of keys or of values, as it is taken out of the pairs
pub keys-listed : (ps : Pairs) → map (λ p. p.0) (pairs_listed ps) ≡ listed (keys_of ps)
keys-listed no_pairs = refl
keys-listed (pair k v ps) = ap (λ (ds : List Datum). k ∷ ds) (keys-listed ps)

pub values-listed : (ps : Pairs) → map (λ p. p.1) (pairs_listed ps) ≡ listed (values_of ps)
values-listed no_pairs = refl
values-listed (pair k v ps) = ap (λ (ds : List Datum). v ∷ ds) (values-listed ps)

pub ruleset seen = (
  value_views,
  lists,
  by_turns-step,
  left_alone-step,
  by_turns-short,
  left_alone-short,
  list_or_nil-empty,
  list_or_nil-full,
  keys-listed,
  values-listed,
)
