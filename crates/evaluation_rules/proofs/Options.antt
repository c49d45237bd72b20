-- Options with their counts, two values at a time.
use Rattle.std.proofs.Common.{◌≡◌, ◌<◌, ◌≤◌, List, [], ◌∷◌, get_or, take, drop, length, ◌-◌, Result}
use Rattle.std.proofs.Common.{Ok, refl, ap, sym, ◌∙◌, arith}
use Rattle.std.proofs.lemmas.List.{take_all}
use Rattle.value_data.specs.Inside.View.{view, views}
use Rattle.value_data.specs.declared.value.Value.{Value}
use Rattle.repl_values.specs.Failure.{Failure, ◌>>=◌}
use Rattle.evaluation_rules.specs.Arguments.{BoundsData, with_option, bounds_in}

pub bounds-step : (bounds : BoundsData) (xs : List Value) (x y : Value)
    → 2 ≤ length xs → x ≡ get_or xs 0 x → y ≡ get_or xs 1 y
    → bounds_in bounds (views xs)
    ≡ (with_option bounds (view x) (view y) >>= λ next. bounds_in next (views (drop 2 xs)))
bounds-step bounds [] x y two first second = absurd (omega (arith, two))
bounds-step bounds (u ∷ []) x y two first second = absurd (omega (arith, two))
bounds-step bounds (u ∷ v ∷ xs) x y two first second =
    let one : x ≡ u = first in let other : y ≡ v = second in rw (one, other)

pub bounds-short : (bounds : BoundsData) (xs : List Value) → length xs < 2 → bounds_in bounds (views xs) ≡ Ok bounds
bounds-short bounds [] short = refl
bounds-short bounds (u ∷ []) short = refl
bounds-short bounds (u ∷ v ∷ xs) short = absurd (omega (arith, short))

pub ruleset options = (bounds-step, bounds-short)

-- what comes behind an option and its number is left
pub left-behind : (bounds next : BoundsData) (xs : List Value) (x y : Value) (all : Result BoundsData Failure)
    → 2 ≤ length xs → x ≡ get_or xs 0 x → y ≡ get_or xs 1 y → with_option bounds (view x) (view y) ≡ Ok next
    → bounds_in bounds (views xs) ≡ all → bounds_in next (views (take (length xs - 2) (drop 2 xs))) ≡ all
left-behind bounds next [] x y all two first second is kept = absurd (omega (arith, two))
left-behind bounds next (u ∷ []) x y all two first second is kept = absurd (omega (arith, two))
left-behind bounds next (u ∷ v ∷ xs) x y all two first second is kept =
    let rest : take (length xs) xs ≡ xs = take_all (length xs) xs (omega arith) in
    let count : length (u ∷ v ∷ xs) - 2 ≡ length xs = omega arith in
    rw (count, rest) (sym (ap (λ r. r >>= λ next. bounds_in next (views xs)) is)
    ∙ sym (bounds-step bounds (u ∷ v ∷ xs) x y two first second) ∙ kept)
