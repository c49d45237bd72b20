-- Texts that are too long, and what is put behind them.
use Rattle.std.proofs.Common.{◌≡◌, ℕ, ◌<◌, ◌≤◌, List, [], ◌∷◌, ◌++◌, length, map, Some, None, Ok}
use Rattle.std.proofs.Common.{Err, refl, sym, ap, ◌∙◌, arith}
use Rattle.std.proofs.lemmas.Bool.Decides.{nat_tests}
use Rattle.std.proofs.lemmas.Grind.{common_steps}
use Rattle.value_data.specs.Datum.{Datum, string}
use Rattle.value_data.specs.Inside.View.{view}
use Rattle.value_data.specs.declared.value.Value.{Value}
use Rattle.value_data.proofs.Views.{value_views}
use Rattle.repl_values.specs.Failure.{Failure, too_large}
use Rattle.core_scalars.specs.Limits.{most_text, most_weight, if_short, light, within_weight}
use Rattle.core_scalars.specs.Printing.{spaced_text}

-- what is longer than the limit is not short, and nor is more
pub if_short-long : (s more : List ℕ) → most_text < length s → if_short (s ++ more) ≡ None
unfolding if_short
if_short-long s more h = grind (arith, common_steps, nat_tests, h)

pub if_short-too_long : (s : List ℕ) → most_text < length s → if_short s ≡ None
unfolding if_short
if_short-too_long s h = grind (arith, common_steps, nat_tests, h)

-- a beginning that is too long makes the whole too long
pub long-beginning : (s more whole : List ℕ) → s ++ more ≡ whole → most_text < length s → if_short whole ≡ None
long-beginning s more whole e h = ap if_short (sym e) ∙ if_short-long s more h

pub if_short-short : (s : List ℕ) → length s ≤ most_text → if_short s ≡ Some s
unfolding if_short
if_short-short s h = grind (arith, common_steps, nat_tests, h)

-- a short text is kept as it is
pub if_short-kept : (s t : List ℕ) → Some t ≡ if_short s → t ≡ s
unfolding if_short
if_short-kept s t h = grind (arith, common_steps, nat_tests, h)

-- no values are spelled by no bytes
pub spaced_text-none : (spelling : Datum → List ℕ) (vs : List Value) → length vs ≡ 0 → if_short (spaced_text spelling (map view vs)) ≡ Some []
spaced_text-none spelling [] none = if_short-short [] (omega arith)
spaced_text-none spelling (v ∷ vs) none = absurd (omega (arith, none))

pub within_weight-light : (s : List ℕ) → length s < most_weight → within_weight (Ok (string s)) ≡ Ok (string s)
unfolding within_weight
within_weight-light s h = grind (arith, common_steps, nat_tests, h)

pub within_weight-heavy : (s : List ℕ) → most_weight ≤ length s → within_weight (Ok (string s)) ≡ Err too_large
unfolding within_weight
within_weight-heavy s h = grind (arith, common_steps, nat_tests, h)

pub within_weight-fails : (f : Failure) → within_weight (Err f) ≡ Err f
unfolding within_weight
within_weight-fails f = refl

-- a text that is not short is too heavy
pub light-if_short : (s : List ℕ) → light (if_short s) ≡ within_weight (Ok (string s))
unfolding if_short within_weight
light-if_short s = grind (arith, common_steps, nat_tests)

pub ruleset short_steps = (
  value_views,
  if_short-long,
  if_short-too_long,
  long-beginning,
  if_short-short,
  if_short-kept,
  spaced_text-none,
  within_weight-light,
  within_weight-heavy,
  within_weight-fails,
  light-if_short,
)
