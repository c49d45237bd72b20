-- Limits that are kept twice.
use Rattle.std.proofs.Common.{◌≡◌, ℕ, Bool, true, false, List, [], Some, None, Result, Ok, Err}
use Rattle.std.proofs.Common.{refl, length, nat_lt, nat_le}
use Rattle.std.specs.Prelude.{◌&&◌, if◌then◌else◌}
use Rattle.value_data.specs.Datum.{Datum, nil}
use Rattle.value_data.specs.Measures.{weight, nesting}
use Rattle.value_data.proofs.Views.{value_views}
use Rattle.repl_values.specs.Failure.{Failure, too_large, output_too_long}
use Rattle.core_scalars.specs.Limits.{most_weight, most_text, if_short, within_weight}
use Rattle.core_functions.specs.ApplyOutcome.{gives, fails, most_nesting, limited_outcome}
use Rattle.core_functions.specs.ApplyOutcome.{apply_outcome, bounded_outcome, printed_nil}

-- what prints nothing is within bounds
pub bounded_outcome-apply_outcome : (r : Result Datum Failure) → bounded_outcome (apply_outcome r) ≡ apply_outcome r
unfolding apply_outcome limited_outcome
bounded_outcome-apply_outcome (Ok d) = by_test (nat_le (weight d) most_weight && nat_le (nesting d) most_nesting)
  where
    by_test : (t : Bool) → bounded_outcome (if t then gives d [] else fails too_large) ≡ (if t then gives d [] else fails too_large)
    by_test true = refl
    by_test false = refl
bounded_outcome-apply_outcome (Err f) = refl

-- a value that is too heavy was so before
pub apply_outcome-within : (r : Result Datum Failure) → apply_outcome (within_weight r) ≡ apply_outcome r
unfolding apply_outcome limited_outcome within_weight
apply_outcome-within (Ok d) = by_test (nat_le (weight d) most_weight) refl
  where
    by_test : (t : Bool) → nat_le (weight d) most_weight ≡ t
        → apply_outcome (if t then Ok d else Err too_large) ≡ (if t && nat_le (nesting d) most_nesting then gives d [] else fails too_large)
    by_test true e = rw e refl
    by_test false e = refl
apply_outcome-within (Err f) = refl

pub printed_nil-short : (s : List ℕ) → printed_nil (if_short s) ≡ bounded_outcome (gives nil s)
unfolding if_short
printed_nil-short s = by_test (nat_lt most_text (length s))
  where
    by_test : (t : Bool) → printed_nil (if t then None else Some s) ≡ (if t then fails output_too_long else gives nil s)
    by_test true = refl
    by_test false = refl

pub ruleset outcomes = (value_views, bounded_outcome-apply_outcome, apply_outcome-within, printed_nil-short)
