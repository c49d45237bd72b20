-- Calls, as the code takes them apart.
use Rattle.std.specs.Prelude.{ℕ, not, Option, Some, None, Result, Ok}
use Rattle.value_data.specs.Datum.{Datum}
use Rattle.repl_values.specs.Failure.{Failure, ◌>>=◌}
use Rattle.repl_values.specs.declared.rule.Rule.{Rule}
use Rattle.repl_asks.specs.Transactions.{RefNameData}
use Rattle.evaluation_rules.specs.Arguments.{is_shared, kept_to, ask_for}
use Rattle.evaluation_rules.specs.Calling.{CallData, asks_value, tell_bound_call, set_bound_call}
use Rattle.evaluation_rules.specs.declared.bounds.HistoryBound.{HistoryBound}

-- a bound is told, or set where a number is given
abbrev pub bound_call : HistoryBound → Datum → Option Datum → Result CallData Failure
bound_call bound d None = tell_bound_call bound d
bound_call bound d (Some e) = set_bound_call bound d e

-- the bound of a ref is set, unless all tenants share the ref
abbrev pub bound_set : HistoryBound → RefNameData → ℕ → Result CallData Failure
bound_set bound name n = kept_to Rule.SharedBoundsStay (not (is_shared name.owner))
    >>= λ _. Ok (asks_value (ask_for bound name (Some n)))
