-- What the arguments of the functions that ask the store stand for.
use Rattle.std.specs.Prelude.{ℕ, ℤ, pos, negsuc, List, [], ◌∷◌, Bool, true, false, Option, Some}
use Rattle.std.specs.Prelude.{None, ok_or, Result, Ok, Err, if◌then◌else◌, codes}
use Rattle.std.specs.Str.{bytes_eq}
use Rattle.value_data.specs.Datum.{Datum, OwnerData, shared, tenant, integer, keyword, ref, atom}
use Rattle.value_data.specs.Datum.{agent}
use Rattle.repl_values.specs.Failure.{Failure, ◌>>=◌, wrong_argument, broken_rule}
use Rattle.repl_values.specs.declared.rule.Rule.{Rule}
use Rattle.core_functions.specs.StoreNames.{store_name_of}
use Rattle.core_functions.specs.declared.store.StoreFunction.{StoreFunction}
use Rattle.repl_asks.specs.Transactions.{RefNameData}
use Rattle.repl_asks.specs.Exchange.{AskData, min_history, max_history}
use Rattle.evaluation_rules.specs.declared.bounds.HistoryBound.{HistoryBound}

-- Arguments

abbrev pub as_ref : Datum → Option RefNameData
as_ref (ref owner n) = Some (record { owner = owner; number = n })
as_ref d = None

-- the number of an atom
abbrev pub as_atom : Datum → Option ℕ
as_atom (atom n) = Some n
as_atom d = None

-- the number of an agent
abbrev pub as_agent : Datum → Option ℕ
as_agent (agent n) = Some n
as_agent d = None

abbrev pub from_zero : ℤ → Option ℕ
from_zero (pos n) = Some n
from_zero (negsuc n) = None

-- a whole number from 0
abbrev pub as_count : Datum → Option ℕ
as_count (integer n) = from_zero n
as_count d = None

abbrev pub ref_in : StoreFunction → Datum → Result RefNameData Failure
ref_in f d = ok_or (as_ref d) (wrong_argument (store_name_of f) d)

abbrev pub atom_in : StoreFunction → Datum → Result ℕ Failure
atom_in f d = ok_or (as_atom d) (wrong_argument (store_name_of f) d)

abbrev pub agent_in : StoreFunction → Datum → Result ℕ Failure
agent_in f d = ok_or (as_agent d) (wrong_argument (store_name_of f) d)

abbrev pub count_in : StoreFunction → Datum → Result ℕ Failure
count_in f d = ok_or (as_count d) (wrong_argument (store_name_of f) d)

-- Rules

abbrev pub is_shared : OwnerData → Bool
is_shared shared = true
is_shared (tenant t) = false

abbrev pub kept_to : Rule → Bool → Result Bool Failure
kept_to rule holds = if holds then Ok true else Err (broken_rule rule)

-- The bounds of a ref's history: the least count, and the greatest

pub record BoundsData : Type 0 where
  pub least : ℕ
  pub most : ℕ

-- a ref that is made without options
abbrev pub usual_bounds : BoundsData
usual_bounds = record { least = 0; most = 10 }

abbrev pub with_bound : HistoryBound → ℕ → BoundsData → BoundsData
with_bound HistoryBound.Least n bounds = record { least = n; most = bounds.most }
with_bound HistoryBound.Greatest n bounds = record { least = bounds.least; most = n }

-- the bound that an option of `ref` sets
unfoldable pub option_named : List ℕ → Option HistoryBound
option_named s =
    if bytes_eq s (codes "min-history") then Some HistoryBound.Least else (
    if bytes_eq s (codes "max-history") then Some HistoryBound.Greatest else None)

abbrev pub as_option : Datum → Option HistoryBound
as_option (keyword s) = option_named s
as_option d = None

abbrev pub option_in : Datum → Result HistoryBound Failure
option_in d = ok_or (as_option d) (wrong_argument (store_name_of StoreFunction.Ref) d)

-- an option, and the number behind it
abbrev pub with_option : BoundsData → Datum → Datum → Result BoundsData Failure
with_option bounds d e =
    option_in d >>= λ bound. (count_in StoreFunction.Ref e >>= λ n. Ok (with_bound bound n bounds))

-- options and their numbers by turns, from the left; of one that stands twice the later counts
abbrev pub bounds_in : BoundsData → List Datum → Result BoundsData Failure
bounds_in bounds [] = Ok bounds
bounds_in bounds (d ∷ []) = Ok bounds
bounds_in bounds (d ∷ e ∷ ds) = with_option bounds d e >>= λ next. bounds_in next ds

-- the function that tells a bound of a ref, or sets it, and what it asks
abbrev pub function_of : HistoryBound → StoreFunction
function_of HistoryBound.Least = StoreFunction.MinHistory
function_of HistoryBound.Greatest = StoreFunction.MaxHistory

abbrev pub ask_for : HistoryBound → RefNameData → Option ℕ → AskData
ask_for HistoryBound.Least name set = min_history name set
ask_for HistoryBound.Greatest name set = max_history name set
