-- What transactions ask for (the Clojure reference, Refs and Transactions).
use Rattle.std.specs.Prelude.{ℕ, List, Bool, true, ◌&&◌, ◌==◌}
use Rattle.value_data.specs.Datum.{Datum, OwnerData, shared, tenant}
use Rattle.value_data.specs.Measures.{is_plain}
use Rattle.value_data.specs.Same.{same_owner}
use Rattle.core_functions.specs.declared.function.CoreFunction.{CoreFunction}
use Rattle.repl_asks.specs.Sends.{SendingData}

-- a ref, by who made it and its number among those
pub record RefNameData : Type 0 where
  pub owner : OwnerData
  pub number : ℕ

abbrev pub same_name : RefNameData → RefNameData → Bool
same_name a b = same_owner a.owner b.owner && a.number == b.number

-- what goes into a shared ref is plain
abbrev pub may_hold : OwnerData → Datum → Bool
may_hold shared d = is_plain d
may_hold (tenant t) d = true

-- a ref, and the value that it gets
pub record ChangeData : Type 0 where
  pub name : RefNameData
  pub now : Datum

-- a function that is applied to the value of a ref, with these arguments behind that
pub record CommuteData : Type 0 where
  pub function : CoreFunction
  pub arguments : List Datum

-- a ref, and what is applied to its value, in order
pub record CommutedData : Type 0 where
  pub name : RefNameData
  pub commutes : List CommuteData

-- What an attempt changed, and what it sends.
pub record IntentData : Type 0 where
  -- the refs that were set, each with its last value
  pub sets : List ChangeData
  -- the refs that nobody else may have changed
  pub ensured : List RefNameData
  -- the refs that were commuted and not set, in the order in which they were first commuted
  pub commuted : List CommutedData
  -- what is sent to agents once all that stands, in order
  pub sends : List SendingData
