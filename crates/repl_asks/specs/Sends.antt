-- What is sent to agents (the Clojure reference, Agents and Asynchronous Actions).
use Rattle.std.specs.Prelude.{ℕ, List}
use Rattle.value_data.specs.Datum.{Datum}
use Rattle.special_forms.specs.Functions.{FunctionData}
use Rattle.core_functions.specs.declared.function.CoreFunction.{CoreFunction}
use Rattle.core_functions.specs.declared.store.StoreFunction.{StoreFunction}

-- a function that has a name: one of the language, which needs no store or asks it, or one of the
-- program
pub data NamedFunctionData : Type 0 where
  core_function : CoreFunction → NamedFunctionData
  store_function : StoreFunction → NamedFunctionData
  program_function : FunctionData → NamedFunctionData

-- a function that is applied to the state of an agent and these arguments, as its symbol was
-- resolved when it was sent
pub record TaskData : Type 0 where
  pub function : NamedFunctionData
  pub arguments : List Datum

-- the number of an agent, and what is sent to it
pub record SendingData : Type 0 where
  pub agent : ℕ
  pub task : TaskData
