-- The functions that ask the store, each with its name and the numbers of arguments that it takes
-- (the Clojure reference, Refs and Transactions, Atoms, and Agents).
use Rattle.std.specs.Prelude.{ℕ, List, [], ◌∷◌, Bool, Option, codes}
use Rattle.repl_values.specs.FunctionRows.{FunctionRowData, takes, first_named}
use Rattle.repl_values.specs.declared.function_row.Arity.{Arity}
use Rattle.core_functions.specs.declared.store.StoreFunction.{StoreFunction}

-- `ref` takes a value, and behind it one or both bounds of the history, each behind its keyword
abbrev pub store_row : StoreFunction → FunctionRowData
store_row StoreFunction.Ref = record { name = codes "ref"; arity = Arity.OddUpTo 5 }
store_row StoreFunction.Deref = record { name = codes "deref"; arity = Arity.Exactly 1 }
store_row StoreFunction.RefSet = record { name = codes "ref-set"; arity = Arity.Exactly 2 }
store_row StoreFunction.Alter = record { name = codes "alter"; arity = Arity.AtLeast 2 }
store_row StoreFunction.Commute = record { name = codes "commute"; arity = Arity.AtLeast 2 }
store_row StoreFunction.Ensure = record { name = codes "ensure"; arity = Arity.Exactly 1 }
store_row StoreFunction.HistoryCount =
    record { name = codes "ref-history-count"; arity = Arity.Exactly 1 }
store_row StoreFunction.MinHistory =
    record { name = codes "ref-min-history"; arity = Arity.FromTo 1 2 }
store_row StoreFunction.MaxHistory =
    record { name = codes "ref-max-history"; arity = Arity.FromTo 1 2 }
store_row StoreFunction.Atom = record { name = codes "atom"; arity = Arity.Exactly 1 }
store_row StoreFunction.Swap = record { name = codes "swap!"; arity = Arity.AtLeast 2 }
store_row StoreFunction.Reset = record { name = codes "reset!"; arity = Arity.Exactly 2 }
store_row StoreFunction.CompareAndSet =
    record { name = codes "compare-and-set!"; arity = Arity.Exactly 3 }
store_row StoreFunction.Agent = record { name = codes "agent"; arity = Arity.Exactly 1 }
store_row StoreFunction.AgentError = record { name = codes "agent-error"; arity = Arity.Exactly 1 }
store_row StoreFunction.RestartAgent =
    record { name = codes "restart-agent"; arity = Arity.Exactly 2 }
store_row StoreFunction.Send = record { name = codes "send"; arity = Arity.AtLeast 2 }
store_row StoreFunction.SendOff = record { name = codes "send-off"; arity = Arity.AtLeast 2 }
store_row StoreFunction.Await = record { name = codes "await"; arity = Arity.AtLeast 1 }

abbrev pub store_functions : List StoreFunction
store_functions =
    StoreFunction.Ref ∷ StoreFunction.Deref ∷ StoreFunction.RefSet ∷ StoreFunction.Alter
    ∷ StoreFunction.Commute ∷ StoreFunction.Ensure ∷ StoreFunction.HistoryCount
    ∷ StoreFunction.MinHistory ∷ StoreFunction.MaxHistory ∷ StoreFunction.Atom ∷ StoreFunction.Swap
    ∷ StoreFunction.Reset ∷ StoreFunction.CompareAndSet ∷ StoreFunction.Agent
    ∷ StoreFunction.AgentError ∷ StoreFunction.RestartAgent ∷ StoreFunction.Send
    ∷ StoreFunction.SendOff ∷ StoreFunction.Await ∷ []

abbrev pub store_function_named : List ℕ → Option StoreFunction
store_function_named name = first_named store_row store_functions name

abbrev pub store_name_of : StoreFunction → List ℕ
store_name_of f = (store_row f).name

abbrev pub store_fits : StoreFunction → ℕ → Bool
store_fits f n = takes (store_row f).arity n
