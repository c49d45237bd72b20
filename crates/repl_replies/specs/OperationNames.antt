-- The operations that are served, and their names (the nREPL manual, "Supported nREPL operations").
use Rattle.std.specs.Prelude.{ℕ, List, [], ◌∷◌, Option, find, bytes_eq, codes}
use Rattle.repl_replies.specs.declared.names.OperationName.{OperationName}

abbrev pub operation_name : OperationName → List ℕ
operation_name OperationName.Clone = codes "clone"
operation_name OperationName.Close = codes "close"
operation_name OperationName.Describe = codes "describe"
operation_name OperationName.Eval = codes "eval"
operation_name OperationName.LoadFile = codes "load-file"
operation_name OperationName.ListSessions = codes "ls-sessions"

-- all of them, in the order of their names as bytes
abbrev pub operations : List OperationName
operations =
    OperationName.Clone ∷ OperationName.Close ∷ OperationName.Describe
    ∷ OperationName.Eval ∷ OperationName.LoadFile ∷ OperationName.ListSessions ∷ []

-- the operation of this name, if it is served
abbrev pub operation_named : List ℕ → Option OperationName
operation_named name = find (λ operation. bytes_eq (operation_name operation) name) operations
