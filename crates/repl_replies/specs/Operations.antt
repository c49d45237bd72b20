-- What a message asks for, or the reply to it, where sessions may be open (the nREPL manual,
-- "Supported nREPL operations"). Keys that no definition here names are ignored.
use Rattle.std.specs.Prelude.{ℕ, List, Option, Some, None, Result, Ok, Err, option_and_then, codes}
use Rattle.bencode_wire.specs.Tree.{Tree, TreePairs, field}
use Rattle.repl_replies.specs.Fields.{as_string, text_of}
use Rattle.repl_replies.specs.OperationNames.{operation_named}
use Rattle.repl_replies.specs.Replies.{OriginData, BodyData, ReplyData, unknown_op, unknown_session}
use Rattle.repl_replies.specs.Replies.{no_code, no_file}
use Rattle.repl_replies.specs.declared.names.OperationName.{OperationName}

-- an operation, with the number of the open session that it names
pub data OperationData : Type 0 where
  clone : Option ℕ → OperationData
  close : ℕ → OperationData
  describe : Option ℕ → OperationData
  list_sessions : Option ℕ → OperationData
  -- the code, and the namespace that is named, as it came
  eval : Option ℕ → List ℕ → Option Tree → OperationData
  -- the text of the file
  load_file : Option ℕ → List ℕ → OperationData

pub record AskedData : Type 0 where
  pub origin : OriginData
  pub operation : OperationData

-- which session each id names, if it is open
abbrev pub Numbers : Type 0
Numbers = List ℕ → Option ℕ

-- a session that is named has to be open
abbrev pub open_session : Option ℕ → Result (Option ℕ) BodyData
open_session None = Err unknown_session
open_session (Some number) = Ok (Some number)

abbrev pub session_in : Numbers → Option Tree → Result (Option ℕ) BodyData
session_in number_of None = Ok None
session_in number_of (Some id) = open_session (option_and_then number_of (as_string id))

-- a session that is to be closed has to be named
abbrev pub close_operation : Option ℕ → Result OperationData BodyData
close_operation None = Err unknown_session
close_operation (Some number) = Ok (close number)

abbrev pub eval_operation : Option ℕ → Option Tree → Option (List ℕ) → Result OperationData BodyData
eval_operation session ns None = Err no_code
eval_operation session ns (Some code) = Ok (eval session code ns)

abbrev pub load_operation : Option ℕ → Option (List ℕ) → Result OperationData BodyData
load_operation session None = Err no_file
load_operation session (Some text) = Ok (load_file session text)

-- what each operation needs
abbrev pub operation_in : TreePairs → OperationName → Option ℕ → Result OperationData BodyData
operation_in fields OperationName.Clone session = Ok (clone session)
operation_in fields OperationName.Close session = close_operation session
operation_in fields OperationName.Describe session = Ok (describe session)
operation_in fields OperationName.Eval session =
    eval_operation session (field (codes "ns") fields) (text_of (field (codes "code") fields))
operation_in fields OperationName.LoadFile session =
    load_operation session (text_of (field (codes "file") fields))
operation_in fields OperationName.ListSessions session = Ok (list_sessions session)

-- the session is looked at before what the operation needs
abbrev pub in_session
    : TreePairs → OperationName → Result (Option ℕ) BodyData → Result OperationData BodyData
in_session fields operation (Err refusal) = Err refusal
in_session fields operation (Ok session) = operation_in fields operation session

-- the operation is looked at before the session
abbrev pub served_operation
    : TreePairs → Option Tree → Option OperationName → Result (Option ℕ) BodyData
    → Result OperationData BodyData
served_operation fields op None session = Err (unknown_op op)
served_operation fields op (Some operation) session = in_session fields operation session

-- who asked is who is answered
abbrev pub of_origin : OriginData → Result OperationData BodyData → Result AskedData ReplyData
of_origin origin (Ok operation) = Ok (record { origin = origin; operation = operation })
of_origin origin (Err refusal) = Err (record { origin = origin; body = refusal })

-- the operation that `op` names, if it is served
abbrev pub operation_of_op : Option Tree → Option OperationName
operation_of_op op = option_and_then operation_named (option_and_then as_string op)

-- what a message asks for, or the reply to it: the operation is looked at first, then the session,
-- then what the operation needs
unfoldable pub operation_or_reply : Numbers → TreePairs → Result AskedData ReplyData
operation_or_reply number_of fields =
    let op = field (codes "op") fields in
    let session = field (codes "session") fields in
    let origin : OriginData = record { id = field (codes "id") fields; session = session } in
    of_origin origin (served_operation fields op (operation_of_op op)
    (session_in number_of session))
