-- The replies (the nREPL manual, "Supported nREPL operations" and "Transports"): what each says,
-- and its bytes.
use Rattle.std.specs.Prelude.{ℕ, List, [], ◌∷◌, ◌++◌, Option, Some, None, codes}
use Rattle.bencode_wire.specs.Tree.{Tree, string, list, dictionary, TreePairs, no_pairs, pair}
use Rattle.bencode_wire.specs.Tree.{Trees}
use Rattle.bencode_wire.specs.Tree.{no_trees, tree}
use Rattle.bencode_wire.specs.Spelling.{canonical}
use Rattle.repl_replies.specs.Description.{description}

-- what of a request its replies carry, as it came
pub record OriginData : Type 0 where
  pub id : Option Tree
  pub session : Option Tree

abbrev pub no_origin : OriginData
no_origin = record { id = None; session = None }

pub data BodyData : Type 0 where
  -- a form's value as it is printed, and the namespace after the form
  value : List ℕ → List ℕ → BodyData
  output : List ℕ → BodyData
  -- the class of the fault that ended a form
  exception : List ℕ → BodyData
  error_text : List ℕ → BodyData
  done : BodyData
  -- the operation as it came
  unknown_op : Option Tree → BodyData
  unknown_session : BodyData
  no_code : BodyData
  no_file : BodyData
  namespace_not_found : BodyData
  malformed : BodyData
  -- the id of a session that was made
  new_session : List ℕ → BodyData
  -- the ids of the open sessions, in order
  sessions : List (List ℕ) → BodyData
  -- what the server serves
  described : BodyData
  -- the session was closed
  closed : BodyData
  -- the request waited, and its session was closed
  interrupted : BodyData

pub record ReplyData : Type 0 where
  pub origin : OriginData
  pub body : BodyData

-- the words of a reply's status, in the order in which they are sent
abbrev pub status : BodyData → List (List ℕ)
status (value text ns) = []
status (output text) = []
status (exception class) = codes "eval-error" ∷ []
status (error_text line) = []
status done = codes "done" ∷ []
status (unknown_op op) = codes "error" ∷ codes "unknown-op" ∷ codes "done" ∷ []
status unknown_session = codes "error" ∷ codes "unknown-session" ∷ codes "done" ∷ []
status no_code = codes "error" ∷ codes "no-code" ∷ codes "done" ∷ []
status no_file = codes "error" ∷ codes "no-file" ∷ codes "done" ∷ []
status namespace_not_found = codes "error" ∷ codes "namespace-not-found" ∷ codes "done" ∷ []
status malformed = codes "error" ∷ codes "malformed" ∷ codes "done" ∷ []
status (new_session id) = codes "done" ∷ []
status (sessions ids) = codes "done" ∷ []
status described = codes "done" ∷ []
status closed = codes "done" ∷ codes "session-closed" ∷ []
status interrupted = codes "done" ∷ codes "interrupted" ∷ []

-- a field before others, if it has a value
abbrev pub with_field : List ℕ → Option Tree → TreePairs → TreePairs
with_field key None more = more
with_field key (Some t) more = pair key t more

abbrev pub strings : List (List ℕ) → Trees
strings [] = no_trees
strings (word ∷ words) = tree (string word) (strings words)

-- a reply without a status has no field for it
abbrev pub status_value : List (List ℕ) → Option Tree
status_value [] = None
status_value (word ∷ words) = Some (list (strings (word ∷ words)))

abbrev pub class_text : List ℕ → Tree
class_text class = string (codes "class " ++ class)

-- the fields that say what the reply says
abbrev pub body_fields : BodyData → TreePairs
body_fields (value text ns) =
    pair (codes "value") (string text) (pair (codes "ns") (string ns) no_pairs)
body_fields (output text) = pair (codes "out") (string text) no_pairs
body_fields (exception class) =
    pair (codes "ex") (class_text class) (pair (codes "root-ex") (class_text class) no_pairs)
body_fields (error_text line) = pair (codes "err") (string line) no_pairs
body_fields done = no_pairs
body_fields (unknown_op op) = with_field (codes "op") op no_pairs
body_fields unknown_session = no_pairs
body_fields no_code = no_pairs
body_fields no_file = no_pairs
body_fields namespace_not_found = no_pairs
body_fields malformed = no_pairs
body_fields (new_session id) = pair (codes "new-session") (string id) no_pairs
body_fields (sessions ids) = pair (codes "sessions") (list (strings ids)) no_pairs
body_fields described = description
body_fields closed = no_pairs
body_fields interrupted = no_pairs

-- the reply as a message
unfoldable pub message : ReplyData → Tree
message reply =
    dictionary (with_field (codes "id") reply.origin.id
    (with_field (codes "session") reply.origin.session
    (with_field (codes "status") (status_value (status reply.body)) (body_fields reply.body))))

-- its bytes are the canonical spelling, whose keys are sorted
unfoldable pub bytes_of : ReplyData → List ℕ
bytes_of reply = canonical (message reply)
