-- What an operation needs is read of the fields that are still there.
use Rattle.std.proofs.Common.{◌≡◌, ℕ, Option, Some, None, Result, Ok, Err, codes, refl}
use Rattle.bencode_wire.specs.Tree.{Tree, TreePairs, field}
use Rattle.repl_replies.specs.Operations.{Numbers, operation_in, session_in, operation_of_op}
use Rattle.repl_replies.specs.Operations.{served_operation, of_origin, operation_or_reply}
use Rattle.repl_replies.specs.Replies.{BodyData}
use Rattle.repl_replies.specs.declared.names.OperationName.{OperationName}

pub record SameNeeds (ps qs : TreePairs) : Type 0 where
  pub code : field (codes "code") ps ≡ field (codes "code") qs
  pub ns : field (codes "ns") ps ≡ field (codes "ns") qs
  pub file : field (codes "file") ps ≡ field (codes "file") qs

operation_in-needs : (ps qs : TreePairs) (operation : OperationName) (session : Option ℕ) → SameNeeds ps qs → operation_in ps operation session ≡ operation_in qs operation session
operation_in-needs ps qs OperationName.Clone session same = refl
operation_in-needs ps qs OperationName.Close session same = refl
operation_in-needs ps qs OperationName.Describe session same = refl
operation_in-needs ps qs OperationName.Eval session same = rw (same.ns, same.code) refl
operation_in-needs ps qs OperationName.LoadFile session same = rw same.file refl
operation_in-needs ps qs OperationName.ListSessions session same = refl

served_operation-needs : (ps qs : TreePairs) (op : Option Tree) (operation : Option OperationName) (session : Result (Option ℕ) BodyData) → SameNeeds ps qs
    → served_operation ps op operation session ≡ served_operation qs op operation session
served_operation-needs ps qs op None session same = refl
served_operation-needs ps qs op (Some operation) (Ok number) same = operation_in-needs ps qs operation number same
served_operation-needs ps qs op (Some operation) (Err refusal) same = refl

-- the fields that are left, and those that were taken out, are the message's
pub record Taken (id session op : Option Tree) (left all : TreePairs) : Type 0 where
  pub id_is : id ≡ field (codes "id") all
  pub session_is : session ≡ field (codes "session") all
  pub op_is : op ≡ field (codes "op") all
  pub needs : SameNeeds left all

pub operation_or_reply-taken : (number_of : Numbers) (id session op : Option Tree) (left all : TreePairs) → Taken id session op left all
    → of_origin (record { id = id; session = session }) (served_operation left op (operation_of_op op) (session_in number_of session)) ≡ operation_or_reply number_of all
unfolding operation_or_reply
operation_or_reply-taken number_of id session op left all taken =
    rw (served_operation-needs left all op (operation_of_op op) (session_in number_of session) taken.needs, taken.id_is, taken.session_is, taken.op_is) refl
