-- The data that the code's types stand for.
use Rattle.std.specs.Prelude.{Option, Some, None, map, string_bytes}
use Rattle.bencode_wire.specs.Tree.{Tree}
use Rattle.bencode_wire.specs.Inside.View.{tree_view}
use Rattle.bencode_wire.specs.declared.ben.Ben.{Ben}
use Rattle.repl_replies.specs.Replies.{OriginData, BodyData, ReplyData}
use Rattle.repl_replies.specs.Replies.{done, unknown_op, unknown_session, no_code}
use Rattle.repl_replies.specs.Replies.{no_file, namespace_not_found, malformed, new_session}
use Rattle.repl_replies.specs.Replies.{sessions, described, closed, interrupted}
use Rattle.repl_replies.specs.Inside.Requests.{RequestData, RequestOrReplyData, waits, answered}
use Rattle.repl_replies.specs.Operations as meant
use Rattle.repl_replies.specs.Operations.{OperationData, AskedData}
use Rattle.repl_replies.specs.declared.operation.Operation.{Operation}
use Rattle.repl_replies.specs.declared.operation.Asked.{Asked}
use Rattle.repl_replies.specs.declared.reply.Origin.{Origin}
use Rattle.repl_replies.specs.declared.reply.Body.{Body}
use Rattle.repl_replies.specs.declared.reply.Reply.{Reply}
use Rattle.repl_replies.specs.declared.request.Request.{Request}
use Rattle.repl_replies.specs.declared.request.RequestOrReply.{RequestOrReply}

-- the value of a field that a request may have
abbrev pub field_view : Option Ben → Option Tree
field_view (Some b) = Some (tree_view b)
field_view None = None

abbrev pub origin_view : Origin → OriginData
origin_view o = record { id = field_view o.id; session = field_view o.session }

abbrev pub body_view : Body → BodyData
body_view Body.Done = done
body_view (Body.UnknownOp op) = unknown_op (field_view op)
body_view Body.UnknownSession = unknown_session
body_view Body.NoCode = no_code
body_view Body.NoFile = no_file
body_view Body.NamespaceNotFound = namespace_not_found
body_view Body.Malformed = malformed
body_view (Body.NewSession id) = new_session (string_bytes id)
body_view (Body.Sessions ids) = sessions (map string_bytes ids.items)
body_view Body.Described = described
body_view Body.Closed = closed
body_view Body.Interrupted = interrupted

abbrev pub reply_view : Reply → ReplyData
reply_view r = record { origin = origin_view r.origin; body = body_view r.body }

abbrev pub request_view : Request → RequestData
request_view r =
    record { origin = origin_view r.origin; code = string_bytes r.code; ns = field_view r.ns }

abbrev pub request_or_reply_view : RequestOrReply → RequestOrReplyData
request_or_reply_view (RequestOrReply.Waits request) = waits (request_view request)
request_or_reply_view (RequestOrReply.Answered reply) = answered (reply_view reply)

abbrev pub operation_view : Operation → OperationData
operation_view (Operation.Clone session) = meant.clone session
operation_view (Operation.Close session) = meant.close session
operation_view (Operation.Describe session) = meant.describe session
operation_view (Operation.ListSessions session) = meant.list_sessions session
operation_view (Operation.Eval session code ns) =
    meant.eval session (string_bytes code) (field_view ns)
operation_view (Operation.LoadFile session file) = meant.load_file session (string_bytes file)

abbrev pub asked_view : Asked → AskedData
asked_view a = record { origin = origin_view a.origin; operation = operation_view a.operation }
