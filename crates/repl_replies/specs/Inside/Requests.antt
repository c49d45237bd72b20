-- What a message asks for (the nREPL manual, "Supported nREPL operations").
use Rattle.std.specs.Prelude.{ℕ, List, Bool, false, Option, Some, None, if◌then◌else◌, codes}
use Rattle.std.specs.Str.{bytes_eq}
use Rattle.bencode_wire.specs.Tree.{Tree, integer, string, list, dictionary, TreePairs, field}
pub use Rattle.repl_replies.specs.Fields.{text_of}
use Rattle.repl_replies.specs.Replies.{OriginData, BodyData, unknown_op, unknown_session, no_code}
use Rattle.repl_replies.specs.Replies.{ReplyData}

-- a request to evaluate: its code, and the namespace that it names, as it came
pub record RequestData : Type 0 where
  pub origin : OriginData
  pub code : List ℕ
  pub ns : Option Tree

-- a message waits, or is answered at once
pub data RequestOrReplyData : Type 0 where
  waits : RequestData → RequestOrReplyData
  answered : ReplyData → RequestOrReplyData

-- whether a field is this string
abbrev pub is_this_string : List ℕ → Option Tree → Bool
is_this_string text None = false
is_this_string text (Some (integer n)) = false
is_this_string text (Some (string bytes)) = bytes_eq bytes text
is_this_string text (Some (list ts)) = false
is_this_string text (Some (dictionary ps)) = false

abbrev pub refused : OriginData → BodyData → RequestOrReplyData
refused origin body = answered (record { origin = origin; body = body })

abbrev pub with_code : OriginData → Option Tree → Option (List ℕ) → RequestOrReplyData
with_code origin ns None = refused origin no_code
with_code origin ns (Some code) = waits (record { origin = origin; code = code; ns = ns })

-- no session is open yet
abbrev pub for_session : OriginData → Option Tree → Option Tree → Option Tree → RequestOrReplyData
for_session origin code ns None = with_code origin ns (text_of code)
for_session origin code ns (Some session) = refused origin unknown_session

-- the operation is looked at first, then the session, then the code
unfoldable pub request_or_reply : TreePairs → RequestOrReplyData
request_or_reply fields =
    let origin : OriginData = record {
      id = field (codes "id") fields;
      session =
          field (codes "session") fields;
    } in
    if is_this_string (codes "eval") (field (codes "op") fields)
    then for_session origin (field (codes "code") fields) (field (codes "ns") fields)
    (field (codes "session") fields)
    else refused origin (unknown_op (field (codes "op") fields))
