-- What a request is once its text is read.
use Rattle.std.specs.Prelude.{ℕ, List, Option, None, Some, option_and_then, if◌then◌else◌}
use Rattle.std.specs.Str.{is_utf8}
use Rattle.bencode_wire.specs.Tree.{Tree}
use Rattle.value_data.specs.Datum.{nil}
use Rattle.repl_replies.specs.Fields.{text_of}
use Rattle.repl_replies.specs.Replies.{OriginData}
use Rattle.repl_sessions.specs.State.{StateData}
use Rattle.name_spaces.specs.Namespaces.{Namespaces}
use Rattle.server_rules.specs.Readings.{Readings}
use Rattle.server_rules.specs.Request.{ProgramText, code, file, WorkInHand, each_form}
use Rattle.server_rules.specs.Request.{each_form_elsewhere, last_form}
use Rattle.server_rules.specs.Starting.{hand_of, namespace_there}
use Rattle.tenant_parts.specs.View.{hand_view}
use Rattle.tenant_moves.specs.declared.request.OpenedRequest.{OpenedRequest}

-- bytes as text
abbrev pub text_in : List ℕ → Option (List ℕ)
text_in bytes = if is_utf8 bytes then Some bytes else None

-- the namespace that a request names, if it is there
abbrev pub named_namespace : Namespaces → Tree → Option (List ℕ)
named_namespace spaces ns = option_and_then (namespace_there spaces) (text_of (Some ns))

abbrev pub opened_elsewhere : Readings → OriginData → List ℕ → Option (List ℕ) → Option WorkInHand
opened_elsewhere r origin text None = None
opened_elsewhere r origin text (Some name) =
    Some (hand_of origin each_form_elsewhere name (r.program text))

abbrev pub opened_code
    : Readings → Namespaces → OriginData → List ℕ → StateData → Option Tree → Option WorkInHand
opened_code r spaces origin text state None =
    Some (hand_of origin each_form state.namespace (r.program text))
opened_code r spaces origin text state (Some ns) =
    opened_elsewhere r origin text (named_namespace spaces ns)

-- the request as it is in hand; none where it names a namespace that is not there
abbrev pub opened_hand : Readings → Namespaces → OriginData → StateData → ProgramText → Option WorkInHand
opened_hand r spaces origin state (code text ns) = opened_code r spaces origin text state ns
opened_hand r spaces origin state (file text) =
    Some (hand_of origin (last_form nil) state.namespace (r.program text))

-- what the code made of the request
abbrev pub opened_view : OpenedRequest → Option WorkInHand
opened_view (OpenedRequest.WorkInHand h) = Some (hand_view h)
opened_view OpenedRequest.NamespaceNotFound = None
