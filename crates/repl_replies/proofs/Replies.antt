-- A reply's fields, written one behind another in the order of their keys, are its message's spelling.
use Rattle.std.proofs.Common.{◌≡◌, ℕ, List, ◌++◌, Option, Some, None, Result, Ok, Err, IfOk, Vec, Global, refl, sym, ap, ◌∙◌, codes, append_assoc, append-nil}
use Rattle.std.specs.Fmt.{digits}
use Rattle.std.specs.declared.alloc.AllocError.{AllocError}
use Rattle.bencode_wire.specs.Tree.{Tree, string, list, dictionary, TreePairs, no_pairs, pair}
use Rattle.bencode_wire.specs.Spelling.{canonical, string_text, pairs_text, put_tree_pairs}
use Rattle.bencode_wire.proofs.Views.{each_sorted}
use Rattle.repl_replies.specs.Description.{ops, server_versions}
use Rattle.repl_replies.specs.OperationNames.{operations}
use Rattle.repl_replies.specs.Inside.Building.{behind}
use Rattle.repl_replies.specs.Replies.{OriginData, BodyData, value, output, exception, error_text}
use Rattle.repl_replies.specs.Replies.{done, unknown_op, unknown_session, no_code, no_file}
use Rattle.repl_replies.specs.Replies.{namespace_not_found, malformed, new_session, sessions}
use Rattle.repl_replies.specs.Replies.{described, closed, interrupted}
use Rattle.repl_replies.specs.Replies.{with_field, status, status_value, strings, class_text}
use Rattle.repl_replies.specs.Replies.{body_fields, message, bytes_of}

-- the status alone, where there is one
abbrev with_status : BodyData → TreePairs
with_status body = with_field (codes "status") (status_value (status body)) no_pairs

-- a reply that has no field but a status
abbrev plain : OriginData → BodyData → TreePairs
plain o body = with_field (codes "id") o.id (with_field (codes "session") o.session (with_status body))

-- the fields of a reply in the order of their keys
abbrev in_order : OriginData → BodyData → TreePairs
in_order o (value text ns) =
    with_field (codes "id") o.id (pair (codes "ns") (string ns)
    (with_field (codes "session") o.session (pair (codes "value") (string text) no_pairs)))
in_order o (output text) = with_field (codes "id") o.id (pair (codes "out") (string text) (with_field (codes "session") o.session no_pairs))
in_order o (exception class) =
    pair (codes "ex") (class_text class) (with_field (codes "id") o.id (pair (codes "root-ex") (class_text class)
    (with_field (codes "session") o.session (with_status (exception class)))))
in_order o (error_text line) = pair (codes "err") (string line) (with_field (codes "id") o.id (with_field (codes "session") o.session no_pairs))
in_order o (unknown_op op) = with_field (codes "id") o.id (with_field (codes "op") op (with_field (codes "session") o.session (with_status (unknown_op op))))
in_order o (new_session id) =
    with_field (codes "id") o.id (pair (codes "new-session") (string id) (with_field (codes "session") o.session (with_status (new_session id))))
in_order o (sessions ids) =
    with_field (codes "id") o.id (with_field (codes "session") o.session (pair (codes "sessions") (list (strings ids)) (with_status (sessions ids))))
in_order o described =
    pair (codes "aux") (dictionary no_pairs) (with_field (codes "id") o.id (pair (codes "ops") (dictionary (ops operations))
    (with_field (codes "session") o.session (with_field (codes "status") (status_value (status described)) (pair (codes "versions") server_versions no_pairs)))))
in_order o done = plain o done
in_order o unknown_session = plain o unknown_session
in_order o no_code = plain o no_code
in_order o no_file = plain o no_file
in_order o namespace_not_found = plain o namespace_not_found
in_order o malformed = plain o malformed
in_order o closed = plain o closed
in_order o interrupted = plain o interrupted

-- the fields in the order in which the message has them
abbrev fields_of : OriginData → BodyData → TreePairs
fields_of o body =
    with_field (codes "id") o.id (with_field (codes "session") o.session (with_field (codes "status") (status_value (status body)) (body_fields body)))

-- sorting puts them into the order in which they are written
abbrev AreInOrder : BodyData → Option Tree → Option Tree → Type 0
AreInOrder body id session =
    let o : OriginData = record { id = id; session = session } in
    put_tree_pairs no_pairs (fields_of o body) ≡ each_sorted (in_order o body)

in_each : (body : BodyData) → AreInOrder body None None → ((t : Tree) → AreInOrder body (Some t) None) → ((u : Tree) → AreInOrder body None (Some u))
    → ((t u : Tree) → AreInOrder body (Some t) (Some u)) → (id session : Option Tree) → AreInOrder body id session
in_each body neither one other both None None = neither
in_each body neither one other both (Some t) None = one t
in_each body neither one other both None (Some u) = other u
in_each body neither one other both (Some t) (Some u) = both t u

are_in_order : (body : BodyData) (id session : Option Tree) → AreInOrder body id session
are_in_order (value text ns) = in_each (value text ns) refl (λ t. refl) (λ u. refl) (λ t u. refl)
are_in_order (output text) = in_each (output text) refl (λ t. refl) (λ u. refl) (λ t u. refl)
are_in_order (exception class) = in_each (exception class) refl (λ t. refl) (λ u. refl) (λ t u. refl)
are_in_order (error_text line) = in_each (error_text line) refl (λ t. refl) (λ u. refl) (λ t u. refl)
are_in_order (unknown_op None) = in_each (unknown_op None) refl (λ t. refl) (λ u. refl) (λ t u. refl)
are_in_order (unknown_op (Some op)) = in_each (unknown_op (Some op)) refl (λ t. refl) (λ u. refl) (λ t u. refl)
are_in_order (new_session id) = in_each (new_session id) refl (λ t. refl) (λ u. refl) (λ t u. refl)
are_in_order (sessions ids) = in_each (sessions ids) refl (λ t. refl) (λ u. refl) (λ t u. refl)
are_in_order described = in_each described refl (λ t. refl) (λ u. refl) (λ t u. refl)
are_in_order done = in_each done refl (λ t. refl) (λ u. refl) (λ t u. refl)
are_in_order unknown_session = in_each unknown_session refl (λ t. refl) (λ u. refl) (λ t u. refl)
are_in_order no_code = in_each no_code refl (λ t. refl) (λ u. refl) (λ t u. refl)
are_in_order no_file = in_each no_file refl (λ t. refl) (λ u. refl) (λ t u. refl)
are_in_order namespace_not_found = in_each namespace_not_found refl (λ t. refl) (λ u. refl) (λ t u. refl)
are_in_order malformed = in_each malformed refl (λ t. refl) (λ u. refl) (λ t u. refl)
are_in_order closed = in_each closed refl (λ t. refl) (λ u. refl) (λ t u. refl)
are_in_order interrupted = in_each interrupted refl (λ t. refl) (λ u. refl) (λ t u. refl)

-- pairs, written behind what there is
abbrev written : List ℕ → TreePairs → List ℕ
written out no_pairs = out
written out (pair key t ps) = written (out ++ (string_text key ++ canonical t)) ps

written_text : (out : List ℕ) (ps : TreePairs) → written out ps ≡ out ++ pairs_text (each_sorted ps)
written_text out no_pairs = sym (append-nil out)
written_text out (pair key t ps) = written_text (out ++ (string_text key ++ canonical t)) ps ∙ append_assoc out (string_text key ++ canonical t) (pairs_text (each_sorted ps))

-- a field that there may be, and those behind it
given : (out key : List ℕ) (v : Option Tree) (more : TreePairs) → written out (with_field key v more) ≡ written (out ++ behind (string_text key) v) more
given out key None more = ap (λ x. written x more) (sym (append-nil out))
given out key (Some t) more = refl

spelled : (o : OriginData) (body : BodyData) → written (codes "d") (in_order o body) ++ codes "e" ≡ bytes_of (record { origin = o; body = body })
unfolding message bytes_of
spelled o body =
    ap (λ x. x ++ codes "e") (written_text (codes "d") (in_order o body) ∙ ap (λ ps. codes "d" ++ pairs_text ps) (sym (are_in_order body o.id o.session)))

pub value_spelled : (o : OriginData) (text ns : List ℕ)
    → codes "d" ++ behind (codes "2:id") o.id ++ (codes "2:ns" ++ string_text ns) ++ behind (codes "7:session") o.session ++ (codes "5:value" ++ string_text text) ++ codes "e"
    ≡ bytes_of (record { origin = o; body = value text ns })
unfolding digits
value_spelled o text ns =
    ap (λ x. x ++ codes "e") (sym (given (codes "d") (codes "id") o.id _ ∙ given (codes "d" ++ behind (codes "2:id") o.id ++ (codes "2:ns" ++ string_text ns)) (codes "session") o.session _))
    ∙ spelled o (value text ns)

pub output_spelled : (o : OriginData) (text : List ℕ)
    → codes "d" ++ behind (codes "2:id") o.id ++ (codes "3:out" ++ string_text text) ++ behind (codes "7:session") o.session ++ codes "e"
    ≡ bytes_of (record { origin = o; body = output text })
unfolding digits
output_spelled o text =
    ap (λ x. x ++ codes "e") (sym (given (codes "d") (codes "id") o.id _ ∙ given (codes "d" ++ behind (codes "2:id") o.id ++ (codes "3:out" ++ string_text text)) (codes "session") o.session _))
    ∙ spelled o (output text)

pub exception_spelled : (o : OriginData) (class : List ℕ)
    → codes "d" ++ (codes "2:ex" ++ string_text (codes "class " ++ class)) ++ behind (codes "2:id") o.id ++ (codes "7:root-ex" ++ string_text (codes "class " ++ class))
    ++ behind (codes "7:session") o.session ++ codes "6:statusl10:eval-errore" ++ codes "e"
    ≡ bytes_of (record { origin = o; body = exception class })
unfolding digits
exception_spelled o class =
    let text = string_text (codes "class " ++ class) in
    let begun = codes "d" ++ (codes "2:ex" ++ text) in
    ap (λ x. x ++ codes "e") (sym (given begun (codes "id") o.id _ ∙ given (begun ++ behind (codes "2:id") o.id ++ (codes "7:root-ex" ++ text)) (codes "session") o.session _))
    ∙ spelled o (exception class)

pub error_text_spelled : (o : OriginData) (line : List ℕ)
    → codes "d" ++ (codes "3:err" ++ string_text line) ++ behind (codes "2:id") o.id ++ behind (codes "7:session") o.session ++ codes "e"
    ≡ bytes_of (record { origin = o; body = error_text line })
unfolding digits
error_text_spelled o line =
    let begun = codes "d" ++ (codes "3:err" ++ string_text line) in
    ap (λ x. x ++ codes "e") (sym (given begun (codes "id") o.id _ ∙ given (begun ++ behind (codes "2:id") o.id) (codes "session") o.session _))
    ∙ spelled o (error_text line)

pub unknown_op_spelled : (o : OriginData) (op : Option Tree)
    → codes "d" ++ behind (codes "2:id") o.id ++ behind (codes "2:op") op ++ behind (codes "7:session") o.session ++ codes "6:statusl5:error10:unknown-op4:donee" ++ codes "e"
    ≡ bytes_of (record { origin = o; body = unknown_op op })
unfolding digits
unknown_op_spelled o op =
    let begun = codes "d" ++ behind (codes "2:id") o.id in
    ap (λ x. x ++ codes "e") (sym (given (codes "d") (codes "id") o.id _ ∙ given begun (codes "op") op _ ∙ given (begun ++ behind (codes "2:op") op) (codes "session") o.session _))
    ∙ spelled o (unknown_op op)

pub new_session_spelled : (o : OriginData) (id : List ℕ)
    → codes "d" ++ behind (codes "2:id") o.id ++ (codes "11:new-session" ++ string_text id) ++ behind (codes "7:session") o.session ++ codes "6:statusl4:donee" ++ codes "e"
    ≡ bytes_of (record { origin = o; body = new_session id })
unfolding digits
new_session_spelled o id =
    ap (λ x. x ++ codes "e") (sym (given (codes "d") (codes "id") o.id _ ∙ given (codes "d" ++ behind (codes "2:id") o.id ++ (codes "11:new-session" ++ string_text id)) (codes "session") o.session _))
    ∙ spelled o (new_session id)

pub sessions_spelled : (o : OriginData) (ids : List (List ℕ))
    → codes "d" ++ behind (codes "2:id") o.id ++ behind (codes "7:session") o.session ++ codes "8:sessions" ++ canonical (list (strings ids)) ++ codes "6:statusl4:donee" ++ codes "e"
    ≡ bytes_of (record { origin = o; body = sessions ids })
unfolding digits
sessions_spelled o ids =
    let begun = codes "d" ++ behind (codes "2:id") o.id in
    ap (λ x. x ++ codes "6:statusl4:donee" ++ codes "e") (append_assoc (begun ++ behind (codes "7:session") o.session) (codes "8:sessions") (canonical (list (strings ids))))
    ∙ ap (λ x. x ++ codes "e") (sym (given (codes "d") (codes "id") o.id _ ∙ given begun (codes "session") o.session _))
    ∙ spelled o (sessions ids)

pub described_spelled : (o : OriginData)
    → codes "d" ++ codes "3:auxde" ++ behind (codes "2:id") o.id ++ codes "3:ops" ++ (codes "d" ++ pairs_text (ops operations) ++ codes "e") ++ behind (codes "7:session") o.session
    ++ codes "6:statusl4:donee" ++ codes "8:versionsd6:serverd5:majori1e5:minori0eee" ++ codes "e"
    ≡ bytes_of (record { origin = o; body = described })
unfolding digits
described_spelled o =
    let begun = codes "d" ++ codes "3:auxde" in
    let all = codes "d" ++ pairs_text (ops operations) ++ codes "e" in
    ap (λ x. x ++ behind (codes "7:session") o.session ++ codes "6:statusl4:donee" ++ codes "8:versionsd6:serverd5:majori1e5:minori0eee" ++ codes "e")
    (append_assoc (begun ++ behind (codes "2:id") o.id) (codes "3:ops") all)
    ∙ ap (λ x. x ++ codes "e") (sym (given begun (codes "id") o.id _ ∙ given (begun ++ behind (codes "2:id") o.id ++ (codes "3:ops" ++ all)) (codes "session") o.session _))
    ∙ spelled o described

-- a reply that has no field but a status
abbrev pub IsPlain : BodyData → List ℕ → Type 0
IsPlain body status_field =
    (o : OriginData) → codes "d" ++ behind (codes "2:id") o.id ++ behind (codes "7:session") o.session ++ status_field ++ codes "e"
    ≡ bytes_of (record { origin = o; body = body })

plain_spelled : (body : BodyData) → ((o : OriginData) → in_order o body ≡ plain o body) → IsPlain body (behind (codes "6:status") (status_value (status body)))
unfolding digits
plain_spelled body is o =
    ap (λ x. x ++ codes "e") (sym (given (codes "d") (codes "id") o.id _ ∙ given (codes "d" ++ behind (codes "2:id") o.id) (codes "session") o.session _
    ∙ given (codes "d" ++ behind (codes "2:id") o.id ++ behind (codes "7:session") o.session) (codes "status") (status_value (status body)) no_pairs)
    ∙ ap (written (codes "d")) (sym (is o)))
    ∙ spelled o body

pub done_spelled : IsPlain done (codes "6:statusl4:donee")
unfolding digits
done_spelled = plain_spelled done (λ o. refl)

pub unknown_session_spelled : IsPlain unknown_session (codes "6:statusl5:error15:unknown-session4:donee")
unfolding digits
unknown_session_spelled = plain_spelled unknown_session (λ o. refl)

pub no_code_spelled : IsPlain no_code (codes "6:statusl5:error7:no-code4:donee")
unfolding digits
no_code_spelled = plain_spelled no_code (λ o. refl)

pub no_file_spelled : IsPlain no_file (codes "6:statusl5:error7:no-file4:donee")
unfolding digits
no_file_spelled = plain_spelled no_file (λ o. refl)

pub namespace_not_found_spelled : IsPlain namespace_not_found (codes "6:statusl5:error19:namespace-not-found4:donee")
unfolding digits
namespace_not_found_spelled = plain_spelled namespace_not_found (λ o. refl)

pub malformed_spelled : IsPlain malformed (codes "6:statusl5:error9:malformed4:donee")
unfolding digits
malformed_spelled = plain_spelled malformed (λ o. refl)

pub closed_spelled : IsPlain closed (codes "6:statusl4:done14:session-closede")
unfolding digits
closed_spelled = plain_spelled closed (λ o. refl)

pub interrupted_spelled : IsPlain interrupted (codes "6:statusl4:done11:interruptede")
unfolding digits
interrupted_spelled = plain_spelled interrupted (λ o. refl)

pub same_bytes : {a b : List ℕ} (r : Result (Vec ℕ Global) AllocError) → a ≡ b → IfOk r (λ bytes. bytes.items ≡ a) → IfOk r (λ bytes. bytes.items ≡ b)
same_bytes (Ok bytes) e h = h ∙ e
same_bytes (Err refused) e h = tt
