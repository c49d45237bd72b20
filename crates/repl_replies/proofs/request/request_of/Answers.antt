use Rattle.std.proofs.Common.{◌≡◌, ◌∙◌, refl, codes}
use Rattle.bencode_wire.specs.Tree.{field}
use Rattle.bencode_wire.specs.Inside.View.{entries_view}
use Rattle.repl_replies.specs.Inside.Requests.{request_or_reply}
use Rattle.repl_replies.specs.Inside.View.{field_view}
use Rattle.repl_replies.proofs.Requests.{field_view-option_map}
use Rattle.repl_replies.proofs.request.request_of.Goals as goal

-- what is taken out leaves the fields that are taken after it
pub returns : goal.returns
unfolding request_or_reply
returns c =
    let op = c.take_field-op in
    let code = c.take_field-code in
    let ns = c.take_field-ns in
    let id = c.take_field-id in
    let session = c.take_field-session in
    let m = entries_view c.args.message.entries in
    let op_is : field_view op.result ≡ field (codes "op") m = field_view-option_map op.result ∙ op.ensures.value in
    let code_is : field_view code.result ≡ field (codes "code") m = field_view-option_map code.result ∙ code.ensures.value ∙ op.ensures.others (codes "code") in
    let ns_is : field_view ns.result ≡ field (codes "ns") m =
    field_view-option_map ns.result ∙ ns.ensures.value ∙ code.ensures.others (codes "ns") ∙ op.ensures.others (codes "ns") in
    let id_is : field_view id.result ≡ field (codes "id") m =
    field_view-option_map id.result ∙ id.ensures.value ∙ ns.ensures.others (codes "id") ∙ code.ensures.others (codes "id") ∙ op.ensures.others (codes "id") in
    let session_is : field_view session.result ≡ field (codes "session") m =
    field_view-option_map session.result ∙ session.ensures.value ∙ id.ensures.others (codes "session") ∙ ns.ensures.others (codes "session")
    ∙ code.ensures.others (codes "session") ∙ op.ensures.others (codes "session") in
    c.request_of_fields.ensures ∙ rw (op_is, code_is, ns_is, id_is, session_is) refl
