use Rattle.std.proofs.Common.{◌∙◌, ap, codes}
use Rattle.bencode_wire.specs.Inside.View.{entries_view}
use Rattle.repl_replies.specs.Operations.{of_origin}
use Rattle.repl_replies.specs.Inside.View.{field_view}
use Rattle.repl_replies.proofs.Operations.{Taken, operation_or_reply-taken}
use Rattle.repl_replies.proofs.Served.{operation_or_reply-view-names}
use Rattle.repl_replies.proofs.Requests.{field_view-option_map}
use Rattle.repl_replies.proofs.operation.operation_of.Goals as goal

told : goal.returns-clause-asked
told g c =
    let id = c.take_field-id in
    let session = c.take_field-session in
    let op = c.take_field-op in
    let all = entries_view c.args.message.entries in
    let left = entries_view op.new.fields.entries in
    let taken : Taken (field_view id.result) (field_view session.result) (field_view op.result) left all = record {
      id_is = field_view-option_map id.result ∙ id.ensures.value;
      session_is = field_view-option_map session.result ∙ session.ensures.value ∙ id.ensures.others (codes "session");
      op_is = field_view-option_map op.result ∙ op.ensures.value ∙ session.ensures.others (codes "op") ∙ id.ensures.others (codes "op");
      needs = record {
        code = op.ensures.others (codes "code") ∙ session.ensures.others (codes "code") ∙ id.ensures.others (codes "code");
        ns = op.ensures.others (codes "ns") ∙ session.ensures.others (codes "ns") ∙ id.ensures.others (codes "ns");
        file = op.ensures.others (codes "file") ∙ session.ensures.others (codes "file") ∙ id.ensures.others (codes "file");
      };
    } in
    c.of_origin.ensures ∙ ap (of_origin (record { id = field_view id.result; session = field_view session.result })) c.served_operation-operation.ensures
    ∙ operation_or_reply-taken (g.S.OpenSessions.number c.args.sessions.now) _ _ _ left all taken

pub returns-clause-asked : goal.returns-clause-asked
returns-clause-asked g c = told g c

pub returns-clause-named : goal.returns-clause-named
returns-clause-named g c =
    operation_or_reply-view-names (g.S.OpenSessions.number c.args.sessions.now) (entries_view c.args.message.entries) c.of_origin.result (told g c)
