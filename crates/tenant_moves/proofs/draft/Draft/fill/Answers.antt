use Rattle.std.proofs.Common.{◌≡◌, ◌∙◌, sym, ap, List, [], ◌∷◌, ◌++◌, Bool, map, length, append-nil}
use Rattle.std.proofs.Common.{arith}
use Rattle.std.proofs.lemmas.Grind.{common_steps}
use Rattle.std.proofs.lemmas.List.{nil_from_length}
use Rattle.std.proofs.lemmas.Result.{on_ok_weaker}
use Rattle.bencode_wire.specs.Inside.View.{tree_view}
use Rattle.bencode_wire.specs.declared.ben.Ben.{Ben}
use Rattle.repl_replies.specs.Replies.{OriginData, no_origin, malformed, bytes_of}
use Rattle.server_rules.specs.Hearing.{with_messages}
use Rattle.server_rules.specs.Replying.{reply}
use Rattle.server_rules.specs.Tenant.{with_replies}
use Rattle.tenant_parts.specs.Replies.{made_bytes}
use Rattle.tenant_moves.specs.Scene.{Scene, scene}
use Rattle.tenant_moves.specs.Handled.{told_broken}
use Rattle.tenant_moves.proofs.Drafting.{comes-replied, drafts-as}
use Rattle.tenant_moves.proofs.Undoing.{kept-then}
use Rattle.tenant_moves.proofs.draft.Draft.fill.Goals as goal

pub loop-message-preserved : goal.loop-message-preserved
loop-message-preserved c =
    let was = c.loop-message in
    let first = scene c.args.self.now c.args.sessions.now c.args.actors.now in
    let before = scene was.self was.sessions was.actors in
    let now = scene c.hear.new.self c.hear.new.sessions c.hear.new.actors in
    record {
      kept = kept-then first before now was.invariant.kept c.hear.ensures.kept;
      heard = λ g t q waiting d.
          let h = was.invariant.heard g t q waiting d in (
            with_messages g t (tree_view c.in-Some.message ∷ []) h.0,
            c.in_ok-hear.ensures.heard g t h.0 waiting h.1,
            sym (ap (λ (ms : List Ben). with_messages g t (map tree_view ms) h.0) c.in-Some.ensures.items) ∙ h.2,
          );
    }

pub returns-then-is_broken-clause-heard : goal.returns-then-is_broken-clause-heard
returns-then-is_broken-clause-heard c =
    let was = c.loop-message in
    let before = scene was.self was.sessions was.actors in
    let none : length was.messages.items ≡ 0 = grind (arith, common_steps, c.in_default.ensures.cases) in
    let empty : was.messages.items ≡ [] = nil_from_length was.messages.items none in
    let more = reply no_origin malformed ∷ [] in
    let now : Scene = record before { made = made_bytes c.add.new.self } in
    on_ok_weaker c.add.result (λ added g t q waiting d.
    let h = was.invariant.heard g t q waiting d in
    let all : h.0 ≡ with_messages g t (map tree_view c.args.messages.items) q =
    sym (ap (λ (ms : List Ben). with_messages g t (map tree_view ms) h.0) empty) ∙ h.2 in
    drafts-as g t _ _ waiting now (ap (with_replies more) all ∙ sym (ap (λ (b : Bool). with_replies (told_broken b) (with_messages g t (map tree_view c.args.messages.items) q)) c.if-is_broken.true))
    (comes-replied more before now.made (added ∙ ap (λ (o : OriginData). made_bytes was.self.batch ++ map bytes_of (reply o malformed ∷ [])) c.none.ensures) g t h.0 waiting h.1))
    c.add.ensures

pub returns-clause-heard : goal.returns-clause-heard
returns-clause-heard c = λ g t q waiting d.
    let was = c.loop-message in
    let before = scene was.self was.sessions was.actors in
    let none : length was.messages.items ≡ 0 = grind (arith, common_steps, c.in_default.ensures.cases) in
    let empty : was.messages.items ≡ [] = nil_from_length was.messages.items none in
    let h = was.invariant.heard g t q waiting d in
    let all : h.0 ≡ with_messages g t (map tree_view c.args.messages.items) q =
    sym (ap (λ (ms : List Ben). with_messages g t (map tree_view ms) h.0) empty) ∙ h.2 in
    let nothing : with_replies [] h.0 ≡ h.0 = ap (λ l. record h.0 { replies = l }) (append-nil h.0.replies) in
    drafts-as g t _ _ waiting _ (sym nothing ∙ ap (with_replies []) all
    ∙ sym (ap (λ (b : Bool). with_replies (told_broken b) (with_messages g t (map tree_view c.args.messages.items) q)) c.if-is_broken.false)) h.1
