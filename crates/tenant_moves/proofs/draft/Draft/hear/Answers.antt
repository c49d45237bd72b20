use Rattle.std.proofs.Common.{◌≡◌, ◌∙◌, sym, ap, subst, OnOk, rules}
use Rattle.bencode_wire.specs.Tree.{Tree, integer, string, list, dictionary}
use Rattle.bencode_wire.specs.Inside.View.{tree_view, trees_view, entries_view}
use Rattle.bencode_wire.specs.declared.ben.Ben.{the_lemmas}
use Rattle.server_rules.specs.Operating.{with_message}
use Rattle.tenant_moves.specs.Scene.{scene, FollowsRules}
use Rattle.tenant_moves.proofs.Drafting.{is_integer, is_string, is_list, comes-other}
use Rattle.tenant_moves.proofs.draft.Draft.hear.Goals as goal

pub returns-in-Dictionary-clause-heard : goal.returns-in-Dictionary-clause-heard
returns-in-Dictionary-clause-heard c =
    let x = scene c.args.self.now c.args.sessions.now c.args.actors.now in
    let y = scene c.hear_fields.new.self c.hear_fields.new.sessions c.hear_fields.new.actors in
    let seen : tree_view c.args.message ≡ dictionary (entries_view c.in-Dictionary.fields.entries) = ap tree_view c.in-Dictionary.is ∙ search (rules, the_lemmas) in
    subst (λ (m : Tree). OnOk c.hear_fields.result (FollowsRules (λ g t. with_message g t m) x y)) (sym seen) c.hear_fields.ensures.heard

pub returns-in-Integer-clause-heard : goal.returns-in-Integer-clause-heard
returns-in-Integer-clause-heard c =
    let x = scene c.args.self.now c.args.sessions.now c.args.actors.now in
    let seen : tree_view c.args.message ≡ integer c.in-Integer.field-0 = ap tree_view c.in-Integer.is ∙ search (rules, the_lemmas) in
    comes-other (tree_view c.args.message) (integer c.in-Integer.field-0) x seen (is_integer c.in-Integer.field-0)

pub returns-in-String-clause-heard : goal.returns-in-String-clause-heard
returns-in-String-clause-heard c =
    let x = scene c.args.self.now c.args.sessions.now c.args.actors.now in
    let bytes = c.in-String.field-0.items in
    let seen : tree_view c.args.message ≡ string bytes = ap tree_view c.in-String.is ∙ search (rules, the_lemmas) in
    comes-other (tree_view c.args.message) (string bytes) x seen (is_string bytes)

pub returns-clause-heard : goal.returns-clause-heard
returns-clause-heard c =
    let x = scene c.args.self.now c.args.sessions.now c.args.actors.now in
    let items = trees_view c.in-List.field-0.items in
    let seen : tree_view c.args.message ≡ list items = ap tree_view c.in-List.is ∙ search (rules, the_lemmas) in
    comes-other (tree_view c.args.message) (list items) x seen (is_list items)
