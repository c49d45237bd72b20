use Rattle.std.proofs.Common.{◌≡◌, Some, option_map, sym, ap, ◌∙◌, arith}
use Rattle.std.specs.Arc.{arc_str_bytes}
use Rattle.std.specs.BTreeMap.{get_by_text}
use Rattle.std.proofs.lemmas.Map.Text.{text_keys}
use Rattle.std.proofs.lemmas.Result.{on_ok_weaker, on_err_weaker}
use Rattle.repl_asks.specs.Inside.View.{binding_view}
use Rattle.name_spaces.specs.Bindings.{rebound}
use Rattle.name_spaces.specs.Namespaces.{bindings_of, with_namespace, with_definition}
use Rattle.name_spaces.specs.Inside.Seen.{bound_in, namespaces_of}
use Rattle.name_spaces.proofs.Placing.{Updates, placed, own-placed, put_back}
use Rattle.name_spaces.proofs.spaces.Spaces.define.Goals as goal

pub returns-in-Some-clause-defined : goal.returns-in-Some-clause-defined
unfolding namespaces_of with_definition
returns-in-Some-clause-defined c =
    let name = c.args.namespace.now in
    let vars = c.define.new.self in
    let old = get_by_text c.args.self.now.namespaces in
    let new = get_by_text (c.get_mut.follows.lender vars) in
    let updates : Updates old new name vars = λ q. grind (arith, text_keys) in
    let not_fixed = sym c.is_fixed.ensures ∙ c.if-is_fixed.false in
    let put = placed bound_in old new name vars not_fixed updates in
    let there : old name ≡ Some c.in-Some.vars.now = sym c.in-Some.ensures.value in
    let key = arc_str_bytes c.args.name in
    let binding = binding_view c.args.binding in
    let same = ap (λ o. rebound (bindings_of (option_map bound_in o)) key binding) (sym there) in
    on_ok_weaker c.define.result
    (λ bound. put ∙ ap (with_namespace (namespaces_of c.args.self.now) name) (bound ∙ same))
    c.define.ensures.bound

pub returns-in-Some-clause-kept : goal.returns-in-Some-clause-kept
unfolding namespaces_of
returns-in-Some-clause-kept c =
    let name = c.args.namespace.now in
    let vars = c.define.new.self in
    let old = get_by_text c.args.self.now.namespaces in
    let new = get_by_text (c.get_mut.follows.lender vars) in
    let updates : Updates old new name vars = λ q. grind (arith, text_keys) in
    let not_fixed = sym c.is_fixed.ensures ∙ c.if-is_fixed.false in
    let put = placed bound_in old new name vars not_fixed updates in
    let there : old name ≡ Some c.in-Some.vars.now = sym c.in-Some.ensures.value in
    let seen = ap (option_map bound_in) there in
    on_err_weaker c.define.result
    (λ kept. put ∙ put_back (namespaces_of c.args.self.now) name _ (seen ∙ ap Some (sym kept)))
    c.define.ensures.kept

pub returns-in_ok-define-in-None-clause-defined : goal.returns-in_ok-define-in-None-clause-defined
unfolding namespaces_of with_definition
returns-in_ok-define-in-None-clause-defined c =
    let name = c.args.namespace.now in
    let key = arc_str_bytes c.args.name in
    let binding = binding_view c.args.binding in
    let none = ap (λ o. bindings_of (option_map bound_in o)) c.in-None.ensures.value in
    let made = c.in_ok-define-in-None.ensures.bound
    ∙ ap (λ b. rebound b key binding) (c.new-vars.ensures ∙ none) in
    let same = ap (λ m q. option_map bound_in (get_by_text m q)) c.get_mut.follows.holds-at-none in
    let vars = bound_in c.define-in-None.new.self in
    on_ok_weaker c.put.result
    (λ put. put ∙ ap (λ n. with_namespace n name vars) same
    ∙ ap (with_namespace (namespaces_of c.args.self.now) name) made)
    c.put.ensures.placed

pub invariant_of-self : goal.invariant_of-self
invariant_of-self c =
    let name = c.args.namespace.now in
    let vars = c.define.new.self in
    let old = get_by_text c.args.self.now.namespaces in
    let new = get_by_text (c.get_mut.follows.lender vars) in
    let updates : Updates old new name vars = λ q. grind (arith, text_keys) in
    let not_fixed = sym c.is_fixed.ensures ∙ c.if-is_fixed.false in
    record { own = own-placed old new name vars not_fixed updates c.args.self.now.own }
