use Rattle.std.proofs.Common.{◌≡◌, Option, None, Some, false, is_some, option_map, refl, sym, ap}
use Rattle.std.proofs.Common.{◌∙◌}
use Rattle.std.proofs.lemmas.Result.{on_ok_weaker}
use Rattle.name_spaces.specs.Bindings.{nothing_bound}
use Rattle.name_spaces.specs.Namespaces.{bindings_of, with_namespace, with_entered_namespace}
use Rattle.name_spaces.specs.Inside.Seen.{bound_in, namespaces_of}
use Rattle.name_spaces.specs.declared.vars.Vars.{Vars}
use Rattle.name_spaces.proofs.spaces.Spaces.enter.Goals as goal

absent : (vars : Option Vars) → is_some vars ≡ false
    → bindings_of (option_map bound_in vars) ≡ nothing_bound
absent (Some vars) e = cc
absent None e = refl

pub returns-clause-entered : goal.returns-clause-entered
unfolding namespaces_of with_entered_namespace
returns-clause-entered c =
    let before = namespaces_of c.args.self.now in
    let is_new = sym c.contains_key.ensures ∙ c.if-contains_key.false in
    let empty = c.new.ensures ∙ sym (absent _ is_new) in
    on_ok_weaker c.put.result
    (λ put. put ∙ ap (with_namespace before c.args.name.now) empty) c.put.ensures.placed
