use Rattle.std.proofs.Common.{◌≡◌, sym, ap, subst, List, ℕ, Option, IfOk, option_map}
use Rattle.std.proofs.Common.{option_and_then}
use Rattle.std.specs.Arc.{arc_str_bytes}
use Rattle.name_spaces.specs.Inside.Seen.{namespaces_of}
use Rattle.server_rules.specs.Starting.{namespace_there}
use Rattle.tenant_moves.proofs.Texts.{is-text, no-text}
use Rattle.tenant_moves.proofs.request.namespace_of.Goals as goal

pub returns-in-Ok : goal.returns-in-Ok
returns-in-Ok c =
    let spaces = namespaces_of c.args.spaces.now in
    let P : List ℕ → Type 0 = λ name. IfOk c.namespace_there.result
    (λ found. option_map (λ name. arc_str_bytes name) found ≡ namespace_there spaces name) in
    let Q : Option (List ℕ) → Type 0 = λ name. IfOk c.namespace_there.result
    (λ found. option_map (λ name. arc_str_bytes name) found
    ≡ option_and_then (namespace_there spaces) name) in
    subst Q (sym (is-text c.args.name.now c.in-Ok.ensures.cases.1))
    (subst P c.in-Ok.ensures.cases.0 c.namespace_there.ensures)

pub returns-in-Err : goal.returns-in-Err
returns-in-Err c =
    ap (option_and_then (namespace_there (namespaces_of c.args.spaces.now)))
    (sym (no-text c.args.name.now c.in-Err.ensures.cases.0))
