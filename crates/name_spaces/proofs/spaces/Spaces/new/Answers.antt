use Rattle.std.proofs.Common.{◌≡◌, Bool, true, false, None, Some, if◌then◌else◌, refl, ap, ◌∙◌}
use Rattle.std.proofs.Common.{option_map, arith}
use Rattle.std.specs.Prelude.{codes}
use Rattle.std.specs.BTreeMap.{get_by_text}
use Rattle.std.specs.Str.{bytes_eq}
use Rattle.std.proofs.lemmas.Map.Text.{text_keys}
use mathlib.Core.Path.{fun_ext}
use Rattle.name_spaces.specs.Bindings.{nothing_bound}
use Rattle.name_spaces.specs.Namespaces.{at_start}
use Rattle.name_spaces.specs.Inside.Seen.{bound_in, namespaces_of}
use Rattle.name_spaces.specs.declared.vars.Vars.{Vars}
use Rattle.name_spaces.proofs.Placing.{Updates}
use Rattle.name_spaces.proofs.spaces.Spaces.new.Goals as goal

alone : (same : Bool) (vars : Vars) → bound_in vars ≡ nothing_bound
    → option_map bound_in (if same then Some vars else None)
    ≡ (if same then Some nothing_bound else None)
alone true vars empty = ap Some empty
alone false vars empty = refl

pub returns-clause-namespaces : goal.returns-clause-namespaces
unfolding namespaces_of at_start
returns-clause-namespaces c =
    let new = get_by_text c.insert.new.self in
    let vars = c.new.result in
    let user : Updates (λ q. None) new (codes "user") vars = λ q. grind (arith, text_keys) in
    fun_ext (λ q. ap (option_map bound_in) (user q)
    ∙ alone (bytes_eq q (codes "user")) vars c.new.ensures)
