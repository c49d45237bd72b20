use Rattle.std.proofs.Common.{rules, ◌∷◌, ◌∙◌, ap, List}
use Rattle.special_forms.specs.declared.local.Local.{Local}
use Rattle.special_forms.proofs.Places.{bound-keeps}
use Rattle.special_forms.proofs.locals.Locals.bind.Goals as goal

pub invariant_of-self-2 : goal.invariant_of-self-2
invariant_of-self-2 c =
    let l : Local = record { name = c.args.name; value = c.args.value; older = c.in_ok-older.older } in
    bound-keeps c.self.inside.locals.items c.push_front_reserved.new.self.items l c.self.inside.index c.insert.new.self c.in_ok-key.key c.len-place.result
    (c.push_front_reserved.ensures.items ∙ ap (λ (ls : List Local). l ∷ ls) c.in_ok-reserve.ensures.items)
    c.in_ok-key.ensures (search rules) c.in_ok-older.ensures.old c.self.invariant c.in_ok-older.ensures.updates
