use Rattle.special_forms.proofs.Places.{unbound-keeps}
use Rattle.special_forms.proofs.locals.Locals.unbind.Goals as goal

pub invariant_of-self-2 : goal.invariant_of-self-2
invariant_of-self-2 c =
    unbound-keeps c.self.inside.locals.items c.pop_front.new.self.items c.in-Some.newest c.self.inside.index c.forget.new.index c.in-Some.ensures.items
    c.self.invariant c.forget.ensures
