use Rattle.std.proofs.Common.{◌≡◌, Some, map, sym, ◌∙◌, arith}
use Rattle.std.specs.Arc.{arc_str_bytes}
use Rattle.special_forms.specs.Inside.Naming.{local_view, newest_place}
use Rattle.special_forms.proofs.Places.{place-below, length-views}
use Rattle.special_forms.proofs.locals.Locals.value.Goals as goal

pub value_at-requires : goal.value_at-requires
value_at-requires c =
    let at : newest_place (map local_view c.self.inside.locals.items) (arc_str_bytes c.args.name.now) ≡ Some c.in-Some.place.now =
    sym (c.self.invariant.1 c.args.name.now) ∙ sym c.in-Some.ensures.value
    in omega (arith, place-below (map local_view c.self.inside.locals.items) (arc_str_bytes c.args.name.now) c.in-Some.place.now at, length-views c.self.inside.locals.items)
