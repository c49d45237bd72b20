use Rattle.std.proofs.Common.{◌≡◌, true, subst, sym, ap}
use Rattle.value_data.specs.Datum.{Datum}
use Rattle.value_data.specs.Inside.View.{view}
use Rattle.value_data.specs.Same.{same}
use Rattle.repl_values.specs.Print.{print}
use Rattle.value_data.proofs.Equivalence.{same-refl}
use Rattle.repl_values.proofs.laws.copy_is_same.Goals as goal

pub returns-clause-equal : goal.returns-clause-equal
returns-clause-equal c =
    subst (λ (d : Datum). same d (view c.args.value.now) ≡ true) (sym c.requires) (same-refl (view c.args.value.now))

pub returns-clause-printed : goal.returns-clause-printed
returns-clause-printed c = ap print c.requires
