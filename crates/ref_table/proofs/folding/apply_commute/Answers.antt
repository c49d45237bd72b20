use Rattle.std.proofs.Common.{◌∷◌, map, ap, ◌∙◌, subst}
use Rattle.value_data.specs.Inside.View.{view}
use Rattle.core_functions.specs.ApplyOutcome.{bounded_outcome}
use Rattle.core_functions.specs.Meaning.{meaning}
use Rattle.core_functions.specs.Inside.View.{FailsIn}
use Rattle.ref_table.proofs.Commuting.{applied-fails, given-err}
use Rattle.ref_table.proofs.folding.apply_commute.Goals as goal

pub returns-in_err-apply-in_default : goal.returns-in_err-apply-in_default
returns-in_err-apply-in_default c =
    let function = c.args.commute.now.function in
    let error = c.in_err-apply-in_default.field-0.0 in
    let values = ap (map view) c.deref-in_default.ensures.value ∙ c.in_ok-values-in_default.ensures
    ∙ ap (λ vs. view c.args.value ∷ map view vs) c.deref.ensures.value in
    given-err view c.from_residual-in_err-apply-in_default.result error _
    c.from_residual-in_err-apply-in_default.ensures.1
    (applied-fails function _ error c.in_default.not-Print
    (subst (λ vs. FailsIn (bounded_outcome (meaning function vs)) error) values
    c.in_err-apply-in_default.ensures))
