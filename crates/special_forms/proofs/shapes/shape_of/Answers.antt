use Rattle.special_forms.proofs.Sizes.{if_ok-sized}
use Rattle.special_forms.proofs.shapes.shape_of.Goals as goal

pub returns-clause-size : goal.returns-clause-size
returns-clause-size c = if_ok-sized c.args.special _ _ c.parts_of.ensures
