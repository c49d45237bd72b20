use Rattle.std.proofs.Common.{arith}
use Rattle.special_forms.proofs.Places.{bound-at}
use Rattle.special_forms.proofs.lookup.value_at.Goals as goal

pub returns : goal.returns
returns c s e = bound-at c.args.locals.now.items s c.args.place _ _ e (omega (arith, c.requires)) c.index.ensures
