use Rattle.std.proofs.Common.{refl, sym}
use Rattle.tenant_world.proofs.Lent.{lent-busy}
use Rattle.tenant_world.proofs.lending.lend.Goals as goal

pub get_mut-requires : goal.get_mut-requires
get_mut-requires c = lent-busy c.args.actor _ _ c.in_ok-check.ensures.told

pub returns : goal.returns
returns c = (
  (refl, λ w is. c.get_mut.follows.holds w, tt),
  record {
    writes_back = tt;
    lent = sym c.in-Some.ensures.value;
    some = c.in_ok-check.ensures.some;
    refused = c.in_ok-check.ensures.told;
    held = λ e. absurd (cc);
    free = λ e. absurd (cc);
  },
)
