use Rattle.std.proofs.Common.{◌≡◌, true, None, subst}
use Rattle.server_rules.proofs.Parting.{parting, none-alike, equal-none, part-there}
use Rattle.server_rules.proofs.Exchanges.{job, exchange}
use Rattle.server_rules.proofs.laws.exact_comparisons_exist.Goals as goal

pub returns : goal.returns
returns c = (
  record { is_same_job = job.same; difference = parting exchange },
  record {
    same_job = λ j k. (job.sound j k, λ e. subst (λ x. job.same j x ≡ true) e (job.alike j));
    no_difference = λ xs ys. (
      equal-none exchange xs ys,
      λ e. subst (λ zs. parting exchange xs zs ≡ None) e (none-alike exchange xs),
    );
    first_difference = λ xs ys place e. let at = part-there exchange xs ys place e in
        record { equal_before = at.before; unequal = at.apart };
  },
)
