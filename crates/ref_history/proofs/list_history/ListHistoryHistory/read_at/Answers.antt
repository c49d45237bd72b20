use Rattle.std.proofs.Common.{refl, sym, ◌∙◌, subst, IsSome}
use Rattle.value_data.specs.Inside.View.{view}
use Rattle.ref_history.specs.Versioned.{with_failed_read}
use Rattle.ref_history.proofs.Placed.{changed-place, stands-kept, not-absent, put-back, on_some}
use Rattle.ref_history.proofs.list_history.ListHistoryHistory.read_at.Goals as goal

pub returns-in_default : goal.returns-in_default
returns-in_default c =
    let was = c.args.self.now.refs in
    let kept = c.in_ok-kept.kept.now in
    let here = c.in_ok-kept.ensures.value in (
      (
        refl,
        λ _. tt,
        changed-place was c.args.id kept c.fault.new.self with_failed_read here c.fault.ensures,
      ),
      record {
        noted = tt;
        value = λ r s. c.in_default.ensures.value r (stands-kept was c.args.id kept r here s);
        absent = λ none. refl;
      },
    )

pub returns : goal.returns
returns c =
    let was = c.args.self.now.refs in
    let kept = c.in_ok-kept.kept.now in
    let here = c.in_ok-kept.ensures.value in
    let there = subst IsSome (sym c.content_at.ensures) c.in-Some.ensures.kept in (
      (
        refl,
        λ _. tt,
        on_some _ (λ v. view v.now) c.content_at.result there (put-back was c.args.id kept here),
      ),
      record {
        noted = tt;
        value = λ r s.
            c.content_at.ensures
            ∙ c.in-Some.ensures.value r (stands-kept was c.args.id kept r here s);
        absent = λ none. absurd (not-absent was c.args.id kept here none);
      },
    )
