use Rattle.std.proofs.Common.{ap}
use Rattle.ref_history.specs.Versioned.{with_most}
use Rattle.ref_history.proofs.Placed.{changed-place}
use Rattle.ref_history.specs.declared.ref_id.Bounds.{Bounds}
use Rattle.ref_history.proofs.list_history.ListHistoryHistory.set_most.Goals as goal

pub returns-in-Some : goal.returns-in-Some
returns-in-Some c =
    let kept = c.in-Some.kept.now in
    changed-place c.args.self.now.refs c.args.id kept
    (record kept { bounds = record kept.bounds { most = c.args.most } }) (with_most c.args.most)
    c.in-Some.ensures.value
    (λ r s. record {
      versions = s.versions;
      many = s.many;
      faults = s.faults;
      bounds = ap (λ (bounds : Bounds). record bounds { most = c.args.most }) s.bounds;
    })
