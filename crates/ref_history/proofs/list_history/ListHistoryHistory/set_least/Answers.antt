use Rattle.std.proofs.Common.{ap}
use Rattle.ref_history.specs.Versioned.{with_least}
use Rattle.ref_history.proofs.Placed.{changed-place}
use Rattle.ref_history.specs.declared.ref_id.Bounds.{Bounds}
use Rattle.ref_history.proofs.list_history.ListHistoryHistory.set_least.Goals as goal

pub returns-in-Some : goal.returns-in-Some
returns-in-Some c =
    let kept = c.in-Some.kept.now in
    changed-place c.args.self.now.refs c.args.id kept
    (record kept { bounds = record kept.bounds { least = c.args.least } }) (with_least c.args.least)
    c.in-Some.ensures.value
    (λ r s. record {
      versions = s.versions;
      many = s.many;
      faults = s.faults;
      bounds = ap (λ (bounds : Bounds). record bounds { least = c.args.least }) s.bounds;
    })
