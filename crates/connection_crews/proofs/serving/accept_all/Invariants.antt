use Rattle.std.proofs.Common.{◌≡◌, true}
use Rattle.crossbeam_channel.specs.Claims.{view, IsSeatAt}
use Rattle.crossbeam_channel.specs.Ends.{sends_on}
use Rattle.connection_waits.specs.Numbers.{hand}
use Rattle.connection_crews.proofs.serving.accept_all.Given as goal

abbrev pub invariant-loop-number : goal.invariant-loop-number
invariant-loop-number g l = IsSeatAt (sends_on l.feed) l.own × (view l.own ≡ hand true l.number)
