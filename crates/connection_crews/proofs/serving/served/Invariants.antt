use Rattle.std.proofs.Common.{◌≡◌, true, vec_len}
use Rattle.crossbeam_channel.specs.Claims.{view, IsSeatAt}
use Rattle.crossbeam_channel.specs.Ends.{sends_on, receives_on}
use Rattle.connection_waits.specs.Numbers.{hand}
use Rattle.connection_crews.proofs.serving.served.Given as goal

abbrev pub invariant-loop-i : goal.invariant-loop-i
invariant-loop-i g l = IsSeatAt (sends_on l.feed) l.own × (view l.own ≡ hand true 0)
    × (receives_on l.from ≡ sends_on l.feed)

abbrev pub decreases-loop-crew : goal.decreases-loop-crew
decreases-loop-crew g l = vec_len l.running
