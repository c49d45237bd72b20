use denote.Exit.{no}
use denote.Param.{param}
use denote.Param.Send.{param_send, arg_send}
use Rattle.std.specs.Prelude.{codes}
use Rattle.connection_crews.proofs.Sends.{crew_send, captures-3, post_send}
use Rattle.connection_crews.proofs.serving.begin.Goals as goal

pub spawn-requires-send-F : goal.spawn-requires-send-F
spawn-requires-send-F g c κs within =
    let bounds = c.type_bounds in
    param_send 1 _ (arg_send _ no _ (captures-3 (codes
    "connection_crews::serving::fn::begin::job+Self") _ _ _
    (crew_send (param 0 g.row.L) g.L.Ledger bounds.send-L (param 1 g.row.N) g.N.Naming bounds.send-N
    (param 3 g.row.G) bounds.send-G bounds.sync-G)
    bounds.send-R post_send))
