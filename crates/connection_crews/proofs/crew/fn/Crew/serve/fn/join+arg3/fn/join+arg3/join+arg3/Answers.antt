use denote.Param.{param}
use denote.Param.Send.{param_send, param_sync}
use Rattle.connection_crews.proofs.Sends.{thread_send}
use Rattle.connection_crews.proofs.crew.fn.Crew.serve.fn.join+arg3.fn.join+arg3.join+arg3.Goals as goal

pub join-requires-send-F : goal.join-requires-send-F
join-requires-send-F g c κs within =
    let bounds = c.requires.1.1.1.1 in
    thread_send (param 0 g.row.L) g.L.Ledger (param_send 0 _ bounds.0) (param 1 g.row.N) g.N.Naming
    (param_send 1 _ bounds.1) _ _ _ _ _ g.row.R (param 2 g.row.G)
    (param_sync 3 _ bounds.6) (param_sync 2 _ bounds.5)
