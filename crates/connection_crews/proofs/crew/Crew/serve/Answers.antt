use denote.Param.{param}
use Rattle.connection_crews.proofs.Sends.{thread_send}
use Rattle.connection_crews.proofs.crew.Crew.serve.Goals as goal

pub join-writer-requires-send-F : goal.join-writer-requires-send-F
join-writer-requires-send-F g c κs within =
    thread_send (param 0 g.row.L) g.L.Ledger c.type_bounds.send-L (param 1 g.row.N) g.N.Naming
    c.type_bounds.send-N _ _ _ _ _ g.row.R (param 2 g.row.G) c.type_bounds.sync-R c.type_bounds.sync-G
