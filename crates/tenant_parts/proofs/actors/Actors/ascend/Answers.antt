use Rattle.tenant_parts.proofs.Finding.{ascend-from}
use Rattle.tenant_parts.proofs.actors.Actors.ascend.Goals as goal

pub returns : goal.returns
returns c = ascend-from c.args.self.now.live.entries c.len-count.ensures.ordered
