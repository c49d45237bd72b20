use Rattle.repl_walker.proofs.Leading.{leads-as-tree_after}
use Rattle.repl_walker.proofs.laws.exchanges_lead_to_what_comes_after.Goals as goal

pub returns : goal.returns
returns c = leads-as-tree_after
