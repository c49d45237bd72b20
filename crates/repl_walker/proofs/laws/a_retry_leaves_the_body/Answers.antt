use Rattle.repl_walker.proofs.Leaving.{retries-leave}
use Rattle.repl_walker.proofs.laws.a_retry_leaves_the_body.Goals as goal

pub returns : goal.returns
returns c = retries-leave
