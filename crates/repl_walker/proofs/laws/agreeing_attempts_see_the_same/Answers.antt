use Rattle.repl_walker.proofs.Agreeing.{attempts-agree}
use Rattle.repl_walker.proofs.laws.agreeing_attempts_see_the_same.Goals as goal

pub returns : goal.returns
returns c = attempts-agree
