use Rattle.repl_walker.proofs.Leading.{trace-pushed}
use Rattle.repl_walker.proofs.resume.with_exchange.Goals as goal

pub returns : goal.returns
returns c = trace-pushed c.args.trace.items c.add.new.trace.items _ _ c.in_ok-add.ensures c.in_ok-of.ensures
