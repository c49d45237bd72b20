use Rattle.walker_state.proofs.Noting.{asked-outside}
use Rattle.walker_state.proofs.refs.read.Goals as goal

pub returns-in-None-clause-meaning : goal.returns-in-None-clause-meaning
returns-in-None-clause-meaning c = asked-outside c.args.state.now c.args.name c.in-None.is
