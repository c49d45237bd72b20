use Rattle.repl_walker.proofs.Standing.{goes-on, stays-left}
use Rattle.repl_walker.proofs.laws.a_body_goes_on_from_where_it_stands.Goals as goal

pub returns-clause-goes_on : goal.returns-clause-goes_on
returns-clause-goes_on c = goes-on

pub returns-clause-stays : goal.returns-clause-stays
returns-clause-stays c = stays-left
