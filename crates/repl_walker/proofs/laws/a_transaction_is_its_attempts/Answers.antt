use Rattle.std.proofs.Common.{[]}
use Rattle.evaluation_rules.specs.Transactions.{after_body, attempts}
use Rattle.repl_walker.proofs.Attempts.{divides}
use Rattle.repl_walker.proofs.laws.a_transaction_is_its_attempts.Goals as goal

pub returns : goal.returns
returns c = λ more body next last text exchange trace end leads.
    (leads.0, divides (after_body (attempts more body next) next) body text [] trace end leads.1)
