use Rattle.value_data.specs.Inside.View.{view}
use Rattle.repl_walker.proofs.Beginning.{begun-shared}
use Rattle.repl_walker.proofs.work.begin_shared_form.Goals as goal

pub returns-clause-meaning : goal.returns-clause-meaning
returns-clause-meaning c = λ s placed.
    begun-shared (view c.args.form.now) (view c.in_ok-copy.field-0) s c.if-not-is_definition.ensures
    c.in_ok-copy.ensures placed
