use Rattle.repl_core.proofs.HonestTraces.{honest-forms}
use Rattle.repl_core.proofs.laws.honest_forms_ask_as_evaluated.Goals as goal

pub returns : goal.returns
returns c = honest-forms
