use Rattle.server_rules.proofs.Computing.{other-trace-is-refused}
use Rattle.server_rules.proofs.examples.other_trace_is_refused.Goals as goal

pub returns : goal.returns
returns c = other-trace-is-refused
