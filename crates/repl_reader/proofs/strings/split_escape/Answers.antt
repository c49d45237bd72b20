use Rattle.repl_reader.proofs.Quoted.{no_escape_empty}
use Rattle.repl_reader.proofs.strings.split_escape.Goals as goal

pub returns-in_default-clause-same : goal.returns-in_default-clause-same
returns-in_default-clause-same c = no_escape_empty c.args.text.now (rw c.as_bytes.ensures.value at c.in_default.len_below)
