use Rattle.std.proofs.Common.{rules}
use Rattle.repl_sessions.specs.Ids.{id_text}
use Rattle.repl_sessions.proofs.ids.IdStream.string.Goals as goal

pub returns : goal.returns
unfolding id_text
returns c = search rules
