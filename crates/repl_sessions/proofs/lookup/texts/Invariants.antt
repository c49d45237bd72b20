use Rattle.std.proofs.Common.{◌≡◌, map}
use Rattle.repl_sessions.specs.Ids.{id_text}
use Rattle.repl_sessions.proofs.lookup.texts.Given as goal

abbrev pub invariant-loop-number : goal.invariant-loop-number
invariant-loop-number l = l.texts.items ≡ map (λ n. id_text l.ids n.now) l.yielded
