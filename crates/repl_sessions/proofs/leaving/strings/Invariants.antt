use Rattle.std.proofs.Common.{◌≡◌, map, string_bytes}
use Rattle.std.specs.BTreeSet.{keys}
use Rattle.repl_sessions.specs.Ids.{id_text}
use Rattle.repl_sessions.specs.Inside.Leaving.{without_leaving}
use Rattle.repl_sessions.proofs.leaving.strings.Given as goal

abbrev pub invariant-loop-number : goal.invariant-loop-number
invariant-loop-number l =
    map string_bytes l.texts.items ≡ map (id_text l.ids) (without_leaving (keys l.leaving) (map (λ n. n.now) l.yielded))
