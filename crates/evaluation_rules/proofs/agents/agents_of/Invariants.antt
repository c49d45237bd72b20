use Rattle.std.proofs.Common.{◌≡◌, drop}
use Rattle.value_data.specs.Inside.View.{views}
use Rattle.evaluation_rules.specs.Calling.{agents_in}
use Rattle.evaluation_rules.proofs.Awaited.{behind}
use Rattle.evaluation_rules.proofs.agents.agents_of.Given as goal

-- the numbers so far, and those of the agents that are left, are those of all
abbrev pub invariant-loop-target : goal.invariant-loop-target
invariant-loop-target l =
    behind l.numbers.items (drop l.target-index l.targets) ≡ agents_in (views l.targets)
