use Rattle.std.proofs.Common.{subst, sym}
use Rattle.server_rules.specs.Machine.World.{opened_world}
use Rattle.repl_core.specs.Standing.{open_in}
use Rattle.machine_runs.specs.AllWalks.{IsWalkedAt}
use Rattle.machine_runs.proofs.driver.Driver.new.Goals as goal

pub returns-clause-stands : goal.returns-clause-stands
returns-clause-stands c = λ g it. record {
  right = it.right;
  ground = it.evaluates;
  machine = c.in_ok-machine.ensures.stands g it;
  walked = λ t. subst (λ o. IsWalkedAt o (open_in t (opened_world g))) (sym (c.new-kept.ensures t)) tt;
}
