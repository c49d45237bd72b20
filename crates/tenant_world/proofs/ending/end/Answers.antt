use Rattle.std.proofs.Common.{refl}
use Rattle.tenant_parts.specs.View.{actor_view}
use Rattle.tenant_world.specs.Answers.{told_ending}
use Rattle.tenant_world.proofs.Ends.{declined-compared}
use Rattle.tenant_world.proofs.ending.end.Goals as goal

pub returns-in_err-compare_if_due-clause-declined : goal.returns-in_err-compare_if_due-clause-declined
returns-in_err-compare_if_due-clause-declined c = λ g q s right r reaches.
    declined-compared g s c.args.actor (actor_view c.args.state.now) (told_ending c.args.ending.now) q
    c.args.memory.now c.args.attempts.now c.in_err-compare_if_due.field-0.0 c.from_residual.result
    c.from_residual.ensures.1 (c.in_err-compare_if_due.ensures.failed g s.tenant q right r) r reaches

pub returns-clause-acted : goal.returns-clause-acted
returns-clause-acted c = λ g q s right r reaches.
    c.finish.ensures.acted g q s (told_ending c.args.ending.now) refl
    (c.in_ok-compare_if_due.ensures.passed g s.tenant q right r) r reaches

pub returns-clause-no_memory : goal.returns-clause-no_memory
returns-clause-no_memory c = λ g q s right r none.
    c.finish.ensures.no_memory g q s (told_ending c.args.ending.now)
    (c.in_ok-compare_if_due.ensures.passed g s.tenant q right r) r none
