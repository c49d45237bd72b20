use Rattle.std.proofs.Common.{subst, sym}
use Rattle.machine_runs.specs.AllWalks.{IsWalkedAt}
use Rattle.repl_core.proofs.GoingOn.{fresh-walked}
use Rattle.machine_runs.proofs.all_walks.AllWalks.take.Goals as goal

pub returns-in-Some-clause-walked : goal.returns-in-Some-clause-walked
returns-in-Some-clause-walked c = λ o walked.
    subst (λ it. IsWalkedAt it o) (sym c.in-Some.ensures.value) walked

pub returns-in-None-clause-walked : goal.returns-in-None-clause-walked
returns-in-None-clause-walked c = λ o walked. fresh-walked c.new.result o c.new.ensures
