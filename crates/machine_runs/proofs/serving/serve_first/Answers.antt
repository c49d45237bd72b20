use Rattle.server_rules.specs.LoneTurns.{opened_lone}
use Rattle.nrepl_pipe.proofs.Reading.{passed-none}
use Rattle.machine_runs.proofs.Beginning.{moves-none}
use Rattle.machine_runs.proofs.serving.serve_first.Goals as goal

pub returns-in-Err-Fault-clause-served : goal.returns-in-Err-Fault-clause-served
returns-in-Err-Fault-clause-served g c = λ h it. moves-none h (opened_lone h) _ _

pub returns-in-Err-Fault-clause-passed : goal.returns-in-Err-Fault-clause-passed
returns-in-Err-Fault-clause-passed g c = λ was. (passed-none _, tt)

pub returns-clause-served : goal.returns-clause-served
returns-clause-served g c = λ h it. moves-none h (opened_lone h) _ _

pub returns-clause-passed : goal.returns-clause-passed
returns-clause-passed g c = λ was. (passed-none _, tt)
