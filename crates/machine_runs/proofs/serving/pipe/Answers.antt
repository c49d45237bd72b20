use Rattle.repl_values.specs.Inside.FaultView.{failure_of}
use Rattle.machine_runs.proofs.serving.pipe.Goals as goal

pub returns-clause-served : goal.returns-clause-served
returns-clause-served g c =
    let did = c.serve_first.ensures in
    record {
      served = did.served;
      prompt = did.prompt;
      passed = did.passed;
      told = did.told;
      fault = λ fault is. (failure_of fault, did.fault fault is);
      grounded = did.grounded;
      unserved = did.unserved;
    }
