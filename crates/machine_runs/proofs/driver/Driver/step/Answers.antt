use Rattle.std.proofs.Common.{sym}
use Rattle.repl_core.specs.Steps.{step_view, step_answer_view}
use Rattle.machine_runs.specs.AllWalks.{walks_at}
use Rattle.machine_runs.proofs.Walking.{all-walked}
use Rattle.machine_runs.proofs.driver.Driver.step.Goals as goal

pub returns-in-Ok-clause-done : goal.returns-in-Ok-clause-done
returns-in-Ok-clause-done c = λ g w s.
    let did = c.in-Ok.ensures.done g w s.right s.machine in
    record {
      after = did.after;
      answer = step_answer_view c.in-Ok.answer;
      accepted = did.accepted;
      gives = sym c.reply_in.ensures;
      stands = record {
        right = s.right;
        ground = s.ground;
        machine = did.stands;
        walked = all-walked g w did.after (step_view c.args.step) _
            (walks_at c.args.self.now.kept) c.requires did.accepted s.walked;
      };
    }

pub returns-in-Err-clause-refused : goal.returns-in-Err-clause-refused
returns-in-Err-clause-refused c = λ g w s ne.
    let told = c.in-Err.ensures.refused g w s.right s.machine in
    record {
      refused = told.refused ne;
      stands = record {
        right = s.right;
        ground = s.ground;
        machine = told.stands;
        walked = s.walked;
      };
    }
