use Rattle.repl_core.proofs.machine.Machine.close_whole.Goals as goal

pub returns-clause-done : goal.returns-clause-done
returns-clause-done c = λ g w s.
    let it = c.in_ok-close.ensures.done g w s in
    record {
      after = it.after;
      accepted = it.accepted;
      stands = c.drop_departed-is_more.ensures g it.after it.stands;
    }
