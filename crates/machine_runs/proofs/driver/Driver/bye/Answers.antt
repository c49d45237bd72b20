use Rattle.std.proofs.Common.{sym, subst}
use Rattle.repl_core.specs.Standing.{open_in}
use Rattle.machine_runs.specs.AllWalks.{walks_at, IsWalkedAt}
use Rattle.machine_runs.proofs.Walking.{walked-still}
use Rattle.machine_runs.proofs.driver.Driver.bye.Goals as goal

pub returns-clause-done : goal.returns-clause-done
returns-clause-done c = λ g w s.
    let did = c.in_ok-nothing.ensures.done g w s in
    record {
      after = did.after;
      answer = did.answer;
      accepted = did.accepted;
      gives = did.gives;
      stands = record {
        right = did.stands.right;
        ground = did.stands.ground;
        machine = did.stands.machine;
        walked = walked-still did.after c.args.number (walks_at c.step.new.self.kept)
            (walks_at c.forget.new.self)
            (subst (λ o. IsWalkedAt o (open_in c.args.number did.after)) (sym c.forget.ensures.gone) tt)
            c.forget.ensures.others did.stands.walked;
      };
    }
