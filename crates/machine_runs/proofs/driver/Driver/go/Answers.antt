use Rattle.std.proofs.Common.{sym, subst, ◌∙◌}
use Rattle.repl_core.specs.Standing.{open_in}
use Rattle.machine_runs.specs.AllWalks.{walks_at, IsWalkedAt}
use Rattle.machine_runs.proofs.Giving.{goes-give}
use Rattle.machine_runs.proofs.Walking.{walked-with, walked-still}
use Rattle.machine_runs.proofs.driver.Driver.go.Goals as goal

pub returns-in-Ok-clause-done : goal.returns-in-Ok-clause-done
returns-in-Ok-clause-done c = λ g w s.
    let t = c.args.number in
    let it = c.in-Ok.ensures.done g w s.right s.ground s.machine
    (c.take-walks.ensures.walked (open_in t w) (s.walked t)) in
    record {
      after = it.after;
      answer = it.answer;
      accepted = it.accepted;
      gives = goes-give g w it.after t c.args.actor it.answer it.accepted;
      stands = record {
        right = s.right;
        ground = s.ground;
        machine = it.stands;
        walked = walked-with g w it.after t _ it.answer (walks_at c.args.self.now.kept)
            (walks_at c.put.new.self) it.accepted
            (subst (λ o. IsWalkedAt o (open_in t it.after)) (sym c.in_ok-put.ensures.put) it.walked)
            (λ u apart. c.in_ok-put.ensures.others u apart ∙ c.take-walks.ensures.others u apart)
            s.walked;
      };
    }

pub returns-in-Err-clause-refused : goal.returns-in-Err-clause-refused
returns-in-Err-clause-refused c = λ g w s ne.
    let t = c.args.number in
    let it = c.in-Err.ensures.refused g w s.right s.ground s.machine
    (c.take-walks.ensures.walked (open_in t w) (s.walked t)) in
    record {
      refused = it.refused ne;
      stands = record {
        right = s.right;
        ground = s.ground;
        machine = it.stands;
        walked = walked-still w t (walks_at c.args.self.now.kept) (walks_at c.put.new.self)
            (subst (λ o. IsWalkedAt o (open_in t w)) (sym c.in_ok-put.ensures.put) it.walked)
            (λ u apart. c.in_ok-put.ensures.others u apart ∙ c.take-walks.ensures.others u apart)
            s.walked;
      };
    }
