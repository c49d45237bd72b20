use Rattle.std.proofs.Common.{List, refl, sym, ap, ◌∙◌, arith}
use Rattle.std.proofs.Common.{length, Some}
use Rattle.repl_values.specs.Inside.FaultView.{failure_of}
use Rattle.private_cells.specs.Agents.{AgentData}
use Rattle.private_cells.specs.Inside.Seen.{cells_view}
use Rattle.private_cells.specs.Inside.Changes.{with_fault}
use Rattle.private_cells.specs.Inside.Kept.{waiting_at, count_from, runs_at}
use Rattle.private_cells.proofs.Keeping.{waiting_kept, runs_over, over_none, over_one}
use Rattle.private_cells.proofs.Quieting.{none_alone, one_alone}
use Rattle.private_cells.proofs.agents.Agents.fail.Goals as goal

pub returns-in_default-clause-failed : goal.returns-in_default-clause-failed
returns-in_default-clause-failed c =
    let self = c.args.self.now in
    let agents = cells_view self.cells.items in
    let over = over_none (λ a. record a { fault = Some (failure_of c.args.fault) }) agents
    (none_alone self.running agents self.alone c.in_default.is) in
    ap (λ (now : List AgentData). record { agents = now; sent = self.sent }) (sym over)

pub invariant_of-self : goal.invariant_of-self
invariant_of-self c =
    let self = c.args.self.now in
    let old = cells_view self.cells.items in
    let number = c.in-Some.number in
    let one = one_alone self.running number old self.alone c.in-Some.is in
    let seen = c.fail_at.ensures.over in
    record {
      turns_kept = λ f.
          let there = self.turns_kept f in
          let opened = c.fail_at.ensures.opened f in
          omega (arith, there, opened);
      turns_fit =
          let same = c.fail_at.ensures.len in
          omega (arith, same, self.turns_fit);
      counted = λ q. self.counted q
          ∙ sym (ap (count_from q.session) (waiting_kept (with_fault (failure_of c.args.fault))
          (λ a. refl) number q.agent old))
          ∙ sym (ap (λ ys. count_from q.session (waiting_at q.agent ys)) seen);
      alone = λ i. ap (runs_at i) seen ∙ runs_over (with_fault (failure_of c.args.fault))
          (λ a. refl) number i old one;
      short = λ i.
          let now = ap (λ ys. length (waiting_at i ys)) seen in
          let same = ap length (waiting_kept (with_fault (failure_of c.args.fault)) (λ a. refl)
          number i old) in
          let before = self.short i in
          omega (arith, now, same, before);
      fits = self.fits;
    }

pub returns-clause-failed : goal.returns-clause-failed
returns-clause-failed c =
    let self = c.args.self.now in
    let old = cells_view self.cells.items in
    let number = c.in-Some.number in
    let one = one_alone self.running number old self.alone c.in-Some.is in
    let over = over_one (λ a. record a { fault = Some (failure_of c.args.fault) }) number old one in
    ap (λ (now : List AgentData). record { agents = now; sent = self.sent })
    (c.fail_at.ensures.over ∙ sym over)
