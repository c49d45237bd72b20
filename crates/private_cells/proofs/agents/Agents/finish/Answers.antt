use Rattle.std.proofs.Common.{List, refl, sym, ap, ◌∙◌, arith}
use Rattle.std.proofs.Common.{length}
use Rattle.std.proofs.lemmas.List.{length-map}
use Rattle.std.specs.BinaryHeap.{heap_items}
use Rattle.value_data.specs.Inside.View.{view}
use Rattle.private_cells.specs.Agents.{AgentData}
use Rattle.private_cells.specs.Inside.Seen.{cells_view, cell_view}
use Rattle.private_cells.specs.Inside.Changes.{with_agent_state}
use Rattle.private_cells.specs.Inside.Kept.{waiting_at, count_from, runs_at}
use Rattle.private_cells.proofs.Keeping.{waiting_kept, runs_over, over_none, over_one}
use Rattle.private_cells.proofs.Heaping.{room_to_open, turns_opened}
use Rattle.private_cells.proofs.Quieting.{none_alone, one_alone}
use Rattle.private_cells.proofs.agents.Agents.finish.Goals as goal

pub returns-in_default-clause-finished : goal.returns-in_default-clause-finished
returns-in_default-clause-finished c =
    let self = c.args.self.now in
    let agents = cells_view self.cells.items in
    let over = over_none (λ a. record a { state = view c.args.value }) agents
    (none_alone self.running agents self.alone c.in_default.is) in
    ap (λ (now : List AgentData). record { agents = now; sent = self.sent }) (sym over)

pub open-requires : goal.open-requires
open-requires c =
    let self = c.args.self.now in
    let same = c.finish_at-first.ensures.len in
    room_to_open (heap_items self.turns.heap) (cells_view self.cells.items)
    (cells_view c.finish_at-first.new.cells.items) c.in-Some.number _ _ c.finish_at-first.result
    self.turns_kept c.finish_at-first.ensures.opened (self.turns.heap.data.ok.0)
    (omega (arith, length-map c.finish_at-first.new.cells.items cell_view, same, self.turns_fit))

pub invariant_of-self : goal.invariant_of-self
invariant_of-self c =
    let self = c.args.self.now in
    let old = cells_view self.cells.items in
    let number = c.in-Some.number in
    let one = one_alone self.running number old self.alone c.in-Some.is in
    let seen = c.finish_at-first.ensures.over in
    record {
      turns_kept = turns_opened (heap_items self.turns.heap) (heap_items c.open.new.self.heap) old
          (cells_view c.finish_at-first.new.cells.items) number c.finish_at-first.result
          self.turns_kept c.finish_at-first.ensures.opened c.open.ensures.opened;
      turns_fit =
          let same = c.finish_at-first.ensures.len in
          let room = c.open.ensures.room in
          omega (arith, same, room, self.turns_fit);
      counted = λ q. self.counted q
          ∙ sym (ap (count_from q.session) (waiting_kept (with_agent_state (view c.args.value))
          (λ a. refl) number q.agent old))
          ∙ sym (ap (λ ys. count_from q.session (waiting_at q.agent ys)) seen);
      alone = λ i. ap (runs_at i) seen ∙ runs_over (with_agent_state (view c.args.value)) (λ a. refl)
          number i old one;
      short = λ i.
          let now = ap (λ ys. length (waiting_at i ys)) seen in
          let same = ap length (waiting_kept (with_agent_state (view c.args.value)) (λ a. refl) number
          i old) in
          let before = self.short i in
          omega (arith, now, same, before);
      fits = self.fits;
    }

pub returns-clause-finished : goal.returns-clause-finished
returns-clause-finished c =
    let self = c.args.self.now in
    let old = cells_view self.cells.items in
    let number = c.in-Some.number in
    let one = one_alone self.running number old self.alone c.in-Some.is in
    let over = over_one (λ a. record a { state = view c.args.value }) number old one in
    ap (λ (now : List AgentData). record { agents = now; sent = self.sent })
    (c.finish_at-first.ensures.over ∙ sym over)
