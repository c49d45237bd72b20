use Rattle.std.proofs.Common.{sym, ap, ◌∙◌, arith}
use Rattle.std.proofs.Common.{length}
use Rattle.std.proofs.lemmas.List.{length-map}
use Rattle.std.specs.BinaryHeap.{heap_items}
use Rattle.value_data.specs.Inside.View.{view}
use Rattle.private_cells.specs.Agents.{restarted}
use Rattle.private_cells.specs.Inside.Seen.{cells_view, cell_view}
use Rattle.private_cells.specs.Inside.Kept.{waiting_at, count_from, runs_at}
use Rattle.private_cells.proofs.Keeping.{waiting_kept, runs_kept}
use Rattle.private_cells.proofs.Heaping.{room_to_open, turns_opened}
use Rattle.private_cells.proofs.Quieting.{restarted_waiting, restarted_running}
use Rattle.private_cells.proofs.agents.Agents.restart.Goals as goal

pub open-requires : goal.open-requires
open-requires c =
    let self = c.args.self.now in
    let same = c.restart_at-first.ensures.len in
    room_to_open (heap_items self.turns.heap) (cells_view self.cells.items)
    (cells_view c.restart_at-first.new.cells.items) c.args.number _ _ c.restart_at-first.result
    self.turns_kept c.restart_at-first.ensures.opened (self.turns.heap.data.ok.0)
    (omega (arith, length-map c.restart_at-first.new.cells.items cell_view, same, self.turns_fit))

pub invariant_of-self : goal.invariant_of-self
invariant_of-self c =
    let self = c.args.self.now in
    let old = cells_view self.cells.items in
    let number = c.args.number in
    let seen = c.restart_at-first.ensures.restarted in
    record {
      turns_kept = turns_opened (heap_items self.turns.heap) (heap_items c.open.new.self.heap) old
          (cells_view c.restart_at-first.new.cells.items) number c.restart_at-first.result
          self.turns_kept c.restart_at-first.ensures.opened c.open.ensures.opened;
      turns_fit =
          let same = c.restart_at-first.ensures.len in
          let room = c.open.ensures.room in
          omega (arith, same, room, self.turns_fit);
      counted = λ q. self.counted q
          ∙ sym (ap (count_from q.session) (waiting_kept (restarted (view c.args.state))
          (restarted_waiting (view c.args.state)) number q.agent old))
          ∙ sym (ap (λ ys. count_from q.session (waiting_at q.agent ys)) seen);
      alone = λ i. ap (runs_at i) seen
          ∙ runs_kept (restarted (view c.args.state)) (restarted_running (view c.args.state))
          number i old ∙ self.alone i;
      short = λ i.
          let now = ap (λ ys. length (waiting_at i ys)) seen in
          let same = ap length (waiting_kept (restarted (view c.args.state))
          (restarted_waiting (view c.args.state)) number i old) in
          let before = self.short i in
          omega (arith, now, same, before);
      fits = self.fits;
    }
