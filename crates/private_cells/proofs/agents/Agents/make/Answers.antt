use Rattle.std.proofs.Common.{◌≡◌, ◌++◌, ◌∷◌, [], sym, ap, ◌∙◌, arith, length, length-append}
use Rattle.value_data.specs.Inside.View.{view}
use Rattle.private_cells.specs.Agents.{at_rest}
use Rattle.private_cells.specs.Inside.Seen.{cells_view, cell_view}
use Rattle.private_cells.specs.Inside.Turns.{open_sum, heap_sum}
use Rattle.private_cells.specs.Inside.Kept.{waiting_at, count_from, runs_at}
use Rattle.private_cells.proofs.Changing.{map_push}
use Rattle.private_cells.proofs.Keeping.{turns_made, waiting_made, runs_made}
use Rattle.private_cells.proofs.agents.Agents.make.Goals as goal

pub invariant_of-self-2 : goal.invariant_of-self-2
invariant_of-self-2 c =
    let self = c.args.self.now in
    let old = cells_view self.cells.items in
    let d = view c.args.state in
    let items = c.put.ensures.items
    ∙ ap (λ xs. xs ++ c.new.result ∷ []) c.reserve.ensures.items in
    let seen : cells_view c.put.new.self.items ≡ old ++ at_rest d ∷ [] =
    ap cells_view items ∙ map_push cell_view c.new.result self.cells.items
    ∙ ap (λ a. old ++ a ∷ []) c.new.ensures in
    record {
      turns_kept = λ f. ap (heap_sum f) c.reserve-2.ensures.same ∙ self.turns_kept f
          ∙ sym (turns_made d f 0 old) ∙ sym (ap (open_sum f 0) seen);
      turns_fit =
          let longer = ap length items in
          let one = length-append self.cells.items (c.new.result ∷ []) in
          omega (arith, longer, one, c.in_ok-reserve-2.ensures);
      counted = λ q. self.counted q ∙ sym (ap (count_from q.session) (waiting_made d q.agent old))
          ∙ sym (ap (λ xs. count_from q.session (waiting_at q.agent xs)) seen);
      alone = λ i. ap (runs_at i) seen ∙ runs_made d i old ∙ self.alone i;
      short = λ i.
          let now = ap (λ xs. length (waiting_at i xs)) seen in
          let before = ap length (waiting_made d i old) in
          let kept = self.short i in
          omega (arith, now, before, kept);
      fits = self.fits;
    }
