use Rattle.std.proofs.Common.{◌∷◌, [], ◌+◌, List, map, refl, sym, ap, ◌∙◌, arith, length}
use Rattle.std.proofs.Common.{if◌then◌else◌, length-drop}
use Rattle.std.proofs.lemmas.List.{length-map}
use Rattle.std.specs.BinaryHeap.{heap_items}
use Rattle.repl_values.specs.Places.{changed_at}
use Rattle.private_cells.specs.Agents.{AgentData, SentAction, with_waiting}
use Rattle.private_cells.specs.Inside.Seen.{cells_view, cell_view, sent_view, action_view}
use Rattle.private_cells.specs.Inside.Sender.{same_sender}
use Rattle.private_cells.specs.Inside.Changes.{with_these}
use Rattle.private_cells.specs.Inside.Kept.{waiting_at, count_from, runs_at}
use Rattle.private_cells.proofs.Changing.{changed_none}
use Rattle.private_cells.proofs.Keeping.{count_sent, count_short, length_sent, runs_kept}
use Rattle.private_cells.proofs.Heaping.{room_to_open, turns_opened}
use Rattle.private_cells.proofs.agents.Agents.send.Goals as goal

pub returns-then-number-len-clause-sent : goal.returns-then-number-len-clause-sent
returns-then-number-len-clause-sent c =
    let self = c.args.self.now in
    let x : SentAction = record { number = self.sent; action = action_view c.args.action } in
    ap (λ (agents : List AgentData). record { agents = agents; sent = self.sent + 1 })
    (sym (changed_none cell_view (with_waiting x) c.args.number self.cells.items (omega arith)))

pub add-requires-clause-fits : goal.add-requires-clause-fits
add-requires-clause-fits c =
    let self = c.args.self.now in
    let number = c.args.number in
    let session = c.args.action.session in
    let waiting = waiting_at number (cells_view self.cells.items) in
    let all = self.counted (record { agent = number; session = session }) in
    let few = count_short session waiting in
    let short = self.short number in
    let fits = self.fits in
    omega (arith, all, few, short, fits)

pub open-requires : goal.open-requires
open-requires c =
    let self = c.args.self.now in
    let length_kept = c.wait_at-first.ensures.len in
    room_to_open _ (cells_view self.cells.items) (cells_view c.wait_at-first.new.cells.items)
    c.args.number _ _ c.wait_at-first.result self.turns_kept c.wait_at-first.ensures.opened
    (self.turns.heap.data.ok.0)
    (omega (
      arith,
      length-map c.wait_at-first.new.cells.items cell_view,
      length_kept,
      self.turns_fit,
    ))

pub invariant_of-self-2 : goal.invariant_of-self-2
invariant_of-self-2 c =
    let self = c.args.self.now in
    let number = c.args.number in
    let old = cells_view self.cells.items in
    let action = action_view c.args.action in
    let x : SentAction = record { number = self.sent; action = action } in
    let nodes = c.filled-nodes.ensures.filled in
    let seen = c.wait_at-first.ensures.waits
    ∙ ap (λ ns. changed_at number (with_these (map sent_view ns)) old) nodes in
    record {
      turns_kept = turns_opened (heap_items self.turns.heap) (heap_items c.open.new.self.heap) old
          (cells_view c.wait_at-first.new.cells.items) number c.wait_at-first.result self.turns_kept
          c.wait_at-first.ensures.opened c.open.ensures.opened;
      turns_fit =
          let kept = c.wait_at-first.ensures.len in
          let room = c.open.ensures.room in
          omega (arith, kept, room, self.turns_fit);
      counted = λ q.
          let before = count_from q.session (waiting_at q.agent old) in
          c.add.ensures.added q
          ∙ ap (λ n. if same_sender (record { agent = number; session = c.args.action.session }) q
          then n + 1 else n) (self.counted q)
          ∙ sym (count_sent number q.agent q.session x old
          (omega (arith, length-map self.cells.items cell_view)))
          ∙ sym (ap (λ ys. count_from q.session (waiting_at q.agent ys)) seen);
      alone = λ i. ap (runs_at i) seen ∙ runs_kept (with_these (x ∷ [])) (λ a. refl) number i old
          ∙ self.alone i;
      short = λ i.
          let now = ap (λ ys. length (waiting_at i ys)) seen in
          let more = length_sent number i (x ∷ []) old in
          let kept = self.short i in
          omega (arith, now, more, kept);
      fits =
          let rest = ap length c.filled-nodes.ensures.rest in
          let less = length-drop 1 self.spare.nodes in
          let fits = self.fits in
          omega (arith, rest, less, fits);
    }
