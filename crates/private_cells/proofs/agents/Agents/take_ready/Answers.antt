use Rattle.std.proofs.Common.{◌≡◌, ◌-◌, List, sym, ap, ◌∙◌, arith}
use Rattle.std.proofs.Common.{length, Some, option_map, if◌then◌else◌, nat_eq}
use Rattle.std.specs.Prelude.{◌&&◌}
use Rattle.std.specs.Option.{option_eq}
use Rattle.std.specs.BinaryHeap.{heap_items}
use Rattle.private_cells.specs.Agents.{AgentData, ActionTurn, with_turn_taken}
use Rattle.private_cells.specs.Inside.Seen.{cells_view}
use Rattle.private_cells.specs.Inside.View.{agents_view}
use Rattle.private_cells.specs.Inside.Sender.{same_sender}
use Rattle.private_cells.specs.Inside.Turns.{turn_at, IsThere, first_session}
use Rattle.private_cells.specs.Inside.Kept.{waiting_at, count_from, runs_at}
use Rattle.private_cells.proofs.Keeping.{count_begun, length_begun, runs_begun}
use Rattle.private_cells.proofs.Next.{next_is, next_none, next_open}
use Rattle.private_cells.proofs.Quieting.{quiet, next_while_running, open_waits}
use Rattle.private_cells.proofs.agents.Agents.take_ready.Goals as goal

pub returns-then-is_some-clause-told : goal.returns-then-is_some-clause-told
returns-then-is_some-clause-told c =
    let self = c.args.self.now in
    sym (ap (option_map (λ (turn : ActionTurn). turn.agent))
    (next_while_running self.running (agents_view self) self.alone
    (sym c.is_some.ensures ∙ c.if-is_some.true)))

pub returns-then-is_some-clause-begun : goal.returns-then-is_some-clause-begun
returns-then-is_some-clause-begun c =
    let self = c.args.self.now in
    sym (ap (λ o. with_turn_taken o (agents_view self))
    (next_while_running self.running (agents_view self) self.alone
    (sym c.is_some.ensures ∙ c.if-is_some.true)))

pub returns-in_default-clause-told : goal.returns-in_default-clause-told
returns-in_default-clause-told c =
    let self = c.args.self.now in
    let still = quiet self.running (cells_view self.cells.items) self.alone
    (sym c.is_some.ensures ∙ c.if-is_some.false) in
    sym (ap (option_map (λ (turn : ActionTurn). turn.agent))
    (next_none (heap_items self.turns.heap) (agents_view self) self.turns_kept still
    c.in_default.ensures.none))

pub returns-in_default-clause-begun : goal.returns-in_default-clause-begun
returns-in_default-clause-begun c =
    let self = c.args.self.now in
    let still = quiet self.running (cells_view self.cells.items) self.alone
    (sym c.is_some.ensures ∙ c.if-is_some.false) in
    sym (ap (λ o. with_turn_taken o (agents_view self))
    (next_none (heap_items self.turns.heap) (agents_view self) self.turns_kept still
    c.in_default.ensures.none))

pub begin_at-requires : goal.begin_at-requires
begin_at-requires c =
    let self = c.args.self.now in
    let there : IsThere c.in-Some.turn (heap_items self.turns.heap) =
    λ f. let popped = c.in-Some.ensures.popped f in omega (arith, popped) in
    next_open (heap_items self.turns.heap) (cells_view self.cells.items) c.in-Some.turn
    self.turns_kept there

pub unreachable-requires : goal.unreachable-requires
unreachable-requires c =
    let self = c.args.self.now in
    let old = cells_view self.cells.items in
    let there : IsThere c.in-Some.turn (heap_items self.turns.heap) =
    λ f. let popped = c.in-Some.ensures.popped f in omega (arith, popped) in
    let open_now = next_open (heap_items self.turns.heap) old c.in-Some.turn self.turns_kept
    there in
    let waits = open_waits c.in-Some.turn.1 old (turn_at c.in-Some.turn.1 c.in-Some.turn.0)
    open_now in
    let session = sym c.in_default-begin_at.is ∙ c.begin_at.ensures.session ∙ ap first_session
    waits.is in
    let no : ⊥ = cc in no

pub invariant_of-self-2 : goal.invariant_of-self-2
invariant_of-self-2 c =
    let self = c.args.self.now in
    let old = cells_view self.cells.items in
    let number = c.in-Some.turn.1 in
    let still = quiet self.running old self.alone (sym c.is_some.ensures ∙ c.if-is_some.false) in
    let there : IsThere c.in-Some.turn (heap_items self.turns.heap) =
    λ f. let popped = c.in-Some.ensures.popped f in omega (arith, popped) in
    let open_now = next_open (heap_items self.turns.heap) old c.in-Some.turn self.turns_kept
    there in
    let waits = open_waits number old (turn_at number c.in-Some.turn.0) open_now in
    let seen = c.begin_at.ensures.begun in
    let session : Some c.in-Some-begin_at.session ≡ Some waits.first.action.session =
    sym c.in-Some-begin_at.is ∙ c.begin_at.ensures.session ∙ ap first_session waits.is in
    let came : c.in-Some-begin_at.session ≡ waits.first.action.session = cc in
    record {
      turns_kept = λ f.
          let before = self.turns_kept f in
          let popped = c.in-Some.ensures.popped f in
          let closed = c.begin_at.ensures.closed f in
          omega (arith, before, popped, closed);
      turns_fit =
          let same = c.begin_at.ensures.len in
          let room = c.pop.ensures.room in
          omega (arith, same, room, self.turns_fit);
      counted = λ q.
          let n = count_from q.session (waiting_at q.agent old) in
          c.remove.ensures.removed q
          ∙ ap (λ m. if same_sender (record {
            agent = number;
            session =
                c.in-Some-begin_at.session;
          }) q
          then m - 1 else m) (self.counted q)
          ∙ ap (λ s. if nat_eq number q.agent && option_eq nat_eq s q.session then n - 1 else n)
          came
          ∙ sym (count_begun number q.agent q.session waits.first waits.rest old waits.is)
          ∙ sym (ap (λ ys. count_from q.session (waiting_at q.agent ys)) seen);
      alone = λ i. ap (runs_at i) seen
          ∙ runs_begun number i waits.first waits.rest old waits.is still;
      short = λ i.
          let now = ap (λ ys. length (waiting_at i ys)) seen in
          let less = length_begun number i old in
          let before = self.short i in
          omega (arith, now, less, before);
      fits = self.fits;
    }

pub returns-clause-told : goal.returns-clause-told
returns-clause-told c =
    let self = c.args.self.now in
    let still = quiet self.running (cells_view self.cells.items) self.alone
    (sym c.is_some.ensures ∙ c.if-is_some.false) in
    let there : IsThere c.in-Some.turn (heap_items self.turns.heap) =
    λ f. let popped = c.in-Some.ensures.popped f in omega (arith, popped) in
    sym (ap (option_map (λ (turn : ActionTurn). turn.agent))
    (next_is (heap_items self.turns.heap) (agents_view self) c.in-Some.turn self.turns_kept still
    there c.in-Some.ensures.first))

pub returns-clause-begun : goal.returns-clause-begun
returns-clause-begun c =
    let self = c.args.self.now in
    let still = quiet self.running (cells_view self.cells.items) self.alone
    (sym c.is_some.ensures ∙ c.if-is_some.false) in
    let there : IsThere c.in-Some.turn (heap_items self.turns.heap) =
    λ f. let popped = c.in-Some.ensures.popped f in omega (arith, popped) in
    let next = next_is (heap_items self.turns.heap) (agents_view self) c.in-Some.turn
    self.turns_kept still there c.in-Some.ensures.first in
    ap (λ (now : List AgentData). record { agents = now; sent = self.sent })
    c.begin_at.ensures.begun
    ∙ sym (ap (λ o. with_turn_taken o (agents_view self)) next)
