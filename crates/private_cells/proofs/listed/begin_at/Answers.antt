use Rattle.std.proofs.Common.{◌≡◌, ◌<◌, length, sym, ap, ◌∙◌, arith}
use Rattle.private_cells.specs.Agents.{with_begun}
use Rattle.private_cells.specs.Inside.Seen.{cell_view}
use Rattle.private_cells.specs.Inside.Kept.{waiting_in}
use Rattle.private_cells.specs.Inside.Turns.{turn_at, open_turn_of, open_turn, turn_weight, first_session}
use Rattle.private_cells.proofs.Changing.{map_set_by}
use Rattle.private_cells.proofs.Turning.{seen_at, set_sum, begun_closes}
use Rattle.private_cells.proofs.listed.begin_at.Goals as goal

pub returns-clause-begun : goal.returns-clause-begun
returns-clause-begun c =
    map_set_by cell_view with_begun c.args.number _ _
    c.args.cells.now.items c.in-Some.ensures.value c.begin.ensures.begun

pub returns-clause-session : goal.returns-clause-session
returns-clause-session c =
    let cell = c.in-Some.cell.now in
    let there : c.args.number < length c.args.cells.now.items =
    omega (arith, c.in-Some.ensures.item) in
    let seen = seen_at cell_view c.args.number cell c.args.cells.now.items there
    c.in-Some.ensures.value in
    c.begin.ensures.session ∙ sym (ap (λ o. first_session (waiting_in o)) seen)

pub returns-clause-closed : goal.returns-clause-closed
returns-clause-closed c = λ f.
    let cell = c.in-Some.cell.now in
    let number = c.args.number in
    let there : number < length c.args.cells.now.items = omega (arith, c.in-Some.ensures.item) in
    let seen = seen_at cell_view number cell c.args.cells.now.items there
    c.in-Some.ensures.value in
    let open_then = sym (ap (open_turn_of number) seen) ∙ c.requires in
    let open_now = ap (open_turn number) c.begin.ensures.begun
    ∙ begun_closes number (turn_at number c.args.first) (cell_view cell) open_then in
    let before : turn_weight f (open_turn number (cell_view cell)) ≡ f (turn_at number c.args.first)
    = ap (turn_weight f) open_then in
    let after : turn_weight f (open_turn number (cell_view c.begin.new.self)) ≡ 0
    = ap (turn_weight f) open_now in
    let sums = set_sum cell_view f 0 number number cell c.begin.new.self
    c.args.cells.now.items there c.in-Some.ensures.value (omega arith) in
    omega (arith, sums, before, after)
