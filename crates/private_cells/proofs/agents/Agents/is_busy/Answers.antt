use Rattle.std.proofs.Common.{◌≡◌, ◌<◌, refl, sym, ap, ◌∙◌, arith}
use Rattle.std.proofs.Common.{length, Some, nat_lt, true, false}
use Rattle.std.specs.List.{list_any}
use Rattle.std.proofs.lemmas.Bool.{ltb-true, lt-ltb}
use Rattle.private_cells.specs.Actions.{is_of}
use Rattle.private_cells.proofs.Next.{not_less}
use Rattle.private_cells.specs.Inside.Kept.{waiting_in}
use Rattle.std.specs.Prelude.{slice_get, ◌||◌}
use Rattle.private_cells.specs.Agents.{is_busy_for, is_sent_by}
use Rattle.private_cells.specs.Inside.Seen.{cells_view, cell_view}
use Rattle.private_cells.specs.Inside.Kept.{count_from}
use Rattle.private_cells.proofs.Turning.{seen_at}
use Rattle.private_cells.proofs.Quieting.{any_counted}
use Rattle.private_cells.proofs.agents.Agents.is_busy.Goals as goal

pub returns-then-count-gt0 : goal.returns-then-count-gt0
returns-then-count-gt0 c =
    let self = c.args.self.now in
    let number = c.args.number in
    let session = c.args.session in
    let cell = c.in-Some.cell.now in
    let items = self.cells.items in
    let there : number < length items = ltb-true number (length items) (sym c.in-Some.ensures.0) in
    let seen : slice_get (cells_view items) number ≡ Some (cell_view cell) =
    seen_at cell_view number cell items there c.in-Some.ensures.1 in
    let counted : nat_lt 0 c.count.result
    ≡ list_any (λ x. is_of session x.action) (cell_view cell).waiting =
    ap (nat_lt 0) (c.count.ensures
    ∙ self.counted (record { agent = number; session = session })
    ∙ ap (λ o. count_from session (waiting_in o)) seen)
    ∙ any_counted session (cell_view cell).waiting in
    let some : nat_lt 0 c.count.result ≡ true = lt-ltb 0 c.count.result (omega arith) in
    some ∙ ap (λ b. b || is_sent_by session (cell_view cell).running) (sym some ∙ counted)
    ∙ sym (ap (is_busy_for session) seen)

pub returns-else-count-gt0 : goal.returns-else-count-gt0
returns-else-count-gt0 c =
    let self = c.args.self.now in
    let number = c.args.number in
    let session = c.args.session in
    let cell = c.in-Some.cell.now in
    let items = self.cells.items in
    let there : number < length items = ltb-true number (length items) (sym c.in-Some.ensures.0) in
    let seen : slice_get (cells_view items) number ≡ Some (cell_view cell) =
    seen_at cell_view number cell items there c.in-Some.ensures.1 in
    let counted : nat_lt 0 c.count.result
    ≡ list_any (λ x. is_of session x.action) (cell_view cell).waiting =
    ap (nat_lt 0) (c.count.ensures
    ∙ self.counted (record { agent = number; session = session })
    ∙ ap (λ o. count_from session (waiting_in o)) seen)
    ∙ any_counted session (cell_view cell).waiting in
    let none : nat_lt 0 c.count.result ≡ false =
    not_less 0 c.count.result (nat_lt 0 c.count.result) refl c.if-count-gt0.false in
    c.runs_from.ensures
    ∙ ap (λ b. b || is_sent_by session (cell_view cell).running) (sym none ∙ counted)
    ∙ sym (ap (is_busy_for session) seen)
