use Rattle.std.proofs.Common.{rules, length, ◌<◌, ◌≡◌, sym, subst, arith}
use Rattle.value_data.specs.Inside.View.{view}
use Rattle.repl_reader.specs.Reading.{FormReading, next_in, drops, begins}
use Rattle.repl_reader.specs.Grammar.{Reads}
use Rattle.repl_reader.specs.Inside.View.{IsMarked, wraps, wraps_deep, IsOpened, encloses, encloses_deep}
use Rattle.repl_reader.specs.Inside.View.{bracket_view, mark_symbol, form_reading_view}
use Rattle.repl_reader.proofs.Nesting.{on_ok, piece_settled, piece_marked, piece_opened, row_push}
use Rattle.repl_reader.proofs.Nesting.{row_last, owed_more, owed_one, owed_short}
use Rattle.repl_reader.proofs.Shorter.{next_shorter_is, reads_shorter}
use Rattle.repl_reader.proofs.nest.+nest.Goals as goal

pub read_enclosed-returns-then-depth-ge-MOST_NESTED : goal.read_enclosed-returns-then-depth-ge-MOST_NESTED
read_enclosed-returns-then-depth-ge-MOST_NESTED t c =
    on_ok _ (λ x e. subst (λ (y : FormReading). IsOpened c.args.depth (bracket_view c.args.bracket) c.args.text.now y) (sym e) (encloses_deep (omega arith))) c.too_deep.ensures

pub read_enclosed-returns : goal.read_enclosed-returns
read_enclosed-returns t c =
    on_ok _ (λ x e. subst (λ (y : FormReading). IsOpened c.args.depth (bracket_view c.args.bracket) c.args.text.now y) (sym e) (encloses _ _ (omega arith) c.in_ok-row.ensures)) c.enclosed_reading.ensures

pub read_marked-returns-then-depth-ge-MOST_NESTED : goal.read_marked-returns-then-depth-ge-MOST_NESTED
read_marked-returns-then-depth-ge-MOST_NESTED t c =
    on_ok _ (λ x e. subst (λ (y : FormReading). IsMarked c.args.depth (mark_symbol c.args.mark) c.args.text.now y) (sym e) (wraps_deep (omega arith))) c.too_deep.ensures

pub read_marked-returns : goal.read_marked-returns
read_marked-returns t c =
    on_ok _ (λ x e. subst (λ (y : FormReading). IsMarked c.args.depth (mark_symbol c.args.mark) c.args.text.now y) (sym e) (wraps _ (omega arith) c.in_ok-reading.ensures)) c.wrapped_reading.ensures

pub read_front-returns-in-Settled : goal.read_front-returns-in-Settled
read_front-returns-in-Settled t c = piece_settled c.args.depth c.args.text.now _ (rw c.in-Settled.is at c.in_ok-reading.ensures)

pub read_front-returns-in_ok-read_marked-in-Marking : goal.read_front-returns-in_ok-read_marked-in-Marking
read_front-returns-in_ok-read_marked-in-Marking t c =
    piece_marked c.args.depth c.args.text.now _ _ _ (rw c.in-Marking.is at c.in_ok-reading.ensures) c.in_ok-read_marked-in-Marking.ensures

pub read_front-returns-in_ok-read_enclosed-in-Opening : goal.read_front-returns-in_ok-read_enclosed-in-Opening
read_front-returns-in_ok-read_enclosed-in-Opening t c =
    piece_opened c.args.depth c.args.text.now _ _ _ (rw c.in-Opening.is at c.in_ok-reading.ensures) c.in_ok-read_enclosed-in-Opening.ensures

pub read_form-loop-rest-smaller-in-Dropping : goal.read_form-loop-rest-smaller-in-Dropping
read_form-loop-rest-smaller-in-Dropping t c = next_shorter_is _ _ (rw c.in-Dropping.is at c.in_ok-rest.ensures)

pub read_form-loop-rest-preserved-in-Dropping : goal.read_form-loop-rest-preserved-in-Dropping
read_form-loop-rest-preserved-in-Dropping t c =
    let e : next_in c.loop-rest.text.now ≡ drops c.in-Dropping.rest.now = rw c.in-Dropping.is at c.in_ok-rest.ensures in
    let shorter : length c.in-Dropping.rest.now < length c.loop-rest.text.now = next_shorter_is _ _ e in
    record {
      utf8 = search rules;
      bound = omega arith;
      owed = owed_more c.args.depth c.loop-rest.to_drop c.args.text.now c.loop-rest.text.now c.loop-rest.invariant.owed _ e;
    }

pub read_form-returns-in-Err : goal.read_form-returns-in-Err
read_form-returns-in-Err t c =
    let reads : Reads c.args.depth c.loop-rest.text.now (form_reading_view c.in-Read.reading) = rw c.in-Read.is at c.in_ok-rest.ensures in
    on_ok _ (λ x e. subst (λ (y : FormReading). Reads c.args.depth c.args.text.now y) (sym e)
    (owed_short c.args.depth c.loop-rest.to_drop c.args.text.now c.loop-rest.text.now c.loop-rest.invariant.owed c.if-to_drop-eq0.false
    (form_reading_view c.in-Err.other) (subst (λ (y : FormReading). Reads c.args.depth c.loop-rest.text.now y) (sym c.in-Err.ensures.0) reads) c.in-Err.ensures.1))
    c.form_or_fault.ensures

pub read_form-loop-rest-smaller : goal.read_form-loop-rest-smaller
read_form-loop-rest-smaller t c =
    let reads : Reads c.args.depth c.loop-rest.text.now (form_reading_view c.in-Read.reading) = rw c.in-Read.is at c.in_ok-rest.ensures in
    reads_shorter _ _ _ (subst (λ (y : FormReading). Reads c.args.depth c.loop-rest.text.now y) c.in-Ok.ensures.1 reads)

pub read_form-loop-rest-preserved : goal.read_form-loop-rest-preserved
read_form-loop-rest-preserved t c =
    let reads : Reads c.args.depth c.loop-rest.text.now (form_reading_view c.in-Read.reading) = rw c.in-Read.is at c.in_ok-rest.ensures in
    let form = subst (λ (y : FormReading). Reads c.args.depth c.loop-rest.text.now y) c.in-Ok.ensures.1 reads in
    let shorter : length c.in-Ok.rest.now < length c.loop-rest.text.now = reads_shorter _ _ _ form in
    record {
      utf8 = search rules;
      bound = omega arith;
      owed = owed_one c.args.depth c.loop-rest.to_drop c.args.text.now c.loop-rest.text.now c.loop-rest.invariant.owed c.if-to_drop-eq0.false _ _ form;
    }

pub read_row-loop-forms-smaller : goal.read_row-loop-forms-smaller
read_row-loop-forms-smaller t c =
    let reads : Reads c.args.depth c.loop-forms.text.now (begins (view c.in-Form.form) c.in-Form.rest.now) = rw c.in-Form.is at c.in_ok-after.ensures in
    reads_shorter _ _ _ reads

pub read_row-loop-forms-preserved : goal.read_row-loop-forms-preserved
read_row-loop-forms-preserved t c =
    let reads : Reads c.args.depth c.loop-forms.text.now (begins (view c.in-Form.form) c.in-Form.rest.now) = rw c.in-Form.is at c.in_ok-after.ensures in
    record {
      utf8 = search rules;
      rows = λ ds r j. rw c.in_ok-push-in-Form.ensures.items
          (row_push c.args.depth c.args.text.now c.loop-forms.text.now _ c.loop-forms.forms.items c.in-Form.form c.loop-forms.invariant.rows reads ds r j);
    }

pub read_row-returns-in_default : goal.read_row-returns-in_default
read_row-returns-in_default t c = row_last c.args.depth c.args.text.now c.loop-forms.text.now c.loop-forms.forms.items _ c.loop-forms.invariant.rows c.in_ok-after.ensures (search rules)
