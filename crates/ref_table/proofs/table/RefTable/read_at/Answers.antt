use Rattle.std.proofs.Common.{Some, sym, ap, ◌∙◌}
use Rattle.value_data.specs.Inside.View.{view}
use Rattle.ref_history.specs.Versioned.{readable}
use Rattle.ref_table.specs.Refs.{store_of}
use Rattle.ref_table.proofs.Owners.{some-same}
use Rattle.ref_table.proofs.Tables.{same-stands, seen-there, seen-stands}
use Rattle.ref_table.proofs.Telling.{on_err, found-performs, retry-performs}
use Rattle.ref_table.proofs.table.RefTable.read_at.Goals as goal

pub returns-in_err-copy-in-Some-clause-as_it_was : goal.returns-in_err-copy-in-Some-clause-as_it_was
returns-in_err-copy-in-Some-clause-as_it_was g c = λ r s.
    on_err c.from_residual.result
    (same-stands g.H.History.stands c.args.self.now c.read_at.follows.lender-at-none r
    (rw c.in-Some.is at c.read_at.follows.holds-at-none) s)

pub returns-in-None-clause-read : goal.returns-in-None-clause-read
returns-in-None-clause-read g c = λ r caller points seat name ref s here there.
    let stands = g.H.History.stands in
    let store = store_of caller points r in
    let found = seen-there stands c.args.self.now store r name c.args.id here
    (seen-stands stands c.args.self.now caller points r s) in
    retry-performs stands c.args.self.now c.read_at.follows.lender-at-none r caller points seat name
    c.args.id (readable c.args.point.stamp ref) here
    (rw c.in-None.is at c.read_at.follows.holds-at-none)
    (ap (readable c.args.point.stamp) (some-same ref found.0 (sym there ∙ found.1))
    ∙ sym (c.in-None.ensures.value found.0 found.2))
    s

pub returns-in_ok-copy-in-Some-clause-read : goal.returns-in_ok-copy-in-Some-clause-read
returns-in_ok-copy-in-Some-clause-read g c = λ r caller points seat name ref s here there.
    let stands = g.H.History.stands in
    let store = store_of caller points r in
    let at = seen-there stands c.args.self.now store r name c.args.id here
    (seen-stands stands c.args.self.now caller points r s) in
    found-performs stands c.args.self.now c.read_at.follows.lender-at-none r caller points seat name
    (readable c.args.point.stamp ref) (view c.in_ok-copy-in-Some.field-0)
    (ap (readable c.args.point.stamp) (some-same ref at.0 (sym there ∙ at.1))
    ∙ sym (c.in-Some.ensures.value at.0 at.2)
    ∙ ap Some (sym c.in_ok-copy-in-Some.ensures))
    (rw c.in-Some.is at c.read_at.follows.holds-at-none) s
