use Rattle.std.proofs.Common.{◌≡◌, ℕ, List, sym, ap, ◌∙◌, subst, slice_get}
use Rattle.value_data.specs.Datum.{tenant}
use Rattle.ref_history.specs.declared.ref_id.RefId.{RefId}
use Rattle.ref_table.specs.Departed.{GetsBatch}
use Rattle.ref_table.specs.Directory.{refs_of}
use Rattle.ref_table.proofs.Owners.{none-some}
use Rattle.ref_table.proofs.Tables.{released-stands, departed-stands, empty-stands}
use Rattle.ref_table.proofs.table.RefTable.release.Goals as goal

pub returns-in-Err : goal.returns-in-Err
returns-in-Err g c = λ r s.
    let t = c.args.self.now in
    let same : (n : ℕ) → slice_get c.deref.result.now n
    ≡ slice_get (refs_of t.directory (tenant c.args.tenant)) n
    = λ n. ap (λ ids. slice_get ids n) (c.deref.ensures.value
    ∙ ap (λ ids. ids.items) c.in-Err.ensures.same ∙ c.in-Some.ensures.were) in
    empty-stands g.H.History.stands
    (record t { directory = c.remove.new.self; history = c.drop_refs.new.history }) c.add.new.self
    _ c.in-Err.ensures.as_it_was
    (released-stands g.H.History.stands t c.remove.new.self c.drop_refs.new.history r
    (tenant c.args.tenant) c.in-Some.ensures.gone c.in-Some.ensures.others
    (λ n i e. c.drop_refs.ensures.gone n i (same n ∙ e))
    (λ i none. c.drop_refs.ensures.others i (λ n e. none n (sym (same n) ∙ e))) s)

pub returns-in_default-add : goal.returns-in_default-add
returns-in_default-add g c = λ r s.
    let t = c.args.self.now in
    departed-stands g.H.History.stands t c.remove.new.self c.add.new.self r
    (tenant c.args.tenant) c.in-Some.ensures.gone c.in-Some.ensures.others
    (subst (λ (ids : List RefId). GetsBatch t.departed ids c.add.new.self) c.in-Some.ensures.were
    c.in_default-add.ensures.added) s

pub returns-in_default : goal.returns-in_default
returns-in_default g c = λ r s.
    released-stands g.H.History.stands c.args.self.now c.remove.new.self c.args.self.now.history r
    (tenant c.args.tenant) c.in_default.ensures.gone c.in_default.ensures.others
    (λ n i e. absurd (none-some (ap (λ ids. slice_get ids n) c.in_default.ensures.were ∙ e)))
    (λ i none ref. (λ h. h, λ h. h)) s
