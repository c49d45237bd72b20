use Rattle.std.proofs.Common.{◌≡◌, ℕ, Some, length, sym, ap, ◌∙◌, subst}
use Rattle.value_data.specs.Datum.{tenant, ref}
use Rattle.value_data.specs.Inside.View.{view, owner_view}
use Rattle.value_data.specs.declared.value.RefName.{RefName}
use Rattle.repl_asks.specs.Exchange.{value}
use Rattle.ref_table.specs.Calls.{performed_make}
use Rattle.ref_history.specs.Effects.{first_ref}
use Rattle.ref_table.specs.Refs.{with_ref, store_of}
use Rattle.ref_table.specs.Directory.{refs_of}
use Rattle.ref_table.specs.Standing.{TableStands}
use Rattle.ref_table.specs.Told.{Performs}
use Rattle.ref_table.proofs.Standing.{lengths, undone}
use Rattle.ref_table.proofs.Tables.{made-stands, undone-stands, same-stands, on-err}
use Rattle.ref_table.proofs.Telling.{performed_make-performs}
use Rattle.ref_table.proofs.table.RefTable.make.Goals as goal

pub returns-in-Ok-clause-name : goal.returns-in-Ok-clause-name
returns-in-Ok-clause-name g c = λ r s.
    let name : ℕ → RefName = λ n. record { owner = c.args.owner; number = n } in
    let o = owner_view c.args.owner in
    ap name (c.in-Ok.ensures.number ∙ lengths (g.H.History.stands c.args.self.now.history)
    (refs_of c.args.self.now.directory o) (r.owned o) (s.refs o))

pub returns-in-Ok-clause-made : goal.returns-in-Ok-clause-made
returns-in-Ok-clause-made g c = λ r s.
    made-stands g.H.History.stands c.args.self.now c.add.new.self c.make.new.self r
    (owner_view c.args.owner) c.in_ok-id.id (first_ref (view c.args.value) c.args.bounds)
    c.in-Ok.ensures.added c.add.ensures.others c.in_ok-id.ensures.is_new c.in_ok-id.ensures.made
    c.in_ok-id.ensures.others s

pub returns-in-Ok-clause-told : goal.returns-in-Ok-clause-told
returns-in-Ok-clause-told g c = λ r points caller s mine.
    let stands = g.H.History.stands in
    let o = owner_view c.args.owner in
    let own : o ≡ tenant caller = ap owner_view mine in
    let t = record c.args.self.now { directory = c.add.new.self; history = c.make.new.self } in
    subst (λ o. Performs stands t r (Some (value (ref o c.in-Ok.number)))
    (performed_make (store_of caller points r) (view c.args.value) c.args.bounds.least c.args.bounds.most))
    (sym own)
    (performed_make-performs stands t r caller points (view c.args.value) c.args.bounds.least
    c.args.bounds.most c.in-Ok.number
    (c.in-Ok.ensures.number ∙ lengths (stands c.args.self.now.history)
    (refs_of c.args.self.now.directory o) (r.owned o) (s.refs o)
    ∙ ap (λ o. length (r.owned o)) own)
    (subst (λ o. TableStands stands t (with_ref o (first_ref (view c.args.value) c.args.bounds) r)) own
    (made-stands stands c.args.self.now c.add.new.self c.make.new.self r o c.in_ok-id.id
    (first_ref (view c.args.value) c.args.bounds)
    c.in-Ok.ensures.added c.add.ensures.others c.in_ok-id.ensures.is_new c.in_ok-id.ensures.made
    c.in_ok-id.ensures.others s)))

pub returns-in-Err-clause-as_it_was : goal.returns-in-Err-clause-as_it_was
returns-in-Err-clause-as_it_was g c = λ r s.
    let stands = g.H.History.stands in
    undone-stands stands c.args.self.now c.add.new.self c.drop_ref.new.self r
    c.in-Err.ensures.as_it_was
    (undone (stands c.args.self.now.history) (stands c.make.new.self) (stands c.drop_ref.new.self)
    c.in_ok-id.id c.in_ok-id.ensures.is_new c.in_ok-id.ensures.others c.drop_ref.ensures.gone
    c.drop_ref.ensures.others) s

pub returns-in_err-id-clause-as_it_was : goal.returns-in_err-id-clause-as_it_was
returns-in_err-id-clause-as_it_was g c = λ r s. on-err c.from_residual.result
    (same-stands g.H.History.stands c.args.self.now c.make.new.self r
    c.in_err-id.ensures.as_it_was s)
