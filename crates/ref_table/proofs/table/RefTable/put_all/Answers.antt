use Rattle.std.proofs.Common.{◌≡◌, ◌+◌, List, [], ◌∷◌, All, map, refl, sym, ap, ◌∙◌, subst, arith}
use Rattle.std.proofs.lemmas.Grind.{common_steps}
use Rattle.ref_table.specs.Commit.{with_raised_counter, with_all}
use Rattle.ref_table.specs.Placing.{placed_view, placed_changes, AddsAll}
use Rattle.ref_table.specs.declared.placing.Placed.{Placed}
use Rattle.ref_table.specs.Refs.{store_of, refs_after}
use Rattle.ref_table.specs.Standing.{TableStands}
use Rattle.ref_table.proofs.Rooms.{have-room}
use Rattle.ref_table.proofs.Adding.{all-added, with_raised_counter-stands}
use Rattle.ref_table.proofs.Committing.{no-places, with_all-some}
use Rattle.ref_table.proofs.Tables.{same-stands, seen-stands, on-err}
use Rattle.ref_table.proofs.table.RefTable.put_all.Goals as goal

pub add_all-requires : goal.add_all-requires
add_all-requires g c =
    have-room g.H.History.has_room c.reserve_all.new.history c.args.placed.items
    (subst (λ ps. All (λ p. g.H.History.has_room c.reserve_all.new.history p.id) ps)
    c.deref.ensures.value c.in_ok-reserve_all.ensures.room) c.requires.once

pub returns-then-is_empty-clause-put : goal.returns-then-is_empty-clause-put
returns-then-is_empty-clause-put g c = λ r caller points changes s named e.
    let stands = g.H.History.stands in
    let none : c.args.placed.items ≡ [] = grind (arith, common_steps, c.if-is_empty.ensures) in
    let nothing : changes ≡ [] = no-places c.args.self.now.directory caller changes named
    (sym (ap (map placed_view) none) ∙ e) in
    subst (λ cs. TableStands stands c.args.self.now (refs_after (with_all cs (store_of caller points r)) r))
    (sym nothing) (seen-stands stands c.args.self.now caller points r s)

map_empty : (ps : List Placed) → map placed_view ps ≡ [] → ps ≡ []
map_empty [] e = refl
map_empty (p ∷ ps) e = cc

pub returns-clause-put : goal.returns-clause-put
returns-clause-put g c = λ r caller points changes s named e.
    let stands = g.H.History.stands in
    let t = record c.args.self.now { history = c.reserve_all.new.history } in
    let now = with_raised_counter-stands stands t (store_of caller points r) r
    (seen-stands stands t caller points r
    (same-stands stands c.args.self.now c.reserve_all.new.history r c.reserve_all.ensures.same s)) in
    let some : c.args.placed.items ≡ [] → ⊥ =
    λ none. grind (arith, common_steps, none, c.if-is_empty.ensures) in
    subst (λ s. TableStands stands
    (record t { counter = t.counter + 1; history = c.add_all.new.history }) (refs_after s r))
    (sym (with_all-some changes (store_of caller points r)
    (λ nothing. some (map_empty c.args.placed.items
    (e ∙ ap (placed_changes c.args.self.now.directory caller) nothing)))))
    (all-added stands (r.counter + 1) changes (record t { counter = t.counter + 1 })
    c.add_all.new.history c.args.placed.items (with_raised_counter (store_of caller points r)) r e
    (subst (λ n. AddsAll stands (n + 1) c.reserve_all.new.history c.args.placed.items
    c.add_all.new.history) s.counter c.add_all.ensures)
    now)

pub returns-in_err-reserve_all-clause-as_it_was : goal.returns-in_err-reserve_all-clause-as_it_was
returns-in_err-reserve_all-clause-as_it_was g c = λ r s. on-err c.from_residual.result
    (same-stands g.H.History.stands c.args.self.now c.reserve_all.new.history r
    c.reserve_all.ensures.same s)
