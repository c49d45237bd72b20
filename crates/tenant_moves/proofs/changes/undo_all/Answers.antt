use Rattle.std.proofs.Common.{◌∙◌, sym, ap, List}
use Rattle.tenant_parts.specs.View.{actors_view}
use Rattle.tenant_moves.specs.Undone.{sessions_and_actors, all_undone}
use Rattle.tenant_moves.specs.declared.changes.LoggedChange.{LoggedChange}
use Rattle.tenant_moves.proofs.Undoing.{undone-last}
use Rattle.tenant_moves.proofs.changes.undo_all.Goals as goal

pub loop-change-preserved : goal.loop-change-preserved
loop-change-preserved c =
    let was = c.loop-change in
    let before = sessions_and_actors was.sessions (actors_view was.actors) in
    let left = c.pop.new.self.items in
    ap (all_undone left) c.undo.ensures
    ∙ sym (undone-last left c.in-Some.change before)
    ∙ sym (ap (λ (l : List LoggedChange). all_undone l before) c.in-Some.ensures.items)
    ∙ was.invariant
