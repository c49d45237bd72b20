use Rattle.std.proofs.Common.{◌++◌, map, sym, ap, ◌∙◌}
use Rattle.repl_asks.specs.Inside.View.{change_view}
use Rattle.ref_table.specs.Placing.{placed_view, placed_changes}
use Rattle.ref_table.proofs.Once.{places-append}
use Rattle.ref_table.proofs.directory.Directory.places.Goals as goal

pub returns : goal.returns
returns c =
    let sets = map change_view c.args.sets.now in
    let folded = map change_view c.args.folded.now in
    c.in_ok-place-2.ensures
    ∙ ap (λ ps. ps ++ placed_changes c.args.self.now c.args.caller folded) (c.in_ok-place.ensures
    ∙ ap (λ ps. map placed_view ps ++ placed_changes c.args.self.now c.args.caller sets)
    c.new-placed.ensures.items)
    ∙ sym (places-append c.args.self.now c.args.caller sets folded)
