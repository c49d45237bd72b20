use Rattle.std.proofs.Common.{◌≡◌, refl, ap, None, Some, sym, ◌∙◌}
use Rattle.bencode_wire.specs.Spelling.{put_sorted}
use Rattle.bencode_wire.specs.Inside.View.{tree_view, entries_view}
use Rattle.bencode_wire.proofs.Views.{entries_view-insert_entry}
use Rattle.bencode_wire.proofs.containers.put_pair.Goals as goal

pub returns-in-None-clause-puts : goal.returns-in-None-clause-puts
returns-in-None-clause-puts c =
    let none : c.args.dictionary.now.key ≡ None = sym c.take.ensures.value ∙ c.in-None.is in
    λ fs. rw none (c.put_key.ensures.puts fs)

pub returns-in-Ok-clause-puts : goal.returns-in-Ok-clause-puts
returns-in-Ok-clause-puts c =
    let some : c.args.dictionary.now.key ≡ Some c.in-Some.key = sym c.take.ensures.value ∙ c.in-Some.is in
    let added : entries_view c.insert.new.self.entries ≡ put_sorted (entries_view c.args.dictionary.now.pairs.entries) c.in-Some.key.items (tree_view c.args.value) =
    ap entries_view c.in-Ok.ensures.entries ∙ entries_view-insert_entry c.args.dictionary.now.pairs.entries c.in-Some.key c.args.value in
    λ fs. rw (some, c.take.ensures.after, added) refl
