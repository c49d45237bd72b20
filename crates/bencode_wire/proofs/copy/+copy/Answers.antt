use Rattle.std.proofs.Common.{◌≡◌, [], ◌∷◌, ◌++◌, sym, ap, ◌∙◌, subst, append_assoc}
use Rattle.std.specs.List.Sorted.{IsStrictlySortedBy}
use Rattle.std.specs.Map.{keys_of}
use Rattle.bencode_wire.specs.Inside.View.{entries_view}
use Rattle.bencode_wire.proofs.Views.{Entry, key_cmp, entries_view-insert_entry, put_last}
use Rattle.bencode_wire.proofs.copy.+copy.Goals as goal

-- the copied pairs and this turn's, whose key comes after theirs
pub copy_pairs-loop-key-preserved : goal.copy_pairs-loop-key-preserved
copy_pairs-loop-key-preserved t c =
    let l = c.loop-key in
    let done = l.invariant.0 in
    let e : Entry = (c.in-Some.key.now, c.in-Some.value.now) in
    let left = c.next.new.self in
    let all : c.args.pairs.now.entries ≡ done ++ e ∷ left = l.invariant.1 ∙ ap (λ es. done ++ es) c.in-Some.ensures.steps in
    let last = put_last done e left (subst (λ es. IsStrictlySortedBy key_cmp (keys_of es)) all c.iter-key-items.ensures.ordered) in
    let named : c.in_ok-name.name.items ≡ e.0.items = c.in_ok-name.ensures in (
      done ++ e ∷ [],
      all ∙ sym (append_assoc done (e ∷ []) left),
      ap entries_view c.in_ok-insert.ensures.entries ∙ entries_view-insert_entry l.copies.entries c.in_ok-name.name c.in_ok-copy.field-0 ∙ rw (named, c.in_ok-copy.ensures, l.invariant.2) last,
    )
