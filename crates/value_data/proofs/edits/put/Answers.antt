use Rattle.std.proofs.Common.{◌≡◌, ◌<◌, length, sym, subst, ap, ◌∙◌, arith}
use Rattle.value_data.specs.Datum.{Pairs}
use Rattle.value_data.specs.Inside.Held.{EntriesData}
use Rattle.value_data.specs.Inside.View.{view}
use Rattle.value_data.specs.Inside.Nodes.{seen_entries, entry_pairs}
use Rattle.value_data.specs.Inside.Placed.{with_value}
use Rattle.value_data.specs.Keyed.{behind_all}
use Rattle.value_data.specs.Inside.Seen.{MayFit, entry_view}
use Rattle.value_data.proofs.Editing.{first_place-within, pushed-is, found-put, found-distinct}
use Rattle.value_data.proofs.Editing.{new-put, new-distinct, replaced-is}
use Rattle.value_data.proofs.Replacing.{stands-at}
use Rattle.value_data.proofs.Searching.{found-indexes, noted}
use Rattle.value_data.proofs.edits.put.Goals as goal

pub pair-requires : goal.pair-requires
pair-requires c = first_place-within c.args.edited.entries.listed (view c.args.key.now) c.in-Ok.found.place c.in-Ok.ensures.found

pub with_value-requires : goal.with_value-requires
with_value-requires c =
    omega (
      arith,
      first_place-within c.args.edited.entries.listed (view c.args.key.now) c.in-Ok.found.place c.in-Ok.ensures.found,
      ap (λ (e : EntriesData). length e.listed) c.entries.view_is,
    )

pub returns-in_ok-with_value-in-Ok-clause-put : goal.returns-in_ok-with_value-in-Ok-clause-put
returns-in_ok-with_value-in-Ok-clause-put c =
    let ps = entry_pairs c.args.edited.entries in
    let key = view c.args.key.now in
    let inside : EntriesData = seen_entries c.entries.inside.keys c.entries.inside.values in
    let within : c.in-Ok.found.place < length inside.listed =
    omega (arith, first_place-within c.args.edited.entries.listed key c.in-Ok.found.place c.in-Ok.ensures.found, ap (λ (e : EntriesData). length e.listed) c.entries.view_is) in
    let replaced : entry_pairs c.in_ok-with_value-in-Ok.field-0 ≡ with_value c.in-Ok.found.place (view c.args.value.now) ps =
    replaced-is inside.listed c.in_ok-with_value-in-Ok.field-0.listed c.in-Ok.found.place key (view c.in_ok-copy-in-Ok.field-0) (view c.args.value.now) c.in_ok-copy-in-Ok.ensures within
    (c.in_ok-with_value-in-Ok.ensures key)
    ∙ ap (λ (e : EntriesData). with_value c.in-Ok.found.place (view c.args.value.now) (entry_pairs e)) c.entries.view_is in
    found-put ps (entry_pairs c.in_ok-with_value-in-Ok.field-0) key (view c.args.value.now) c.in-Ok.found.place c.in-Ok.ensures.found replaced

pub returns-in_ok-with_value-in-Ok-clause-keeps : goal.returns-in_ok-with_value-in-Ok-clause-keeps
returns-in_ok-with_value-in-Ok-clause-keeps c =
    let ps = entry_pairs c.args.edited.entries in
    let key = view c.args.key.now in
    let inside : EntriesData = seen_entries c.entries.inside.keys c.entries.inside.values in
    let within : c.in-Ok.found.place < length inside.listed =
    omega (arith, first_place-within c.args.edited.entries.listed key c.in-Ok.found.place c.in-Ok.ensures.found, ap (λ (e : EntriesData). length e.listed) c.entries.view_is) in
    let replaced : entry_pairs c.in_ok-with_value-in-Ok.field-0 ≡ with_value c.in-Ok.found.place (view c.args.value.now) ps =
    replaced-is inside.listed c.in_ok-with_value-in-Ok.field-0.listed c.in-Ok.found.place key (view c.in_ok-copy-in-Ok.field-0) (view c.args.value.now) c.in_ok-copy-in-Ok.ensures within
    (c.in_ok-with_value-in-Ok.ensures key)
    ∙ ap (λ (e : EntriesData). with_value c.in-Ok.found.place (view c.args.value.now) (entry_pairs e)) c.entries.view_is in
    record {
      peaked =
          subst (λ (qs : Pairs). MayFit c.peaks_with_value.result qs)
          (sym replaced)
          (c.peaks_with_value.ensures ps c.in-Ok.found.place c.requires.peaked
          (stands-at c.args.edited.entries.listed c.in-Ok.found.place (entry_view c.pair.result) c.pair.ensures
          (first_place-within c.args.edited.entries.listed key c.in-Ok.found.place c.in-Ok.ensures.found)));
      distinct = found-distinct ps (entry_pairs c.in_ok-with_value-in-Ok.field-0) c.in-Ok.found.place (view c.args.value.now) replaced c.requires.distinct;
      indexed = found-indexes c.args.edited.index ps (entry_pairs c.in_ok-with_value-in-Ok.field-0) c.in-Ok.found.place (view c.args.value.now) replaced c.requires.indexed;
    }

pub returns-in_ok-with_pair-in-Err-clause-put : goal.returns-in_ok-with_pair-in-Err-clause-put
returns-in_ok-with_pair-in-Err-clause-put c =
    let ps = entry_pairs c.args.edited.entries in
    let key = view c.args.key.now in
    let inside : EntriesData = seen_entries c.entries.inside.keys c.entries.inside.values in
    let pushed : entry_pairs c.in_ok-with_pair-in-Err.field-0 ≡ behind_all ps key (view c.args.value.now) =
    pushed-is inside.listed c.in_ok-with_pair-in-Err.field-0.listed (view c.in_ok-copy-in-Err.field-0) (view c.in_ok-copy-in-Err-2.field-0) key (view c.args.value.now)
    c.in_ok-copy-in-Err.ensures c.in_ok-copy-in-Err-2.ensures c.in_ok-with_pair-in-Err.ensures
    ∙ ap (λ (e : EntriesData). behind_all (entry_pairs e) key (view c.args.value.now)) c.entries.view_is in
    new-put ps (entry_pairs c.in_ok-with_pair-in-Err.field-0) key (view c.args.value.now) c.in-Err.ensures.new.absent pushed

pub returns-in_ok-with_pair-in-Err-clause-keeps : goal.returns-in_ok-with_pair-in-Err-clause-keeps
returns-in_ok-with_pair-in-Err-clause-keeps c =
    let ps = entry_pairs c.args.edited.entries in
    let key = view c.args.key.now in
    let inside : EntriesData = seen_entries c.entries.inside.keys c.entries.inside.values in
    let pushed : entry_pairs c.in_ok-with_pair-in-Err.field-0 ≡ behind_all ps key (view c.args.value.now) =
    pushed-is inside.listed c.in_ok-with_pair-in-Err.field-0.listed (view c.in_ok-copy-in-Err.field-0) (view c.in_ok-copy-in-Err-2.field-0) key (view c.args.value.now)
    c.in_ok-copy-in-Err.ensures c.in_ok-copy-in-Err-2.ensures c.in_ok-with_pair-in-Err.ensures
    ∙ ap (λ (e : EntriesData). behind_all (entry_pairs e) key (view c.args.value.now)) c.entries.view_is in
    record {
      peaked = subst (λ (qs : Pairs). MayFit c.with_pair-in-Err.result qs) (sym pushed) (c.with_pair-in-Err.ensures ps c.requires.peaked);
      distinct = new-distinct ps (entry_pairs c.in_ok-with_pair-in-Err.field-0) key (view c.args.value.now) c.in-Err.ensures.new.absent pushed c.requires.distinct;
      indexed =
          noted c.args.edited.index c.in_ok-with_next-in-Err.field-0 ps (entry_pairs c.in_ok-with_pair-in-Err.field-0) key (view c.args.value.now) c.in-Err.rank (length c.args.edited.index)
          pushed c.in_ok-with_next-in-Err.ensures c.requires.indexed.counted c.requires.indexed c.in-Err.ensures.new;
    }
