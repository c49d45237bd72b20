use Rattle.std.proofs.Common.{◌≡◌, ◌<◌, ◌≤◌, ◌++◌, ◌∷◌, [], true, List, length, take, map, subst, sym, ap, ◌∙◌, arith}
use Rattle.std.proofs.lemmas.List.{length-map, take_more}
use Rattle.value_data.specs.Datum.{Datum, Pairs}
use Rattle.value_data.specs.Keyed.{behind_all, has_key}
use Rattle.value_data.specs.Listed.{pairs_of}
use Rattle.value_data.specs.Inside.Held.{EntriesData}
use Rattle.value_data.specs.Inside.View.{view, pair_view}
use Rattle.value_data.specs.Inside.Nodes.{seen_entries, entry_pairs}
use Rattle.value_data.specs.Inside.Placed.{are_distinct}
use Rattle.value_data.specs.Inside.Fits.{FitsPeaks}
use Rattle.value_data.proofs.Editing.{pushed-is, new-distinct}
use Rattle.value_data.proofs.Entered.{view-at}
use Rattle.value_data.proofs.Tables.{has_key-placed}
use Rattle.value_data.proofs.Removing.{first-repeat, no-repeat, take-past}
use Rattle.value_data.proofs.Searching.{noted}
use Rattle.value_data.proofs.building.built_one_by_one.Goals as goal

pub search-requires : goal.search-requires
search-requires c = c.loop-place.invariant.indexed

pub loop-place-preserved : goal.loop-place-preserved
loop-place-preserved c =
    let p = c.index-pairs-place.result in
    let n = c.loop-place.place in
    let qs = map pair_view c.args.pairs.now in
    let before = entry_pairs c.loop-place.entries in
    let inside : EntriesData = seen_entries c.entries.inside.keys c.entries.inside.values in
    let pushed : entry_pairs c.in_ok-entries-2.entries ≡ behind_all before (view p.0) (view p.1) =
    pushed-is inside.listed c.in_ok-entries-2.entries.listed (view c.in_ok-copy.field-0) (view c.in_ok-copy-2.field-0) (view p.0) (view p.1)
    c.in_ok-copy.ensures c.in_ok-copy-2.ensures c.in_ok-entries-2.ensures
    ∙ ap (λ (e : EntriesData). behind_all (entry_pairs e) (view p.0) (view p.1)) c.entries.view_is in
    let within : n < length c.args.pairs.now = omega (arith, c.loop-place-test.true) in
    let long : n < length qs = omega (arith, within, length-map c.args.pairs.now pair_view) in
    record {
      so_far =
          c.in_ok-entries-2.ensures
          ∙ ap (λ (e : EntriesData). e.listed ++ (view c.in_ok-copy.field-0, view c.in_ok-copy-2.field-0) ∷ []) c.entries.view_is
          ∙ ap (λ (rs : List (Datum × Datum)). rs ++ (view c.in_ok-copy.field-0, view c.in_ok-copy-2.field-0) ∷ []) c.loop-place.invariant.so_far
          ∙ ap (λ (d : Datum). take n qs ++ (d, view c.in_ok-copy-2.field-0) ∷ []) c.in_ok-copy.ensures
          ∙ ap (λ (d : Datum). take n qs ++ (view p.0, d) ∷ []) c.in_ok-copy-2.ensures
          ∙ ap (λ (q : Datum × Datum). take n qs ++ q ∷ []) (view-at c.args.pairs.now n p c.index-pairs-place.is within)
          ∙ sym (take_more qs n (pair_view p) long);
      distinct = new-distinct before (entry_pairs c.in_ok-entries-2.entries) (view p.0) (view p.1) c.in-Err.ensures.new.absent pushed c.loop-place.invariant.distinct;
      indexed =
          noted c.loop-place.index c.in_ok-index-in-Err.index before (entry_pairs c.in_ok-entries-2.entries) (view p.0) (view p.1) c.in-Err.rank (length c.loop-place.index) pushed
          c.in_ok-index-in-Err.ensures c.loop-place.invariant.indexed.counted c.loop-place.invariant.indexed c.in-Err.ensures.new;
      peaked =
          subst (λ (ps : Pairs). FitsPeaks c.with_pair-peaks.result ps) (sym pushed)
          (c.with_pair-peaks.ensures before c.loop-place.invariant.peaked);
    }

pub returns-in-Ok : goal.returns-in-Ok
returns-in-Ok c =
    let p = c.index-pairs-place.result in
    let n = c.loop-place.place in
    let qs = map pair_view c.args.pairs.now in
    let within : n < length c.args.pairs.now = omega (arith, c.loop-place-test.true) in
    let same : entry_pairs c.loop-place.entries ≡ pairs_of (take n qs) = ap pairs_of c.loop-place.invariant.so_far in
    first-repeat qs n (pair_view p) (view-at c.args.pairs.now n p c.index-pairs-place.is within) (omega (arith, within, length-map c.args.pairs.now pair_view))
    (subst (λ (ps : Pairs). are_distinct ps ≡ true) same c.loop-place.invariant.distinct)
    (ap (λ (ps : Pairs). has_key ps (view p.0)) (sym same) ∙ has_key-placed (entry_pairs c.loop-place.entries) (view p.0) c.in-Ok.field-0.place c.in-Ok.ensures.found)

pub returns : goal.returns
returns c =
    let n = c.loop-place.place in
    let qs = map pair_view c.args.pairs.now in
    let past : length qs ≤ n = omega (arith, c.loop-place-test.false, length-map c.args.pairs.now pair_view) in
    let same : entry_pairs c.loop-place.entries ≡ pairs_of (take n qs) = ap pairs_of c.loop-place.invariant.so_far in (
      c.in_ok-sealed_table.ensures ∙ same ∙ ap pairs_of (take-past qs n past),
      no-repeat qs n past (subst (λ (ps : Pairs). are_distinct ps ≡ true) same c.loop-place.invariant.distinct),
    )
