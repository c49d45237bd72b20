use Rattle.std.proofs.Common.{◌≡◌, ◌+◌, ◌-◌, ◌/◌, ◌<◌, ℕ, length, Some, sym, ap, ◌∙◌, arith}
use Rattle.std.specs.Prelude.{slice_index_or}
use Rattle.value_data.specs.Inside.View.{view}
use Rattle.value_data.specs.Inside.Nodes.{entry_pairs}
use Rattle.value_data.specs.Inside.Order.{SortKey, order, sort_key}
use Rattle.value_data.specs.Inside.Index.{key_at}
use Rattle.value_data.proofs.Ordered.{order-exact}
use Rattle.value_data.proofs.Sameness.{size-pairs_of}
use Rattle.value_data.proofs.Sorted.{order-Greater}
use Rattle.value_data.proofs.Searching.{found-place, absent-place, before-more, behind-more, key-got, index-within}
use Rattle.value_data.proofs.places.search.Goals as goal

pub loop-low-init : goal.loop-low-init
loop-low-init c = record {
  places = index-within c.args.entries.now.listed c.args.index.now c.requires;
  ordered = omega arith;
  within = omega (arith, c.requires.counted, size-pairs_of c.args.entries.now.listed);
  before = λ i l. absurd (omega (arith, l));
  behind = λ i l m. absurd (omega (arith, l, m, c.requires.counted, size-pairs_of c.args.entries.now.listed));
}

pub loop-low-preserved-in-Less : goal.loop-low-preserved-in-Less
loop-low-preserved-in-Less c =
    let ps = entry_pairs c.args.entries.now in
    let key = sort_key (view c.args.key.now) in
    let middle : ℕ = c.loop-low.low + (c.loop-low.high - c.loop-low.low) / 2 in
    let below : middle < length c.args.index.now = omega (arith, c.loop-low-test.true, c.loop-low.invariant.within) in
    let inside : c.at-place.result < length c.args.entries.now.listed = omega (arith, c.at-place.ensures, c.loop-low.invariant.places middle 0 below) in
    let compared : c.compare.result ≡ order (key_at ps (slice_index_or c.args.index.now middle 0)) key =
    c.compare.ensures
    ∙ ap (λ (k : SortKey). order k key) (key-got c.args.entries.now.listed c.at-place.result (view c.key.result.now) c.key.ensures inside)
    ∙ ap (λ (n : ℕ). order (key_at ps n) key) c.at-place.ensures in
    record {
      places = c.loop-low.invariant.places;
      ordered = omega (arith, c.loop-low-test.true);
      within = c.loop-low.invariant.within;
      before = before-more c.args.index.now ps (view c.args.key.now) middle c.requires below (sym compared ∙ c.in-Less.is);
      behind = c.loop-low.invariant.behind;
    }

pub returns-in-Equal-clause-found : goal.returns-in-Equal-clause-found
returns-in-Equal-clause-found c =
    let ps = entry_pairs c.args.entries.now in
    let key = sort_key (view c.args.key.now) in
    let middle : ℕ = c.loop-low.low + (c.loop-low.high - c.loop-low.low) / 2 in
    let below : middle < length c.args.index.now = omega (arith, c.loop-low-test.true, c.loop-low.invariant.within) in
    let inside : c.at-place.result < length c.args.entries.now.listed = omega (arith, c.at-place.ensures, c.loop-low.invariant.places middle 0 below) in
    let compared : c.compare.result ≡ order (key_at ps (slice_index_or c.args.index.now middle 0)) key =
    c.compare.ensures
    ∙ ap (λ (k : SortKey). order k key) (key-got c.args.entries.now.listed c.at-place.result (view c.key.result.now) c.key.ensures inside)
    ∙ ap (λ (n : ℕ). order (key_at ps n) key) c.at-place.ensures in
    found-place c.args.index.now ps (view c.args.key.now) middle c.requires below
    (order-exact (key_at ps (slice_index_or c.args.index.now middle 0)) key (sym compared ∙ c.in-Equal.is))
    ∙ ap Some (sym c.at-place.ensures)

pub loop-low-preserved : goal.loop-low-preserved
loop-low-preserved c =
    let ps = entry_pairs c.args.entries.now in
    let key = sort_key (view c.args.key.now) in
    let middle : ℕ = c.loop-low.low + (c.loop-low.high - c.loop-low.low) / 2 in
    let below : middle < length c.args.index.now = omega (arith, c.loop-low-test.true, c.loop-low.invariant.within) in
    let inside : c.at-place.result < length c.args.entries.now.listed = omega (arith, c.at-place.ensures, c.loop-low.invariant.places middle 0 below) in
    let compared : c.compare.result ≡ order (key_at ps (slice_index_or c.args.index.now middle 0)) key =
    c.compare.ensures
    ∙ ap (λ (k : SortKey). order k key) (key-got c.args.entries.now.listed c.at-place.result (view c.key.result.now) c.key.ensures inside)
    ∙ ap (λ (n : ℕ). order (key_at ps n) key) c.at-place.ensures in
    record {
      places = c.loop-low.invariant.places;
      ordered = omega arith;
      within = omega (arith, below);
      before = c.loop-low.invariant.before;
      behind =
          behind-more c.args.index.now ps (view c.args.key.now) middle c.requires
          (order-Greater (key_at ps (slice_index_or c.args.index.now middle 0)) key (sym compared ∙ c.in-Greater.is));
    }

pub returns-clause-new : goal.returns-clause-new
returns-clause-new c =
    record {
      absent = absent-place c.args.index.now (entry_pairs c.args.entries.now) (view c.args.key.now) c.loop-low.low c.requires c.loop-low.invariant.before
          (λ i l m. c.loop-low.invariant.behind i (omega (arith, l, c.loop-low-test.false)) m);
      in_range = omega (arith, c.loop-low.invariant.ordered, c.loop-low.invariant.within);
      before = c.loop-low.invariant.before;
      behind = λ i l m. c.loop-low.invariant.behind i (omega (arith, l, c.loop-low-test.false)) m;
    }
