use Rattle.std.proofs.Common.{◌≡◌, ℕ, suc, ◌+◌, false, length, drop, nat_cmp, refl, sym, ap, ◌∙◌, add-one, arith}
use Rattle.std.specs.Arc.{arc_value}
use Rattle.std.specs.Ordering.{is_ne, ordering_then}
use Rattle.value_data.specs.Datum.{map}
use Rattle.value_data.specs.Inside.Held.{TableData}
use Rattle.value_data.proofs.Size.{pairs_nodes}
use Rattle.value_data.proofs.Sameness.{size-pairs_of}
use Rattle.value_data.specs.Same.{size}
use Rattle.value_data.specs.Inside.Hash.{hash}
use Rattle.value_data.specs.Inside.View.{view}
use Rattle.value_data.specs.Inside.Nodes.{entry_pairs}
use Rattle.value_data.specs.Inside.Seen.{entry_view}
use Rattle.value_data.specs.Inside.Order.{order, sort_key, chain, sorted_keys, rows}
use Rattle.value_data.specs.Inside.Index.{row_at, rows_at}
use Rattle.value_data.specs.declared.value.PairsNode.{PairsNode}
use Rattle.value_data.specs.declared.value.Value.{Value}
use Rattle.value_data.proofs.Ranked.{chain-none, two-equal, equal-numbers, items-order, two-open-at, node-rows, node-within, rows-step, then-decided, then-open}
use Rattle.value_data.specs.Listed.{listed}
use Rattle.value_data.proofs.Chunks.{keys, keys-listed, keys-end, chunk-nodes, chunk-fits, chunks-order, length-parts}
use Rattle.value_data.proofs.order.+compare.Goals as goal

pub compare_chunks-loop-place-init : goal.compare_chunks-loop-place-init
compare_chunks-loop-place-init t c = items-order c.args.left.now c.args.right.now

pub compare_chunks-returns : goal.compare_chunks-returns
compare_chunks-returns t c =
    chain-none (λ (v : Value). sort_key (view v)) (λ (v : Value). sort_key (view v)) c.args.left.now c.args.right.now c.loop-place.place
    (omega (arith, c.loop-place-test.false)) (omega (arith, c.loop-place-test.false, c.requires))
    ∙ c.loop-place.invariant

pub compare_items-loop-place-init : goal.compare_items-loop-place-init
compare_items-loop-place-init t c =
    record { known = rw (keys-listed c.args.left.now.items, keys-listed c.args.right.now.items) refl; within = omega arith }

pub compare_items-compare_chunks-compared-requires : goal.compare_items-compare_chunks-compared-requires
compare_items-compare_chunks-compared-requires t c =
    let ours = c.chunk_from-ours.result.now in
    let theirs = c.chunk_from-theirs.result.now in (
      omega (arith, chunk-nodes ours c.args.left.now.items c.loop-place.place c.min-common.result c.chunk_from-ours.ensures.prefix (omega (arith, c.min-common.ensures))),
      length-parts ours theirs c.min-common.result (omega (arith, c.min-common.ensures)) (omega (arith, c.min-common.ensures)),
    )

pub compare_items-returns-then-is_ne : goal.compare_items-returns-then-is_ne
compare_items-returns-then-is_ne t c =
    let ours = c.chunk_from-ours.result.now in
    let theirs = c.chunk_from-theirs.result.now in
    let left = listed c.args.left.now.items in
    let right = listed c.args.right.now.items in
    let place = c.loop-place.place in
    let common = c.min-common.result in
    let step =
    chunks-order ours theirs left right place common c.chunk_from-ours.ensures.prefix c.chunk_from-theirs.ensures.prefix
    (omega (arith, c.min-common.ensures)) (omega (arith, c.min-common.ensures)) in
    then-decided c.compare_chunks-compared.result _ (order (keys (drop (place + common) left)) (keys (drop (place + common) right)))
    (sym c.if-is_ne.true ∙ c.is_ne.ensures) c.compare_chunks-compared.ensures
    ∙ sym step
    ∙ c.loop-place.invariant.known

pub compare_items-loop-place-preserved : goal.compare_items-loop-place-preserved
compare_items-loop-place-preserved t c =
    let ours = c.chunk_from-ours.result.now in
    let theirs = c.chunk_from-theirs.result.now in
    let left = listed c.args.left.now.items in
    let right = listed c.args.right.now.items in
    let place = c.loop-place.place in
    let common = c.min-common.result in
    let step =
    chunks-order ours theirs left right place common c.chunk_from-ours.ensures.prefix c.chunk_from-theirs.ensures.prefix
    (omega (arith, c.min-common.ensures)) (omega (arith, c.min-common.ensures)) in
    record {
      known =
          sym (then-open c.compare_chunks-compared.result _ (order (keys (drop (place + common) left)) (keys (drop (place + common) right)))
          (sym c.if-is_ne.false ∙ c.is_ne.ensures) c.compare_chunks-compared.ensures)
          ∙ sym step
          ∙ c.loop-place.invariant.known;
      within = omega (
        arith,
        c.min-common.ensures,
        c.min-count.ensures,
        c.len.ensures.count,
        c.len-2.ensures.count,
        c.loop-place-test.true,
        chunk-fits ours left place c.chunk_from-ours.ensures.prefix,
        chunk-fits theirs right place c.chunk_from-theirs.ensures.prefix,
      );
    }

pub compare_items-returns : goal.compare_items-returns
compare_items-returns t c =
    let left = listed c.args.left.now.items in
    let right = listed c.args.right.now.items in
    let counts = c.min-count.ensures in
    let ours = c.len.ensures.count in
    let theirs = c.len-2.ensures.count in
    let least = c.loop-place-test.false in
    c.cmp.ensures
    ∙ ap (λ (n : ℕ). nat_cmp n c.len-4.result) c.len-3.ensures.count
    ∙ ap (λ (n : ℕ). nat_cmp (length left) n) c.len-4.ensures.count
    ∙ keys-end left right c.loop-place.place (omega (arith, counts, ours, theirs, c.loop-place.invariant.within))
    (omega (arith, counts, ours, theirs, c.loop-place.invariant.within)) (omega (arith, counts, ours, theirs, least))
    ∙ c.loop-place.invariant.known

pub compare_maps-compare_rows-requires : goal.compare_maps-compare_rows-requires
compare_maps-compare_rows-requires t c =
    let l = c.args.left.now.pairs in
    let r = c.args.right.now.pairs in
    let ours = ap (λ (n : PairsNode). n.entries) c.deref.ensures in
    let theirs = ap (λ (n : PairsNode). n.entries) c.deref-3.ensures in
    let left : entry_pairs c.deref.result.now.entries ≡ l = ap entry_pairs ours ∙ ap (λ (d : TableData). d.pairs) c.left.view_is in
    let right : entry_pairs c.deref-3.result.now.entries ≡ r = ap entry_pairs theirs ∙ ap (λ (d : TableData). d.pairs) c.right.view_is in
    let sizes : c.cmp-2.result ≡ nat_cmp (size l) (size r) =
    c.cmp-2.ensures ∙ ap (λ (n : ℕ). nat_cmp n c.len-2.result) c.len.ensures.count ∙ ap (λ (n : ℕ). nat_cmp (size l) n) c.len-2.ensures.count in
    let undecided : is_ne (ordering_then c.cmp.result c.cmp-2.result) ≡ false = ap is_ne (sym c.then-numbers.ensures) ∙ sym c.is_ne.ensures ∙ c.if-is_ne.false in
    let equal : size l ≡ size r = equal-numbers (size l) (size r) (sym sizes ∙ two-equal c.cmp.result c.cmp-2.result undecided) in (
      omega (arith, ap pairs_nodes left),
      (
        node-within (arc_value c.left.inside.node) c.deref.result.now.entries c.deref-2.result.now.index c.left.invariant ours (ap (λ (n : PairsNode). n.index) c.deref-2.ensures),
        (
          node-within (arc_value c.right.inside.node) c.deref-3.result.now.entries c.deref-4.result.now.index c.right.invariant theirs (ap (λ (n : PairsNode). n.index) c.deref-4.ensures),
          omega (arith, equal, size-pairs_of c.deref.result.now.entries.listed, size-pairs_of c.deref-3.result.now.entries.listed, ap size left, ap size right),
        ),
      ),
    )

pub compare_maps-returns : goal.compare_maps-returns
compare_maps-returns t c =
    let l = c.args.left.now.pairs in
    let r = c.args.right.now.pairs in
    let hashes : c.cmp.result ≡ nat_cmp (hash (map l)) (hash (map r)) =
    c.cmp.ensures ∙ ap (λ (n : ℕ). nat_cmp n c.hash-2.result) c.hash.ensures ∙ ap (λ (n : ℕ). nat_cmp (hash (map l)) n) c.hash-2.ensures in
    let sizes : c.cmp-2.result ≡ nat_cmp (size l) (size r) =
    c.cmp-2.ensures ∙ ap (λ (n : ℕ). nat_cmp n c.len-2.result) c.len.ensures.count ∙ ap (λ (n : ℕ). nat_cmp (size l) n) c.len-2.ensures.count in
    let ours =
    node-rows (arc_value c.left.inside.node) c.args.left.now c.deref.result.now.entries c.deref-2.result.now.index c.left.invariant c.left.view_is
    (ap (λ (n : PairsNode). n.entries) c.deref.ensures)
    (ap (λ (n : PairsNode). n.index) c.deref-2.ensures) in
    let theirs =
    node-rows (arc_value c.right.inside.node) c.args.right.now c.deref-3.result.now.entries c.deref-4.result.now.index c.right.invariant c.right.view_is
    (ap (λ (n : PairsNode). n.entries) c.deref-3.ensures)
    (ap (λ (n : PairsNode). n.index) c.deref-4.ensures) in
    two-open-at c.then-numbers.result (nat_cmp (hash (map l)) (hash (map r))) (nat_cmp (size l) (size r))
    (order (chain (sorted_keys (rows l))) (chain (sorted_keys (rows r)))) c.compare_rows.result
    (sym c.is_ne.ensures ∙ c.if-is_ne.false)
    (rw (hashes, sizes) at c.then-numbers.ensures)
    (rw (ours, theirs) at c.compare_rows.ensures)

pub compare_rows-returns-then-is_ne : goal.compare_rows-returns-then-is_ne
compare_rows-returns-then-is_ne t c =
    let step =
    rows-step c.args.left.now.listed c.args.right.now.listed c.args.left_index.now c.args.right_index.now c.loop-rank.rank c.at.result c.at-in-loop-rank.result (entry_view c.pair-ours.result)
    (entry_view c.pair-theirs.result) (omega (arith, c.loop-rank-test.true, c.len-rank-end.ensures.count, c.requires.left.counted)) (omega (arith, c.loop-rank-test.true, c.len-rank-end.ensures.count, c.requires.right.counted, c.requires.equal)) c.at.ensures
    c.at-in-loop-rank.ensures c.pair-ours.ensures c.requires.left.within c.pair-theirs.ensures c.requires.right.within in
    let rest =
    order (rows_at (entry_pairs c.args.left.now) (drop (suc c.loop-rank.rank) c.args.left_index.now))
    (rows_at (entry_pairs c.args.right.now) (drop (suc c.loop-rank.rank) c.args.right_index.now)) in
    then-decided c.compare_pairs-compared.result _ rest (sym c.if-is_ne.true ∙ c.is_ne.ensures) c.compare_pairs-compared.ensures
    ∙ sym step
    ∙ c.loop-rank.invariant

pub compare_rows-loop-rank-preserved : goal.compare_rows-loop-rank-preserved
compare_rows-loop-rank-preserved t c =
    let step =
    rows-step c.args.left.now.listed c.args.right.now.listed c.args.left_index.now c.args.right_index.now c.loop-rank.rank c.at.result c.at-in-loop-rank.result (entry_view c.pair-ours.result)
    (entry_view c.pair-theirs.result) (omega (arith, c.loop-rank-test.true, c.len-rank-end.ensures.count, c.requires.left.counted)) (omega (arith, c.loop-rank-test.true, c.len-rank-end.ensures.count, c.requires.right.counted, c.requires.equal)) c.at.ensures
    c.at-in-loop-rank.ensures c.pair-ours.ensures c.requires.left.within c.pair-theirs.ensures c.requires.right.within in
    let rest =
    order (rows_at (entry_pairs c.args.left.now) (drop (suc c.loop-rank.rank) c.args.left_index.now))
    (rows_at (entry_pairs c.args.right.now) (drop (suc c.loop-rank.rank) c.args.right_index.now)) in
    rw add-one
    (sym (then-open c.compare_pairs-compared.result _ rest (sym c.if-is_ne.false ∙ c.is_ne.ensures) c.compare_pairs-compared.ensures)
    ∙ sym step
    ∙ c.loop-rank.invariant)

pub compare_rows-returns : goal.compare_rows-returns
compare_rows-returns t c =
    chain-none (row_at (entry_pairs c.args.left.now)) (row_at (entry_pairs c.args.right.now)) c.args.left_index.now c.args.right_index.now c.loop-rank.rank
    (omega (arith, c.loop-rank-test.false, c.len-rank-end.ensures.count, c.requires.left.counted)) (omega (arith, c.loop-rank-test.false, c.len-rank-end.ensures.count, c.requires.right.counted, c.requires.equal))
    ∙ c.loop-rank.invariant
