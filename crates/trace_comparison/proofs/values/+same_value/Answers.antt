use Rattle.std.proofs.Common.{arith}
use Rattle.value_data.specs.Listed.{listed}
use Rattle.value_data.proofs.Chunks.{chunk-nodes, chunk-fits}
use Rattle.trace_comparison.proofs.Sequences.{chunks-next, chunks-differ}
use Rattle.trace_comparison.proofs.values.+same_value.Goals as goal

pub same_items-same_chunks-requires : goal.same_items-same_chunks-requires
same_items-same_chunks-requires t c =
    let ours = c.chunk_from-ours.result.now in (
      omega (arith, chunk-nodes ours c.args.left.now.items c.loop-place.place c.min-common.result c.chunk_from-ours.ensures.prefix (omega (arith, c.min-common.ensures))),
      tt,
    )

pub same_items-returns-then-not-same_chunks : goal.same_items-returns-then-not-same_chunks
same_items-returns-then-not-same_chunks t c =
    let ours = c.chunk_from-ours.result.now in
    let theirs = c.chunk_from-theirs.result.now in
    let less = c.min-common.ensures in (
      λ e. absurd (cc e),
      λ same.
          absurd
          (chunks-differ ours theirs c.args.left.now.items c.args.right.now.items c.loop-place.place c.min-common.result c.chunk_from-ours.ensures.prefix
          c.chunk_from-theirs.ensures.prefix (omega (arith, less)) (omega (arith, less))
          (λ equal. let told = c.same_chunks.ensures.1 equal in cc (told, c.if-not-same_chunks.true)) same),
    )

pub same_items-loop-place-preserved : goal.same_items-loop-place-preserved
same_items-loop-place-preserved t c =
    let ours = c.chunk_from-ours.result.now in
    let theirs = c.chunk_from-theirs.result.now in
    let left = listed c.args.left.now.items in
    let right = listed c.args.right.now.items in
    let place = c.loop-place.place in
    record {
      within = omega (
        arith,
        c.min-common.ensures,
        c.len-count.ensures.count,
        c.loop-place-test.true,
        chunk-fits ours left place c.chunk_from-ours.ensures.prefix,
      );
      before = chunks-next ours theirs left right place c.min-common.result c.chunk_from-ours.ensures.prefix c.chunk_from-theirs.ensures.prefix
          (omega (arith, c.min-common.ensures)) (omega (arith, c.min-common.ensures)) (c.same_chunks.ensures.0 c.if-not-same_chunks.false) c.loop-place.invariant.before;
    }
