use Rattle.std.proofs.Common.{arith}
use Rattle.value_data.proofs.Lists.{take-whole, take-counts}
use Rattle.value_data.proofs.hashing.front.Goals as goal

pub slice_bounds-result-end : goal.slice_bounds-result-end
slice_bounds-result-end c = take-counts c.args.bytes.now 64 (omega (arith, c.if-bytes-le-READ.false))

pub returns-then-bytes-le-READ : goal.returns-then-bytes-le-READ
returns-then-bytes-le-READ c = take-whole c.args.bytes.now 64 c.if-bytes-le-READ.true
