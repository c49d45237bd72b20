-- The sides of a fork hold less than the fork.
use Rattle.std.specs.Prelude.{◌≤◌, max}
use Rattle.std.proofs.Common.{arith}
use Rattle.chunked_list.specs.Nodes.{numbers_held}
use Rattle.chunked_list.specs.declared.tree.NumbersShape.{NumbersShape}
use Rattle.chunked_list.specs.declared.tree.NumbersShape.TheVariants as shape
use Rattle.chunked_list.specs.declared.tree.NumbersTree.TheDeep.{deep-NumbersShape}

pub numbers_shape-falls : (s : NumbersShape) → max (max (deep-NumbersShape s) 0) 0 ≤ numbers_held s
numbers_shape-falls (shape.Leaf v) = omega arith
numbers_shape-falls (shape.Fork l r) = omega arith
