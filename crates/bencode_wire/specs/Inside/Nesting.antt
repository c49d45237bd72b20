-- How deep lists and dictionaries nest in a value, itself included.
use Rattle.std.specs.Prelude.{ℕ, suc, max}
use Rattle.bencode_wire.specs.Tree.{Tree, integer, string, list, dictionary, Trees, no_trees, tree}
use Rattle.bencode_wire.specs.Tree.{TreePairs, no_pairs, pair}

abbrev mutual
  pub tree_nesting : Tree → ℕ
  tree_nesting (integer n) = 0
  tree_nesting (string bytes) = 0
  tree_nesting (list ts) = suc (trees_nesting ts)
  tree_nesting (dictionary ps) = suc (tree_pairs_nesting ps)

  pub trees_nesting : Trees → ℕ
  trees_nesting no_trees = 0
  trees_nesting (tree t ts) = max (tree_nesting t) (trees_nesting ts)

  pub tree_pairs_nesting : TreePairs → ℕ
  tree_pairs_nesting no_pairs = 0
  tree_pairs_nesting (pair key t ps) = max (tree_nesting t) (tree_pairs_nesting ps)
