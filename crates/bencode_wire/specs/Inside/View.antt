-- The data that a `Ben` stands for. A dictionary's pairs stand in the order of its map.
use Rattle.std.specs.Prelude.{ℕ, List, [], ◌∷◌, map, Vec}
use Rattle.std.specs.declared.alloc.Global.{Global}
use Rattle.bencode_wire.specs.Tree.{Tree, integer, string, list, dictionary, Trees, no_trees, tree}
use Rattle.bencode_wire.specs.Tree.{TreePairs, no_pairs, pair}
use Rattle.bencode_wire.specs.declared.ben.Ben.{Ben, fold-Ben}
use Rattle.bencode_wire.specs.declared.ben.Ben.TheOpen.{Ben-F}

abbrev pub trees_of : List Tree → Trees
trees_of [] = no_trees
trees_of (t ∷ ts) = tree t (trees_of ts)

abbrev pub pairs_from : List (Vec ℕ Global × Tree) → TreePairs
pairs_from [] = no_pairs
pairs_from (p ∷ ps) = pair p.0.items p.1 (pairs_from ps)

-- one level, with each value inside already seen as its data
abbrev pub view_step : Ben-F Tree → Tree
view_step (Ben-F.Integer n) = integer n
view_step (Ben-F.String v) = string v.items
view_step (Ben-F.List v) = list (trees_of v.items)
view_step (Ben-F.Dictionary m) = dictionary (pairs_from m.entries)

abbrev pub tree_view : Ben → Tree
tree_view = fold-Ben Tree view_step

abbrev pub trees_view : List Ben → Trees
trees_view vs = trees_of (map tree_view vs)

abbrev pub entry_tree : Vec ℕ Global × Ben → Vec ℕ Global × Tree
entry_tree p = (p.0, tree_view p.1)

abbrev pub entries_view : List (Vec ℕ Global × Ben) → TreePairs
entries_view ps = pairs_from (map entry_tree ps)
