-- Values within the limits that a decoder sets, and that a short text without deep nesting is of one.
use Rattle.std.proofs.Common.{ℕ, ◌-◌, ◌<◌, ◌≤◌, List, [], ◌∷◌, length, decimal, codes, ◌++◌, length-append, arith}
use Rattle.bencode_wire.specs.Tree.{Tree, integer, string, list, dictionary, Trees, no_trees, tree, TreePairs, no_pairs, pair, HasKey}
use Rattle.bencode_wire.specs.Spelling.{text, trees_text, pairs_text, string_text, IsDistinct, AreDistinct, PairsDistinct}
use Rattle.bencode_wire.specs.Inside.Nesting.{tree_nesting, trees_nesting, tree_pairs_nesting}

-- no key stands twice among these pairs, whatever their values
abbrev pub KeysDiffer : TreePairs → Type 0
KeysDiffer no_pairs = Unit {0}
KeysDiffer (pair key t ps) = (HasKey key ps → ⊥) × KeysDiffer ps

-- no string is longer than the limit, no key stands twice in a dictionary, and no nesting is deeper than `depth`
abbrev mutual
  pub IsWithin : ℕ → ℕ → Tree → Type 0
  IsWithin limit depth (integer n) = Unit {0}
  IsWithin limit depth (string bytes) = length bytes ≤ limit
  IsWithin limit depth (list ts) = (0 < depth) × AreWithin limit (depth - 1) ts
  IsWithin limit depth (dictionary ps) = (0 < depth) × KeysDiffer ps × PairsWithin limit (depth - 1) ps

  pub AreWithin : ℕ → ℕ → Trees → Type 0
  AreWithin limit depth no_trees = Unit {0}
  AreWithin limit depth (tree t ts) = IsWithin limit depth t × AreWithin limit depth ts

  pub PairsWithin : ℕ → ℕ → TreePairs → Type 0
  PairsWithin limit depth no_pairs = Unit {0}
  PairsWithin limit depth (pair key t ps) = (length key ≤ limit) × IsWithin limit depth t × PairsWithin limit depth ps

keys_differ : (ps : TreePairs) → PairsDistinct ps → KeysDiffer ps
keys_differ no_pairs h = tt
keys_differ (pair key t ps) h = (h.0, keys_differ ps h.2)

string_within : (limit : ℕ) (bytes : List ℕ) → length (string_text bytes) ≤ limit → length bytes ≤ limit
string_within limit bytes h = let long = length-append (decimal (length bytes) ++ codes ":") bytes in omega arith

mutual
  pub within : (limit depth : ℕ) (t : Tree) → IsDistinct t → tree_nesting t ≤ depth → length (text t) ≤ limit → IsWithin limit depth t
  within limit depth (integer n) d deep long = tt
  within limit depth (string bytes) d deep long = string_within limit bytes long
  within limit depth (list ts) d deep long =
      let inner = length-append (trees_text ts) (101 ∷ []) in
      (omega arith, trees_within limit (depth - 1) ts d (omega arith) (omega arith))
  within limit depth (dictionary ps) d deep long =
      let inner = length-append (pairs_text ps) (101 ∷ []) in
      (omega arith, keys_differ ps d, pairs_within limit (depth - 1) ps d (omega arith) (omega arith))

  trees_within : (limit depth : ℕ) (ts : Trees) → AreDistinct ts → trees_nesting ts ≤ depth → length (trees_text ts) ≤ limit → AreWithin limit depth ts
  trees_within limit depth no_trees d deep long = tt
  trees_within limit depth (tree t ts) d deep long =
      let both = length-append (text t) (trees_text ts) in
      (within limit depth t d.0 (omega arith) (omega arith), trees_within limit depth ts d.1 (omega arith) (omega arith))

  pairs_within : (limit depth : ℕ) (ps : TreePairs) → PairsDistinct ps → tree_pairs_nesting ps ≤ depth → length (pairs_text ps) ≤ limit → PairsWithin limit depth ps
  pairs_within limit depth no_pairs d deep long = tt
  pairs_within limit depth (pair key t ps) d deep long =
      let all = length-append (string_text key ++ text t) (pairs_text ps) in
      let both = length-append (string_text key) (text t) in (
        string_within limit key (omega arith),
        within limit depth t d.1 (omega arith) (omega arith),
        pairs_within limit depth ps d.2 (omega arith) (omega arith),
      )
