-- What a value of bencode is (BEP 3), without where it lies in memory. A dictionary's pairs stand
-- in some order.
use Rattle.std.specs.Prelude.{◌≡◌, ℕ, ℤ, List, Bool, true, false, ◌||◌, Option, Some, None}
use Rattle.std.specs.Prelude.{if◌then◌else◌, bytes_eq}

mutual
  pub data Tree : Type 0 where
    integer : ℤ → Tree
    string : List ℕ → Tree
    list : Trees → Tree
    dictionary : TreePairs → Tree

  pub data Trees : Type 0 where
    no_trees : Trees
    tree : Tree → Trees → Trees

  pub data TreePairs : Type 0 where
    no_pairs : TreePairs
    pair : List ℕ → Tree → TreePairs → TreePairs

-- the values and one more
abbrev pub add_tree : Trees → Tree → Trees
add_tree no_trees t = tree t no_trees
add_tree (tree u ts) t = tree u (add_tree ts t)

-- the pairs and one more
abbrev pub add_pair : TreePairs → List ℕ → Tree → TreePairs
add_pair no_pairs key t = pair key t no_pairs
add_pair (pair k u ps) key t = pair k u (add_pair ps key t)

-- whether a pair has the key
abbrev pub holds_key : List ℕ → TreePairs → Bool
holds_key key no_pairs = false
holds_key key (pair k t ps) = bytes_eq key k || holds_key key ps

abbrev pub HasKey : List ℕ → TreePairs → Type 0
HasKey key ps = holds_key key ps ≡ true

-- the value under a key
abbrev pub field : List ℕ → TreePairs → Option Tree
field key no_pairs = None
field key (pair k t ps) = if bytes_eq key k then Some t else field key ps
