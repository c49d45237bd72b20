-- How a value is spelled (BEP 3, "Bencoding").
use Rattle.std.specs.Prelude.{◌≡◌, ℕ, ◌<◌, ◌^◌, ℤ, pos, negsuc, List, [], ◌∷◌, ◌++◌, length, codes}
use Rattle.std.specs.Prelude.{decimal}
use Rattle.std.specs.Fmt.{signed_decimal}
use Rattle.std.specs.Ordering.{nat_cmp, match_ordering}
use Rattle.std.specs.Cmp.Lexicographic.{slice_cmp}
use Rattle.bencode_wire.specs.Tree.{Tree, integer, string, list, dictionary, Trees, no_trees, tree}
use Rattle.bencode_wire.specs.Tree.{TreePairs, no_pairs, pair, HasKey}

abbrev pub integer_text : ℤ → List ℕ
integer_text n = codes "i" ++ signed_decimal n ++ codes "e"

abbrev pub string_text : List ℕ → List ℕ
string_text bytes = decimal (length bytes) ++ codes ":" ++ bytes

-- a value's spelling, with its pairs in the order in which they stand
abbrev mutual
  pub text : Tree → List ℕ
  text (integer n) = integer_text n
  text (string bytes) = string_text bytes
  text (list ts) = codes "l" ++ trees_text ts ++ codes "e"
  text (dictionary ps) = codes "d" ++ pairs_text ps ++ codes "e"

  pub trees_text : Trees → List ℕ
  trees_text no_trees = []
  trees_text (tree t ts) = text t ++ trees_text ts

  pub pairs_text : TreePairs → List ℕ
  pairs_text no_pairs = []
  pairs_text (pair key t ps) = string_text key ++ text t ++ pairs_text ps

-- an integer within 64 signed bits
abbrev pub IsInteger : ℤ → Type 0
IsInteger (pos n) = n < 2 ^ 63
IsInteger (negsuc n) = n < 2 ^ 63

-- a length, of at most 64 digits. A decoder's limit is below 2 ^ 64, so a length passes the limit
-- before it passes this
abbrev pub IsLength : ℕ → Type 0
IsLength n = n < 10 ^ 64

abbrev pub IsString : List ℕ → Type 0
IsString bytes = IsLength (length bytes)

-- a value of the grammar, equal keys being let pass
abbrev mutual
  pub IsSpellable : Tree → Type 0
  IsSpellable (integer n) = IsInteger n
  IsSpellable (string bytes) = IsString bytes
  IsSpellable (list ts) = AreSpellable ts
  IsSpellable (dictionary ps) = ArePairs ps

  pub AreSpellable : Trees → Type 0
  AreSpellable no_trees = Unit {0}
  AreSpellable (tree t ts) = IsSpellable t × AreSpellable ts

  pub ArePairs : TreePairs → Type 0
  ArePairs no_pairs = Unit {0}
  ArePairs (pair key t ps) = IsString key × IsSpellable t × ArePairs ps

abbrev pub spellings_joined : List (List ℕ) → List ℕ
spellings_joined [] = []
spellings_joined (bytes ∷ more) = bytes ++ spellings_joined more

-- at every level no key stands twice
abbrev mutual
  pub IsDistinct : Tree → Type 0
  IsDistinct (integer n) = Unit {0}
  IsDistinct (string bytes) = Unit {0}
  IsDistinct (list ts) = AreDistinct ts
  IsDistinct (dictionary ps) = PairsDistinct ps

  pub AreDistinct : Trees → Type 0
  AreDistinct no_trees = Unit {0}
  AreDistinct (tree t ts) = IsDistinct t × AreDistinct ts

  pub PairsDistinct : TreePairs → Type 0
  PairsDistinct no_pairs = Unit {0}
  PairsDistinct (pair key t ps) = (HasKey key ps → ⊥) × IsDistinct t × PairsDistinct ps

-- the pairs, sorted by their keys as raw bytes, with one more; a key that stands there takes the
-- new value
abbrev pub put_sorted : TreePairs → List ℕ → Tree → TreePairs
put_sorted no_pairs key t = pair key t no_pairs
put_sorted (pair k u ps) key t =
    match_ordering (slice_cmp nat_cmp key k) (pair key t (pair k u ps)) (pair k t ps)
    (pair k u (put_sorted ps key t))

-- a value with the pairs put in one by one by their keys as raw bytes, at every level
abbrev mutual
  pub sorted : Tree → Tree
  sorted (integer n) = integer n
  sorted (string bytes) = string bytes
  sorted (list ts) = list (sorted_trees ts)
  sorted (dictionary ps) = dictionary (put_tree_pairs no_pairs ps)

  pub sorted_trees : Trees → Trees
  sorted_trees no_trees = no_trees
  sorted_trees (tree t ts) = tree (sorted t) (sorted_trees ts)

  pub put_tree_pairs : TreePairs → TreePairs → TreePairs
  put_tree_pairs done no_pairs = done
  put_tree_pairs done (pair key t ps) = put_tree_pairs (put_sorted done key (sorted t)) ps

-- the spelling whose keys are sorted
abbrev pub canonical : Tree → List ℕ
canonical t = text (sorted t)

-- the values differ in the order of their pairs alone, at every level
abbrev pub IsReordered : Tree → Tree → Type 0
IsReordered t u = IsDistinct t × IsDistinct u × (sorted t ≡ sorted u)

-- `bytes` is a spelling of the value: the text of one that differs from it in the order of pairs
-- alone
abbrev pub Spells : Tree → List ℕ → Type 0
Spells t bytes = (u : Tree) × IsSpellable u × IsReordered t u × (bytes ≡ text u)
