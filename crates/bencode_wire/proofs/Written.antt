-- Sorting twice is sorting once.
use Rattle.std.proofs.Common.{◌≡◌, ℕ, Ordering, Less, Equal, Greater, nat_cmp, List, refl, ap, ◌∙◌}
use Rattle.std.proofs.lemmas.Cmp.{nat_list_cmp_total}
use Rattle.std.specs.Cmp.Lexicographic.{slice_cmp}
use Rattle.std.specs.Ordering.{match_ordering, ordering_reverse}
use Rattle.bencode_wire.specs.Tree.{Tree, integer, string, list, dictionary, Trees, no_trees, tree, TreePairs, no_pairs, pair, add_pair}
use Rattle.bencode_wire.specs.Spelling.{put_sorted, put_tree_pairs, sorted, sorted_trees}
use Rattle.bencode_wire.proofs.Complete.{append_pairs, append_pairs-none}

abbrev pub order : List ℕ → List ℕ → Ordering
order a b = slice_cmp nat_cmp a b

-- each key is above this one
abbrev pub Above : List ℕ → TreePairs → Type 0
Above key no_pairs = Unit {0}
Above key (pair k t ps) = (order key k ≡ Less) × Above key ps

-- the keys ascend, and each value is sorted
abbrev pub InOrder : TreePairs → Type 0
InOrder no_pairs = Unit {0}
InOrder (pair k t ps) = Above k ps × (sorted t ≡ t) × InOrder ps

above_from : (a b : List ℕ) (ps : TreePairs) → order a b ≡ Less → Above b ps → Above a ps
above_from a b no_pairs h g = tt
above_from a b (pair k t ps) h g = (nat_list_cmp_total.trans a b k h g.0, above_from a b ps h g.1)

above_ordered : (o : Ordering) (low key : List ℕ) (t : Tree) (l : List ℕ) (u : Tree) (ps more : TreePairs) → order low key ≡ Less → order low l ≡ Less → Above low ps → Above low more
    → Above low (match_ordering o (pair key t (pair l u ps)) (pair l t ps) (pair l u more))
above_ordered Less low key t l u ps more h g a b = (h, (g, a))
above_ordered Equal low key t l u ps more h g a b = (g, a)
above_ordered Greater low key t l u ps more h g a b = (g, b)

above_put : (low : List ℕ) (ps : TreePairs) (key : List ℕ) (t : Tree) → order low key ≡ Less → Above low ps → Above low (put_sorted ps key t)
above_put low no_pairs key t h g = (h, tt)
above_put low (pair l u ps) key t h g = above_ordered (order key l) low key t l u ps (put_sorted ps key t) h g.0 g.1 (above_put low ps key t h g.1)

in_ordered : (o : Ordering) (key : List ℕ) (t : Tree) (l : List ℕ) (u : Tree) (ps : TreePairs) → order key l ≡ o → sorted t ≡ t → InOrder (pair l u ps) → InOrder (put_sorted ps key t)
    → InOrder (match_ordering o (pair key t (pair l u ps)) (pair l t ps) (pair l u (put_sorted ps key t)))
in_ordered Less key t l u ps is e h g = ((is, above_from key l ps is h.0), e, h)
in_ordered Equal key t l u ps is e h g = (h.0, e, h.2)
in_ordered Greater key t l u ps is e h g = (above_put l ps key t (nat_list_cmp_total.antisymm l key ∙ ap ordering_reverse is) h.0, h.1, g)

in_order_put : (ps : TreePairs) (key : List ℕ) (t : Tree) → sorted t ≡ t → InOrder ps → InOrder (put_sorted ps key t)
in_order_put no_pairs key t e h = (tt, e, tt)
in_order_put (pair l u ps) key t e h = in_ordered (order key l) key t l u ps refl e h (in_order_put ps key t e h.2)

-- each value stays as it is, once sorted
abbrev AreSettled : TreePairs → Type 0
AreSettled no_pairs = Unit {0}
AreSettled (pair k t ps) = (sorted (sorted t) ≡ sorted t) × AreSettled ps

in_order_all : (done ps : TreePairs) → InOrder done → AreSettled ps → InOrder (put_tree_pairs done ps)
in_order_all done no_pairs h g = h
in_order_all done (pair k t ps) h g = in_order_all (put_sorted done k (sorted t)) ps (in_order_put done k (sorted t) g.0 h) g.1

-- this key is above each
abbrev IsLast : List ℕ → TreePairs → Type 0
IsLast key no_pairs = Unit {0}
IsLast key (pair k t ps) = (order key k ≡ Greater) × IsLast key ps

abbrev AreLast : TreePairs → TreePairs → Type 0
AreLast done no_pairs = Unit {0}
AreLast done (pair k t ps) = IsLast k done × AreLast done ps

last_add : (key : List ℕ) (done : TreePairs) (k : List ℕ) (t : Tree) → IsLast key done → order key k ≡ Greater → IsLast key (add_pair done k t)
last_add key no_pairs k t h g = (g, tt)
last_add key (pair l u done) k t h g = (h.0, last_add key done k t h.1 g)

lasts_add : (done : TreePairs) (k : List ℕ) (t : Tree) (ps : TreePairs) → AreLast done ps → Above k ps → AreLast (add_pair done k t) ps
lasts_add done k t no_pairs h g = tt
lasts_add done k t (pair l u ps) h g =
    (last_add l done k t h.0 (nat_list_cmp_total.antisymm l k ∙ ap ordering_reverse g.0), lasts_add done k t ps h.1 g.1)

lasts_none : (ps : TreePairs) → AreLast no_pairs ps
lasts_none no_pairs = tt
lasts_none (pair k t ps) = (tt, lasts_none ps)

put_last : (done : TreePairs) (key : List ℕ) (t : Tree) → IsLast key done → put_sorted done key t ≡ add_pair done key t
put_last no_pairs key t h = refl
put_last (pair l u done) key t h =
    ap (λ o. match_ordering o (pair key t (pair l u done)) (pair l t done) (pair l u (put_sorted done key t))) h.0 ∙ ap (pair l u) (put_last done key t h.1)

put_in_order : (done ps : TreePairs) → InOrder ps → AreLast done ps → put_tree_pairs done ps ≡ append_pairs done ps
put_in_order done no_pairs h g = refl
put_in_order done (pair k t ps) h g =
    ap (λ x. put_tree_pairs (put_sorted done k x) ps) h.1 ∙ ap (λ x. put_tree_pairs x ps) (put_last done k t g.0)
    ∙ put_in_order (add_pair done k t) ps h.2 (lasts_add done k t ps g.1 h.0)

mutual
  -- sorting twice is sorting once
  pub sorted_twice : (t : Tree) → sorted (sorted t) ≡ sorted t
  sorted_twice (integer n) = refl
  sorted_twice (string bytes) = refl
  sorted_twice (list ts) = ap list (trees_twice ts)
  sorted_twice (dictionary ps) =
      let all = put_tree_pairs no_pairs ps in
      ap dictionary (put_in_order no_pairs all (in_order_all no_pairs ps tt (settled ps)) (lasts_none all) ∙ append_pairs-none all)

  trees_twice : (ts : Trees) → sorted_trees (sorted_trees ts) ≡ sorted_trees ts
  trees_twice no_trees = refl
  trees_twice (tree t ts) = ap (λ x. tree x (sorted_trees (sorted_trees ts))) (sorted_twice t) ∙ ap (tree (sorted t)) (trees_twice ts)

  settled : (ps : TreePairs) → AreSettled ps
  settled no_pairs = tt
  settled (pair k t ps) = (sorted_twice t, settled ps)

-- the keys of pairs that were put in one by one ascend
pub put_in_ascending : (ps : TreePairs) → InOrder (put_tree_pairs no_pairs ps)
put_in_ascending ps = in_order_all no_pairs ps tt (settled ps)
