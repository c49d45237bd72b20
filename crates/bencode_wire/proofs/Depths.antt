-- Sorting a value whose keys are distinct loses no nesting.
use Rattle.std.proofs.Common.{◌≡◌, ℕ, ◌≤◌, max, Bool, true, false, ◌||◌, Ordering, Less, Equal, Greater, List, refl, sym, ap, ◌∙◌, arith}
use Rattle.std.proofs.lemmas.Slice.Eq.{bytes_eq-Decides}
use Rattle.std.specs.Ordering.{match_ordering}
use Rattle.std.specs.Str.{bytes_eq}
use Rattle.bencode_wire.specs.Tree.{Tree, integer, string, list, dictionary, Trees, no_trees, tree, TreePairs, no_pairs, pair, holds_key, HasKey}
use Rattle.bencode_wire.specs.Spelling.{sorted, sorted_trees, put_sorted, put_tree_pairs, IsDistinct, AreDistinct, PairsDistinct}
use Rattle.bencode_wire.specs.Inside.Nesting.{tree_nesting, trees_nesting, tree_pairs_nesting}
use Rattle.bencode_wire.proofs.Orders.{same_key, holds_key-put_sorted}
use Rattle.bencode_wire.proofs.Views.{each_sorted}
use Rattle.bencode_wire.proofs.Written.{order}

-- no key of `ps` stands in `done`
abbrev AreApart : TreePairs → TreePairs → Type 0
AreApart done no_pairs = Unit {0}
AreApart done (pair k t ps) = (HasKey k done → ⊥) × AreApart done ps

apart_none : (ps : TreePairs) → AreApart no_pairs ps
apart_none no_pairs = tt
apart_none (pair k t ps) = ((λ e. absurd (cc)), apart_none ps)

key_here : (k l : List ℕ) (u : Tree) (ps : TreePairs) → k ≡ l → HasKey k (pair l u ps)
key_here k l u ps e = let same : bytes_eq k l ≡ true = grind (arith, bytes_eq-Decides) in ap (λ b. b || holds_key k ps) same

key_later : (k : List ℕ) (ps : TreePairs) (b : Bool) → HasKey k ps → b || holds_key k ps ≡ true
key_later k ps true e = refl
key_later k ps false e = e

-- a key that is found among the pairs and one more is that one's, or was there
apart_one : (b : Bool) (l k : List ℕ) (done : TreePairs) → bytes_eq l k ≡ b → (l ≡ k → ⊥) → (HasKey l done → ⊥) → b || holds_key l done ≡ true → ⊥
apart_one true l k done e other was h = other (grind (arith, bytes_eq-Decides))
apart_one false l k done e other was h = was h

apart_put : (done : TreePairs) (k : List ℕ) (v : Tree) (ps : TreePairs) → (HasKey k ps → ⊥) → AreApart done ps → AreApart (put_sorted done k v) ps
apart_put done k v no_pairs h g = tt
apart_put done k v (pair l u ps) h g = (
  λ e. apart_one (bytes_eq l k) l k done refl (λ same. h (key_here k l u ps (sym same))) g.0 (sym (holds_key-put_sorted l done k v) ∙ e),
  apart_put done k v ps (λ e. h (key_later k ps (bytes_eq k l) e)) g.1,
)

grows_ordered : (o : Ordering) (key : List ℕ) (t : Tree) (l : List ℕ) (u : Tree) (ps more : TreePairs) → (o ≡ Equal → ⊥) → max (tree_nesting t) (tree_pairs_nesting ps) ≤ tree_pairs_nesting more
    → max (tree_nesting t) (tree_pairs_nesting (pair l u ps)) ≤ tree_pairs_nesting (match_ordering o (pair key t (pair l u ps)) (pair l t ps) (pair l u more))
grows_ordered Less key t l u ps more other h = omega arith
grows_ordered Equal key t l u ps more other h = absurd (other refl)
grows_ordered Greater key t l u ps more other h = omega arith

put_grows : (ps : TreePairs) (key : List ℕ) (t : Tree) → (HasKey key ps → ⊥) → max (tree_nesting t) (tree_pairs_nesting ps) ≤ tree_pairs_nesting (put_sorted ps key t)
put_grows no_pairs key t new = omega arith
put_grows (pair l u ps) key t new =
    grows_ordered (order key l) key t l u ps (put_sorted ps key t) (λ e. new (key_here key l u ps (same_key key l e)))
    (put_grows ps key t (λ h. new (key_later key ps (bytes_eq key l) h)))

puts_grow : (done ps : TreePairs) → AreApart done ps → PairsDistinct ps → max (tree_pairs_nesting done) (tree_pairs_nesting (each_sorted ps)) ≤ tree_pairs_nesting (put_tree_pairs done ps)
puts_grow done no_pairs g d = omega arith
puts_grow done (pair k t ps) g d =
    let all = put_sorted done k (sorted t) in
    let first : max (tree_nesting (sorted t)) (tree_pairs_nesting done) ≤ tree_pairs_nesting all = put_grows done k (sorted t) g.0 in
    let more : max (tree_pairs_nesting all) (tree_pairs_nesting (each_sorted ps)) ≤ tree_pairs_nesting (put_tree_pairs all ps) = puts_grow all ps (apart_put done k (sorted t) ps d.0 g.1) d.2 in
    omega arith

mutual
  pub nesting_kept : (t : Tree) → IsDistinct t → tree_nesting t ≤ tree_nesting (sorted t)
  nesting_kept (integer n) d = omega arith
  nesting_kept (string bytes) d = omega arith
  nesting_kept (list ts) d = let inner = trees_kept ts d in omega arith
  nesting_kept (dictionary ps) d =
      let each = pairs_kept ps d in
      let all = puts_grow no_pairs ps (apart_none ps) d in
      omega arith

  trees_kept : (ts : Trees) → AreDistinct ts → trees_nesting ts ≤ trees_nesting (sorted_trees ts)
  trees_kept no_trees d = omega arith
  trees_kept (tree t ts) d = let first = nesting_kept t d.0 in let more = trees_kept ts d.1 in omega arith

  pairs_kept : (ps : TreePairs) → PairsDistinct ps → tree_pairs_nesting ps ≤ tree_pairs_nesting (each_sorted ps)
  pairs_kept no_pairs d = omega arith
  pairs_kept (pair k t ps) d = let first = nesting_kept t d.1 in let more = pairs_kept ps d.2 in omega arith
