-- What is written with its keys sorted is a spelling of the value.
use Rattle.std.proofs.Common.{◌≡◌, ℕ, ◌≤◌, Bool, true, false, ◌||◌, Ordering, Less, Equal, Greater, List, refl, sym, ap, ◌∙◌, subst, arith}
use Rattle.std.proofs.lemmas.Cmp.{nat_list_cmp_total}
use Rattle.std.proofs.lemmas.Slice.Eq.{bytes_eq-Decides}
use Rattle.std.specs.Ordering.{match_ordering, ordering_reverse}
use Rattle.std.specs.Str.{bytes_eq}
use Rattle.bencode_wire.specs.Tree.{Tree, integer, string, list, dictionary, Trees, no_trees, tree, TreePairs, no_pairs, pair, holds_key, HasKey}
use Rattle.bencode_wire.specs.Spelling.{canonical, sorted, sorted_trees, put_sorted, put_tree_pairs, IsString, IsSpellable, AreSpellable, ArePairs, IsDistinct, AreDistinct, PairsDistinct, Spells}
use Rattle.bencode_wire.specs.Inside.Nesting.{tree_nesting, trees_nesting, tree_pairs_nesting}
use Rattle.bencode_wire.proofs.Orders.{same_key}
use Rattle.bencode_wire.proofs.Written.{order, Above, InOrder, put_in_ascending, sorted_twice}

-- what holds of each key with its value
abbrev Each : (List ℕ → Tree → Type 0) → TreePairs → Type 0
Each P no_pairs = Unit {0}
Each P (pair k t ps) = P k t × Each P ps

-- the same, with the values sorted
abbrev EachSorted : (List ℕ → Tree → Type 0) → TreePairs → Type 0
EachSorted P no_pairs = Unit {0}
EachSorted P (pair k t ps) = P k (sorted t) × EachSorted P ps

each_ordered : (P : List ℕ → Tree → Type 0) (o : Ordering) (key : List ℕ) (t : Tree) (l : List ℕ) (u : Tree) (ps more : TreePairs) → (o ≡ Equal → key ≡ l)
    → P key t → P l u → Each P ps → Each P more → Each P (match_ordering o (pair key t (pair l u ps)) (pair l t ps) (pair l u more))
each_ordered P Less key t l u ps more same new old h g = (new, (old, h))
each_ordered P Equal key t l u ps more same new old h g = (subst (λ x. P x t) (same refl) new, h)
each_ordered P Greater key t l u ps more same new old h g = (old, g)

each_put : (P : List ℕ → Tree → Type 0) (ps : TreePairs) (key : List ℕ) (t : Tree) → Each P ps → P key t → Each P (put_sorted ps key t)
each_put P no_pairs key t h new = (new, tt)
each_put P (pair l u ps) key t h new = each_ordered P (order key l) key t l u ps (put_sorted ps key t) (same_key key l) new h.0 h.1 (each_put P ps key t h.1 new)

each_puts : (P : List ℕ → Tree → Type 0) (done ps : TreePairs) → Each P done → EachSorted P ps → Each P (put_tree_pairs done ps)
each_puts P done no_pairs h g = h
each_puts P done (pair k t ps) h g = each_puts P (put_sorted done k (sorted t)) ps (each_put P done k (sorted t) h g.0) g.1

-- Keys

less_greater : Less ≡ Greater → ⊥
less_greater e = absurd (cc)

less_apart : (a b : List ℕ) → order a b ≡ Less → a ≡ b → ⊥
less_apart a b h e =
    let same : order a a ≡ Less = ap (order a) e ∙ h in
    less_greater (sym same ∙ nat_list_cmp_total.antisymm a a ∙ ap ordering_reverse same)

other_key : (b : Bool) (low k : List ℕ) (ps : TreePairs) → bytes_eq low k ≡ b → order low k ≡ Less → (HasKey low ps → ⊥) → b || holds_key low ps ≡ true → ⊥
other_key true low k ps e above other h = let same : low ≡ k = grind (arith, bytes_eq-Decides) in less_apart low k above same
other_key false low k ps e above other h = other h

above_other : (low : List ℕ) (ps : TreePairs) → Above low ps → HasKey low ps → ⊥
above_other low no_pairs h g = absurd (cc)
above_other low (pair k t ps) h g = other_key (bytes_eq low k) low k ps refl h.0 (above_other low ps h.1) g

abbrev OfDistinct : List ℕ → Tree → Type 0
OfDistinct k t = IsDistinct t

distinct_in_order : (ps : TreePairs) → InOrder ps → Each OfDistinct ps → PairsDistinct ps
distinct_in_order no_pairs h g = tt
distinct_in_order (pair k t ps) h g = (above_other k ps h.0, g.0, distinct_in_order ps h.2 g.1)

mutual
  -- no key stands twice in what is sorted
  pub distinct_sorted : (t : Tree) → IsDistinct (sorted t)
  distinct_sorted (integer n) = tt
  distinct_sorted (string bytes) = tt
  distinct_sorted (list ts) = distinct_trees ts
  distinct_sorted (dictionary ps) = distinct_in_order (put_tree_pairs no_pairs ps) (put_in_ascending ps) (each_puts OfDistinct no_pairs ps tt (distinct_each ps))

  distinct_trees : (ts : Trees) → AreDistinct (sorted_trees ts)
  distinct_trees no_trees = tt
  distinct_trees (tree t ts) = (distinct_sorted t, distinct_trees ts)

  distinct_each : (ps : TreePairs) → EachSorted OfDistinct ps
  distinct_each no_pairs = tt
  distinct_each (pair k t ps) = (distinct_sorted t, distinct_each ps)

-- The grammar

abbrev OfGrammar : List ℕ → Tree → Type 0
OfGrammar k t = IsString k × IsSpellable t

are_pairs : (ps : TreePairs) → Each OfGrammar ps → ArePairs ps
are_pairs no_pairs h = tt
are_pairs (pair k t ps) h = (h.0.0, h.0.1, are_pairs ps h.1)

mutual
  pub spellable_sorted : (t : Tree) → IsSpellable t → IsSpellable (sorted t)
  spellable_sorted (integer n) h = h
  spellable_sorted (string bytes) h = h
  spellable_sorted (list ts) h = spellable_trees ts h
  spellable_sorted (dictionary ps) h = are_pairs (put_tree_pairs no_pairs ps) (each_puts OfGrammar no_pairs ps tt (spellable_each ps h))

  spellable_trees : (ts : Trees) → AreSpellable ts → AreSpellable (sorted_trees ts)
  spellable_trees no_trees h = tt
  spellable_trees (tree t ts) h = (spellable_sorted t h.0, spellable_trees ts h.1)

  spellable_each : (ps : TreePairs) → ArePairs ps → EachSorted OfGrammar ps
  spellable_each no_pairs h = tt
  spellable_each (pair k t ps) h = ((h.0, spellable_sorted t h.1), spellable_each ps h.2)

-- Nesting

abbrev OfNesting : ℕ → List ℕ → Tree → Type 0
OfNesting n k t = tree_nesting t ≤ n

pairs_nested : (n : ℕ) (ps : TreePairs) → Each (OfNesting n) ps → tree_pairs_nesting ps ≤ n
pairs_nested n no_pairs h = omega arith
pairs_nested n (pair k t ps) h = let first = h.0 in let more = pairs_nested n ps h.1 in omega arith

mutual
  -- sorting nests nothing deeper
  pub nesting_sorted : (t : Tree) → tree_nesting (sorted t) ≤ tree_nesting t
  nesting_sorted (integer n) = omega arith
  nesting_sorted (string bytes) = omega arith
  nesting_sorted (list ts) = let inner = nesting_trees ts in omega arith
  nesting_sorted (dictionary ps) =
      let inner = pairs_nested (tree_pairs_nesting ps) (put_tree_pairs no_pairs ps) (each_puts (OfNesting (tree_pairs_nesting ps)) no_pairs ps tt (nesting_each (tree_pairs_nesting ps) ps (omega arith))) in
      omega arith

  nesting_trees : (ts : Trees) → trees_nesting (sorted_trees ts) ≤ trees_nesting ts
  nesting_trees no_trees = omega arith
  nesting_trees (tree t ts) = let first = nesting_sorted t in let more = nesting_trees ts in omega arith

  nesting_each : (n : ℕ) (ps : TreePairs) → tree_pairs_nesting ps ≤ n → EachSorted (OfNesting n) ps
  nesting_each n no_pairs h = tt
  nesting_each n (pair k t ps) h = let first = nesting_sorted t in (omega arith, nesting_each n ps (omega arith))

-- a value of the grammar is spelled by what is written
pub canonical_of : (v : Tree) → IsSpellable v → IsDistinct v → Spells v (canonical v)
canonical_of v g d = (sorted v, spellable_sorted v g, (d, distinct_sorted v, sym (sorted_twice v)), refl)

-- a value that has a spelling is spelled by what is written
pub canonical_spells : (v : Tree) (bytes : List ℕ) → Spells v bytes → Spells v (canonical v)
canonical_spells v bytes h =
    (sorted v, subst IsSpellable (sym h.2.2) (spellable_sorted h.0 h.1), (h.2.0, distinct_sorted v, sym (sorted_twice v)), refl)
