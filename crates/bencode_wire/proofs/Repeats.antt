-- A value in whose text no key is repeated has distinct keys at every level.
use Rattle.std.proofs.Common.{◌≡◌, ℕ, suc, Bool, true, false, ◌||◌, List, [], ◌∷◌, ◌++◌, refl, sym, ap, ◌∙◌, subst, append_assoc, inl, inr, arith}
use Rattle.std.proofs.lemmas.Slice.Eq.{bytes_eq-Decides}
use Rattle.std.specs.Str.{bytes_eq}
use Rattle.bencode_wire.specs.Tree.{Tree, integer, string, list, dictionary, Trees, no_trees, tree, TreePairs, no_pairs, pair, add_tree, add_pair, holds_key, HasKey}
use Rattle.bencode_wire.specs.Spelling.{text, trees_text, pairs_text, string_text, IsSpellable, AreSpellable, ArePairs, IsDistinct, AreDistinct, PairsDistinct}
use Rattle.bencode_wire.specs.Fault.{malformed, too_long}
use Rattle.bencode_wire.specs.Stream.{AwaitsValue, behind_items, behind_key, AwaitsKey, of_message, of_value, RepeatsKey, IsClean}
use Rattle.bencode_wire.proofs.Sound.{pairs_text-add_pair, trees_text-add_tree, ArePairs-add_pair, AreSpellable-add_tree}
use Rattle.bencode_wire.proofs.Within.{holds_key-added, holds_key-below}

abbrev NeverRepeats : List ℕ → Type 0
NeverRepeats m = (front : List ℕ) (more : List ℕ) → m ≡ front ++ more → RepeatsKey front → ⊥

never_in_clean : (limit : ℕ) (m : List ℕ) → IsClean limit m → NeverRepeats m
never_in_clean limit m h front more e repeats = h front more malformed e ((λ long. h front more too_long e (inl long)), inr repeats)

never_at : (m n : List ℕ) → m ≡ n → NeverRepeats m → NeverRepeats n
never_at m n e h = subst (λ x. NeverRepeats x) e h

in_list_text : (m ts x : List ℕ) → m ++ ((108 ∷ (ts ++ 101 ∷ [])) ++ x) ≡ (m ++ (108 ∷ [])) ++ (ts ++ 101 ∷ x)
in_list_text m ts x = simp append_assoc

in_dictionary_text : (m ps x : List ℕ) → m ++ ((100 ∷ (ps ++ 101 ∷ [])) ++ x) ≡ (m ++ (100 ∷ [])) ++ (ps ++ 101 ∷ x)
in_dictionary_text m ps x = simp append_assoc

next_item : (m ts u us x : List ℕ) → (m ++ (108 ∷ ts)) ++ ((u ++ us) ++ x) ≡ (m ++ (108 ∷ (ts ++ u))) ++ (us ++ x)
next_item m ts u us x = simp append_assoc

item_here : (m u us x : List ℕ) → m ++ ((u ++ us) ++ x) ≡ m ++ (u ++ (us ++ x))
item_here m u us x = simp append_assoc

key_here : (m k u us x : List ℕ) → m ++ (((k ++ u) ++ us) ++ x) ≡ (m ++ k) ++ (u ++ (us ++ x))
key_here m k u us x = simp append_assoc

next_pair : (m ps k u us x : List ℕ) → (m ++ (100 ∷ ps)) ++ (((k ++ u) ++ us) ++ x) ≡ (m ++ (100 ∷ ((ps ++ k) ++ u))) ++ (us ++ x)
next_pair m ps k u us x = simp append_assoc

-- none of the keys stands among the first pairs, and they are distinct
record Differ (ps qs : TreePairs) : Type 0 where
  pub distinct : PairsDistinct qs
  pub apart : (k : List ℕ) → HasKey k ps → HasKey k qs → ⊥

one_of : (k l : List ℕ) (b : Bool) (qs : TreePairs) → bytes_eq k l ≡ b → b || holds_key k qs ≡ true → (k ≡ l → ⊥) → (HasKey k qs → ⊥) → ⊥
one_of k l true qs e h here later = here (grind (arith, bytes_eq-Decides))
one_of k l false qs e h here later = later h

add_one : (ps qs : TreePairs) (l : List ℕ) (u : Tree) → (HasKey l ps → ⊥) → IsDistinct u → Differ (add_pair ps l u) qs → Differ ps (pair l u qs)
add_one ps qs l u new d more = record {
  distinct = (more.apart l (holds_key-added l ps u), d, more.distinct);
  apart = λ k old h. one_of k l (bytes_eq k l) qs refl h (λ e. new (subst (λ x. HasKey x ps) e old)) (more.apart k (holds_key-below k l ps u old));
}

-- a dictionary opens behind these bytes
abbrev Opens : ℕ → List ℕ → Type 0
Opens n m = (ps : TreePairs) → ArePairs ps → AwaitsKey n ps (m ++ (100 ∷ pairs_text ps))

mutual
  distinct_value : (t : Tree) (n : ℕ) (m x : List ℕ) → AwaitsValue n m → IsSpellable t → NeverRepeats (m ++ (text t ++ x)) → IsDistinct t
  distinct_value (integer k) n m x a g never = tt
  distinct_value (string bytes) n m x a g never = tt
  distinct_value (list ts) n m x a g never =
      distinct_items ts no_trees n m (101 ∷ x) a tt g (never_at _ _ (in_list_text m (trees_text ts) x) never)
  distinct_value (dictionary ps) n m x a g never =
      let all = distinct_pairs ps no_pairs (suc n) m (101 ∷ x) (λ qs h. of_value n m qs a h) tt g (never_at _ _ (in_dictionary_text m (pairs_text ps) x) never) in
      all.distinct

  distinct_items : (us ts : Trees) (n : ℕ) (m x : List ℕ) → AwaitsValue n m → AreSpellable ts → AreSpellable us
      → NeverRepeats ((m ++ (108 ∷ trees_text ts)) ++ (trees_text us ++ x)) → AreDistinct us
  distinct_items no_trees ts n m x a k g never = tt
  distinct_items (tree u us) ts n m x a k g never = (
    distinct_value u (suc n) (m ++ (108 ∷ trees_text ts)) (trees_text us ++ x) (behind_items n m ts a k) g.0
        (never_at _ _ (item_here (m ++ (108 ∷ trees_text ts)) (text u) (trees_text us) x) never),
    distinct_items us (add_tree ts u) n m x a (AreSpellable-add_tree ts u k g.0) g.1
        (never_at _ _ (next_item m (trees_text ts) (text u) (trees_text us) x ∙ ap (λ y. (m ++ (108 ∷ y)) ++ (trees_text us ++ x)) (sym (trees_text-add_tree ts u))) never),
  )

  distinct_pairs : (qs ps : TreePairs) (n : ℕ) (m x : List ℕ) → Opens n m → ArePairs ps → ArePairs qs
      → NeverRepeats ((m ++ (100 ∷ pairs_text ps)) ++ (pairs_text qs ++ x)) → Differ ps qs
  distinct_pairs no_pairs ps n m x o k g never = record { distinct = tt; apart = λ key h f. absurd (cc) }
  distinct_pairs (pair l u qs) ps n m x o k g never =
      let front = m ++ (100 ∷ pairs_text ps) in
      let at_key : NeverRepeats ((front ++ string_text l) ++ (text u ++ (pairs_text qs ++ x))) =
      never_at _ _ (key_here front (string_text l) (text u) (pairs_text qs) x) never in
      add_one ps qs l u
      (λ old. at_key (front ++ string_text l) (text u ++ (pairs_text qs ++ x)) refl (n, ps, front, l, o ps k, g.0, old, refl))
      (distinct_value u n (front ++ string_text l) (pairs_text qs ++ x) (behind_key n ps front l (o ps k) g.0) g.1 at_key)
      (distinct_pairs qs (add_pair ps l u) n m x o (ArePairs-add_pair ps l u k g.0 g.1) g.2
      (never_at _ _ (next_pair m (pairs_text ps) (string_text l) (text u) (pairs_text qs) x
      ∙ ap (λ y. (m ++ (100 ∷ y)) ++ (pairs_text qs ++ x)) (sym (pairs_text-add_pair ps l u))) never))

-- the keys of a clean message are distinct
pub distinct_in_clean : (limit : ℕ) (ps : TreePairs) → ArePairs ps → IsClean limit (text (dictionary ps)) → PairsDistinct ps
distinct_in_clean limit ps g clean =
    let all = distinct_pairs ps no_pairs 1 [] (101 ∷ []) (λ qs h. of_message qs h) tt g (never_in_clean limit (text (dictionary ps)) clean) in
    all.distinct
