-- Spelled items and pairs with a gap between each two, one after another.
use Rattle.std.proofs.Common.{◌≡◌, ℕ, ◌+◌, ◌<◌, ◌≤◌, List, ◌++◌, codes, get_or, length, drop, sym, ap, ◌∙◌, append_assoc, append-nil, arith}
use Rattle.value_data.specs.Datum.{Datum, Items, no_items, item, Pairs, no_pairs, pair}
use Rattle.value_data.specs.Listed.{listed, items_of, pairs_listed, pairs_of}
use Rattle.value_data.specs.Same.{size}
use Rattle.value_data.specs.Keyed.{keys_of}
use Rattle.value_data.specs.Inside.Placed.{values_of}
use Rattle.repl_values.specs.Print.{spelled, texts, pair_texts, each_behind, joined_by}
use Rattle.repl_values.proofs.Places.{items_of-listed, behind-all, pairs_of-listed, behind-pair, behind-all_pairs}

module _ (spell : List ℕ → List ℕ) (gap : List ℕ) where
  joined-first : (xs : Items) (d : Datum) → d ≡ get_or (listed xs) 0 d → 0 < length (listed xs)
      → joined_by gap (texts spell xs) ≡ spelled spell d ++ each_behind gap (texts spell (items_of (drop 1 (listed xs))))
  joined-first no_items d is h = absurd (omega (arith, h))
  joined-first (item e xs) d is h =
      ap (λ (ds : Items). spelled spell e ++ each_behind gap (texts spell ds)) (sym (items_of-listed xs))
      ∙ ap (λ (c : Datum). spelled spell c ++ each_behind gap (texts spell (items_of (listed xs)))) (sym is)

  -- the first is spelled, and then each behind it up to the last
  pub joined-whole : (xs : Items) (d : Datum) (i : ℕ) (before first all : List ℕ) → d ≡ get_or (listed xs) 0 d → 0 < length (listed xs)
      → length (listed xs) ≤ i → first ≡ before ++ spelled spell d
      → all ++ each_behind gap (texts spell (items_of (drop i (listed xs)))) ≡ first ++ each_behind gap (texts spell (items_of (drop 1 (listed xs))))
      → all ≡ before ++ joined_by gap (texts spell xs)
  joined-whole xs d i before first all is h past begun told =
      let rest : List ℕ = each_behind gap (texts spell (items_of (drop 1 (listed xs)))) in
      sym (append-nil all)
      ∙ ap (λ (ds : Items). all ++ each_behind gap (texts spell ds)) (sym (behind-all xs i past))
      ∙ told
      ∙ ap (λ (out : List ℕ). out ++ rest) begun
      ∙ append_assoc before (spelled spell d) rest
      ∙ ap (λ (text : List ℕ). before ++ text) (sym (joined-first xs d is h))

  -- the text of a pair
  abbrev pub pair_spelled : Datum → Datum → List ℕ
  pair_spelled k v = spelled spell k ++ codes " " ++ spelled spell v

  joined-first_pair : (ps : Pairs) (k v : Datum) → k ≡ get_or (listed (keys_of ps)) 0 k → v ≡ get_or (listed (values_of ps)) 0 v → 0 < size ps
      → joined_by gap (pair_texts spell ps) ≡ pair_spelled k v ++ each_behind gap (pair_texts spell (pairs_of (drop 1 (pairs_listed ps))))
  joined-first_pair no_pairs k v key value h = absurd (omega (arith, h))
  joined-first_pair (pair l w ps) k v key value h =
      ap (λ (qs : Pairs). pair_spelled l w ++ each_behind gap (pair_texts spell qs)) (sym (pairs_of-listed ps))
      ∙ ap (λ (d : Datum). pair_spelled d w ++ each_behind gap (pair_texts spell (pairs_of (pairs_listed ps)))) (sym key)
      ∙ ap (λ (d : Datum). pair_spelled k d ++ each_behind gap (pair_texts spell (pairs_of (pairs_listed ps)))) (sym value)

  -- the first pair is spelled, and then each behind it up to the last
  pub joined-pairs : (ps : Pairs) (k v : Datum) (i : ℕ) (before first all : List ℕ) → k ≡ get_or (listed (keys_of ps)) 0 k → v ≡ get_or (listed (values_of ps)) 0 v
      → 0 < size ps → size ps ≤ i → first ≡ before ++ pair_spelled k v
      → all ++ each_behind gap (pair_texts spell (pairs_of (drop i (pairs_listed ps)))) ≡ first ++ each_behind gap (pair_texts spell (pairs_of (drop 1 (pairs_listed ps))))
      → all ≡ before ++ joined_by gap (pair_texts spell ps)
  joined-pairs ps k v i before first all key value h past begun told =
      let rest : List ℕ = each_behind gap (pair_texts spell (pairs_of (drop 1 (pairs_listed ps)))) in
      sym (append-nil all)
      ∙ ap (λ (qs : Pairs). all ++ each_behind gap (pair_texts spell qs)) (sym (behind-all_pairs ps i past))
      ∙ told
      ∙ ap (λ (out : List ℕ). out ++ rest) begun
      ∙ append_assoc before (pair_spelled k v) rest
      ∙ ap (λ (text : List ℕ). before ++ text) (sym (joined-first_pair ps k v key value h))

  -- one pair more is spelled, behind a gap
  pub joined-next : (ps : Pairs) (k v : Datum) (i : ℕ) (before after all : List ℕ) → k ≡ get_or (listed (keys_of ps)) i k → v ≡ get_or (listed (values_of ps)) i v
      → i < size ps → after ≡ before ++ (gap ++ pair_spelled k v)
      → before ++ each_behind gap (pair_texts spell (pairs_of (drop i (pairs_listed ps)))) ≡ all
      → after ++ each_behind gap (pair_texts spell (pairs_of (drop (i + 1) (pairs_listed ps)))) ≡ all
  joined-next ps k v i before after all key value h more told =
      let rest : List ℕ = each_behind gap (pair_texts spell (pairs_of (drop (i + 1) (pairs_listed ps)))) in
      ap (λ (out : List ℕ). out ++ rest) more
      ∙ append_assoc before (gap ++ pair_spelled k v) rest
      ∙ ap (λ (qs : Pairs). before ++ each_behind gap (pair_texts spell qs)) (sym (behind-pair ps i k v key value h))
      ∙ told
