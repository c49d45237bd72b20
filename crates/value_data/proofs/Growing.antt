-- Items and pairs with one more, and what was measured of them.
use Rattle.std.proofs.Common.{◌≡◌, ℕ, suc, max, List, [], ◌∷◌, ◌++◌, length, drop, refl, ap, arith}
use Rattle.value_data.specs.Datum.{Datum, item, Pairs, no_pairs, pair}
use Rattle.value_data.specs.Listed.{listed, items_of}
use Rattle.value_data.specs.Inside.Ends.{with_last, behind_first}
use Rattle.value_data.specs.Keyed.{behind_all}
use Rattle.value_data.specs.Inside.Hash.{hash, peak, salted, pair_hash}
use Rattle.value_data.specs.Inside.View.{items_view}
use Rattle.value_data.proofs.Lists.{lists}
use Rattle.value_data.specs.declared.value.Value.{Value}

pub peak-behind : (salt : ℕ) (ps : Pairs) (k v : Datum) → peak salt (behind_all ps k v) ≡ max (peak salt ps) (salted salt (pair_hash (hash k) (hash v)))
peak-behind salt no_pairs k v = omega arith
peak-behind salt (pair l w ps) k v = omega (arith, peak-behind salt ps k v)

pub items_of-last : (ds : List Datum) (d : Datum) → items_of (ds ++ d ∷ []) ≡ with_last (items_of ds) d
items_of-last [] d = refl
items_of-last (e ∷ ds) d = ap (item e) (items_of-last ds d)

pub items_of-drop : (ds : List Datum) → items_of (drop 1 ds) ≡ behind_first (items_of ds)
items_of-drop [] = refl
items_of-drop (d ∷ ds) = refl

pub length-listed : (vs : List Value) → length (listed (items_view vs)) ≡ length vs
length-listed [] = refl
length-listed (v ∷ vs) = ap suc (length-listed vs)

pub ruleset item_steps = (items_of-last, items_of-drop, length-listed, lists)
