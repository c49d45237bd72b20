-- What stands in a value has fewer values in it.
use Rattle.std.proofs.Common.{◌≡◌, ℕ, zero, suc, ◌+◌, ◌<◌, ◌≤◌, List, [], ◌∷◌, length, get_or, ap, arith}
use Rattle.value_data.specs.Datum.{Datum, list, vector, map}
use Rattle.value_data.proofs.Size.{nodes, items_nodes, pairs_nodes}
use Rattle.value_data.specs.Inside.View.{view, items_view}
use Rattle.value_data.specs.Listed.{pairs_of}
use Rattle.value_data.specs.declared.value.Value.{Value}

nodes-at : (vs : List Value) (i : ℕ) (d : Value) → i < length vs → nodes (view (get_or vs i d)) ≤ items_nodes (items_view vs)
nodes-at [] i d h = absurd (omega (arith, h))
nodes-at (v ∷ vs) zero d h = omega arith
nodes-at (v ∷ vs) (suc i) d h = omega (arith, nodes-at vs i d (omega (arith, h)))

pub nodes-in : (vs : List Value) (i : ℕ) (v : Value) → v ≡ get_or vs i v → i < length vs → nodes (view v) ≤ items_nodes (items_view vs)
nodes-in vs i v is h =
    let e : nodes (view v) ≡ nodes (view (get_or vs i v)) = ap (λ (x : Value). nodes (view x)) is in
    omega (arith, e, nodes-at vs i v h)

pair_nodes-at : (ps : List (Datum × Datum)) (i : ℕ) (d : Datum × Datum) → i < length ps
    → nodes (get_or ps i d).0 + nodes (get_or ps i d).1 ≤ pairs_nodes (pairs_of ps)
pair_nodes-at [] i d h = absurd (omega (arith, h))
pair_nodes-at (p ∷ ps) zero d h = omega arith
pair_nodes-at (p ∷ ps) (suc i) d h = omega (arith, pair_nodes-at ps i d (omega (arith, h)))

pub pair_nodes-in : (ps : List (Datum × Datum)) (i : ℕ) (p : Datum × Datum) → p ≡ get_or ps i p → i < length ps
    → nodes p.0 + nodes p.1 ≤ pairs_nodes (pairs_of ps)
pair_nodes-in ps i p is h =
    let e : nodes p.0 + nodes p.1 ≡ nodes (get_or ps i p).0 + nodes (get_or ps i p).1 =
    ap (λ (x : Datum × Datum). nodes x.0 + nodes x.1) is in
    omega (arith, e, pair_nodes-at ps i p h)

pub nodes-positive : (d : Datum) → 0 < nodes d
nodes-positive (list ds) = omega arith
nodes-positive (vector ds) = omega arith
nodes-positive (map ps) = omega arith
nodes-positive d = omega arith

pub ruleset node_steps = (nodes-in, pair_nodes-in, nodes-positive)
