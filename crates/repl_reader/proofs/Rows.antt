-- Forms in a row, as they are put together.
use Rattle.std.proofs.Common.{◌≡◌, ℕ, ◌+◌, List, [], ◌∷◌, ◌++◌, map, length, Option, Some, None}
use Rattle.std.proofs.Common.{refl, ap, arith, get_or, suc, zero, ◌<◌, ◌≤◌}
use Rattle.repl_values.specs.Print.{print}
use Rattle.value_data.specs.Keyed.{keys_of}
use Rattle.value_data.specs.Datum.{Datum, Items, no_items, item, Pairs, no_pairs}
use Rattle.value_data.specs.Inside.View.{view, items_view}
use Rattle.value_data.specs.Listed.{items_of, pairs_of}
use Rattle.value_data.specs.declared.value.Value.{Value}
use Rattle.repl_reader.specs.Maps.{with_pair, print_at, paired, paired_with}

-- these before those
abbrev pub onto : List Datum → Items → Items
onto [] ds = ds
onto (d ∷ front) ds = item d (onto front ds)

pub onto_push : (front : List Datum) (d : Datum) (ds : Items) → onto (front ++ d ∷ []) ds ≡ onto front (item d ds)
onto_push [] d ds = refl
onto_push (e ∷ front) d ds = ap (item e) (onto_push front d ds)

pub onto_none : (front : List Datum) → onto front no_items ≡ items_of front
onto_none [] = refl
onto_none (d ∷ front) = ap (item d) (onto_none front)

abbrev pub in_front : List (Datum × Datum) → Option Pairs → Option Pairs
in_front [] ps = ps
in_front (p ∷ front) ps = with_pair p.0 p.1 (in_front front ps)

pub in_front_push : (front : List (Datum × Datum)) (p : Datum × Datum) (ps : Option Pairs) → in_front (front ++ p ∷ []) ps ≡ in_front front (with_pair p.0 p.1 ps)
in_front_push [] p ps = refl
in_front_push (q ∷ front) p ps = ap (with_pair q.0 q.1) (in_front_push front p ps)

pub in_front_some : (front : List (Datum × Datum)) → in_front front (Some no_pairs) ≡ Some (pairs_of front)
in_front_some [] = refl
in_front_some (p ∷ front) = ap (with_pair p.0 p.1) (in_front_some front)

pub in_front_none : (front : List (Datum × Datum)) → in_front front None ≡ None
in_front_none [] = refl
in_front_none (p ∷ front) = ap (with_pair p.0 p.1) (in_front_none front)

pub map-push : {A B : Type 0} (f : A → B) (xs : List A) (x : A) → map f (xs ++ x ∷ []) ≡ map f xs ++ f x ∷ []
map-push f [] x = refl
map-push f (y ∷ xs) x = ap (λ zs. f y ∷ zs) (map-push f xs x)

pub map_length : {A B : Type 0} (f : A → B) (xs : List A) → length (map f xs) ≡ length xs
map_length f [] = refl
map_length f (x ∷ xs) = ap (λ n. suc n) (map_length f xs)

-- what follows, behind a key that waits for its value or not
abbrev pub behind : Option Value → Items → Option Pairs
behind None ds = paired ds
behind (Some key) ds = paired_with (view key) ds

-- the keys of pairs, in order
pub keys_of-pairs : (ps : List (Datum × Datum)) → keys_of (pairs_of ps) ≡ items_of (map (λ (p : Datum × Datum). p.0) ps)
keys_of-pairs [] = refl
keys_of-pairs (p ∷ ps) = ap (item p.0) (keys_of-pairs ps)

-- the print of the value at a place
pub print_at_inside : (values : List Value) (place : ℕ) (v : Value) → place < length values → v ≡ get_or values place v → print (view v) ≡ print_at place (items_view values)
print_at_inside [] n v h e = absurd (omega (arith, h))
print_at_inside (u ∷ values) zero v h e = ap (λ w. print (view w)) e
print_at_inside (u ∷ values) (suc n) v h e = print_at_inside values n v (omega (arith, h)) e

pub print_at_past : (values : List Value) (place : ℕ) → length values ≤ place → [] ≡ print_at place (items_view values)
print_at_past [] n h = refl
print_at_past (u ∷ values) zero h = absurd (omega (arith, h))
print_at_past (u ∷ values) (suc n) h = print_at_past values n (omega (arith, h))

pub ruleset pair_steps = (in_front_push, in_front_some, in_front_none, map-push, keys_of-pairs)
