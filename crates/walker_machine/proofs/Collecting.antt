-- Vectors and maps of values: their limits, the keys of pairs, and the first that stands twice.
use Rattle.std.proofs.Common.{◌≡◌, ℕ, zero, suc, ◌<◌, Bool, true, false, if◌then◌else◌, List, []}
use Rattle.std.proofs.Common.{◌∷◌, Option, Some, None, Result, Ok, Err, IfOk, option_map, get_or}
use Rattle.std.proofs.Common.{length, refl, sym, subst, ap, ◌∙◌, arith}
use Rattle.std.specs.Prelude.{string_bytes, zip, ◌&&◌, nat_le}
use Rattle.value_data.specs.Measures.{weight, nesting}
use Rattle.core_scalars.specs.Limits.{most_weight}
use Rattle.core_functions.specs.ApplyOutcome.{limited_outcome, most_nesting}
use Rattle.value_data.specs.Datum.{Datum, Items, no_items, item, Pairs, map}
use Rattle.value_data.specs.Keyed.{keys_of}
use Rattle.value_data.specs.Repeats.{is_one_of, repeat_behind, first_repeat}
use Rattle.value_data.specs.Inside.View.{view, views}
use Rattle.value_data.specs.Listed.{items_of, pairs_of}
use Rattle.value_data.specs.Inside.BuiltView.{IsBuilt}
use Rattle.value_data.specs.Inside.Held.{TableData}
use Rattle.value_data.specs.declared.building.Built.{Built}
use Rattle.value_data.specs.declared.value.Value.{Value}
use Rattle.repl_values.specs.Failure.{Failure, duplicate_key, too_large}
use Rattle.evaluation_rules.specs.Doing.{Part, fails}
use Rattle.evaluation_rules.specs.Tree.{ends}
use Rattle.walker_state.specs.Pending.{kept_of, from_state, tree}
use Rattle.walker_state.specs.declared.frames.Control.{Control}
use Rattle.evaluation_rules.specs.Collections.{keys_in, values_in, form_at, within_limits}
use Rattle.evaluation_rules.specs.Collections.{map_value}
use Rattle.walker_state.specs.declared.frames.State.{State}
use Rattle.walker_state.proofs.Stepping.{fails-at}

-- what holds wherever the machine stands holds where it stands
pub if_ok-part : {E : Type 0} (r : Result Control E) (p q : Part Datum) → p ≡ q
    → IfOk r (λ control. (s : State) → tree control s ≡ from_state p s) → IfOk r (λ control. (s : State) → tree control s ≡ from_state q s)
if_ok-part (Ok control) p q same h = λ s. h s ∙ ap (λ (part : Part Datum). from_state part s) same
if_ok-part (Err e) p q same h = tt

-- values that are too large
pub within_limits-misfits : (d : Datum) (told : Failure) (s : State) → (nat_le (weight d) most_weight && nat_le (nesting d) most_nesting) ≡ false
    → told ≡ too_large → ends (Err told) (string_bytes s.text) (kept_of s) ≡ from_state (within_limits d) s
unfolding limited_outcome
within_limits-misfits d told s misfits is = rw (misfits, is) (sym (fails-at too_large s))

-- the keys of keys and values that stand by turns
pub keys_of-turns : (ds : List Datum) → keys_of (pairs_of (zip (keys_in ds) (values_in ds))) ≡ items_of (keys_in ds)
keys_of-turns [] = refl
keys_of-turns (k ∷ []) = refl
keys_of-turns (k ∷ v ∷ ds) = ap (item k) (keys_of-turns ds)

suc-Some : (o : Option ℕ) (n : ℕ) → option_map (λ (m : ℕ). suc m) o ≡ Some n → (m : ℕ) × (o ≡ Some m) × (n ≡ suc m)
suc-Some None n h = cc
suc-Some (Some m) n h = (m, refl, cc)

repeat-within : (before : Items) (ds : List Datum) (n : ℕ) → repeat_behind before (items_of ds) ≡ Some n → n < length ds
repeat-within before [] n h = cc
repeat-within before (d ∷ ds) n h = by_test (is_one_of before d) (λ m e. repeat-within (item d before) ds m e) h
  where
    by_test : (t : Bool) → ((m : ℕ) → repeat_behind (item d before) (items_of ds) ≡ Some m → m < length ds)
        → (if t then Some 0 else option_map (λ (m : ℕ). suc m) (repeat_behind (item d before) (items_of ds))) ≡ Some n → n < suc (length ds)
    by_test true within e = let here : n ≡ 0 = cc in omega (arith, here)
    by_test false within e =
        let found = suc-Some (repeat_behind (item d before) (items_of ds)) n e in
        omega (arith, found.2, within found.0 found.1)

-- the first repeated key stands among them
pub first_repeat-within : (vs : List Value) (n : ℕ) → first_repeat (items_of (views vs)) ≡ Some n → n < length vs
first_repeat-within vs n h = omega (arith, length_views vs, repeat-within no_items (views vs) n h)
  where
    length_views : (ws : List Value) → length (views ws) ≡ length ws
    length_views [] = refl
    length_views (w ∷ ws) = ap suc (length_views ws)

pub form_at-views : (vs : List Value) (n : ℕ) (v : Value) → n < length vs → v ≡ get_or vs n v → form_at (views vs) n ≡ Some (view v)
form_at-views [] n v h is = absurd (omega (arith, h))
form_at-views (u ∷ vs) zero v h is = ap (λ (w : Value). Some (view w)) (sym is)
form_at-views (u ∷ vs) (suc n) v h is = form_at-views vs n v (omega (arith, h)) is

-- the map of keys and values by turns, where no key stands twice
pub map_value-made : (ds : List Datum) (qs : List (Datum × Datum)) (ps : Pairs) → qs ≡ zip (keys_in ds) (values_in ds) → ps ≡ pairs_of qs
    → first_repeat (keys_of (pairs_of qs)) ≡ None → map_value ds ≡ within_limits (map ps)
map_value-made ds qs ps turns made none =
    let keys : keys_of (pairs_of qs) ≡ items_of (keys_in ds) = ap (λ (rs : List (Datum × Datum)). keys_of (pairs_of rs)) turns ∙ keys_of-turns ds in
    let first : first_repeat (items_of (keys_in ds)) ≡ None = sym (ap first_repeat keys) ∙ none in
    let whole : ps ≡ pairs_of (zip (keys_in ds) (values_in ds)) = made ∙ ap pairs_of turns in
    rw (first, whole) refl

-- and where one does, its fault
pub map_value-repeats : (ds : List Datum) (qs : List (Datum × Datum)) (n : ℕ) (key : Datum) → qs ≡ zip (keys_in ds) (values_in ds)
    → first_repeat (keys_of (pairs_of qs)) ≡ Some n → form_at (keys_in ds) n ≡ Some key → map_value ds ≡ fails (duplicate_key key)
map_value-repeats ds qs n key turns found at =
    let keys : keys_of (pairs_of qs) ≡ items_of (keys_in ds) = ap (λ (rs : List (Datum × Datum)). keys_of (pairs_of rs)) turns ∙ keys_of-turns ds in
    let first : first_repeat (items_of (keys_in ds)) ≡ Some n = sym (ap first_repeat keys) ∙ found in
    rw (first, at) refl

-- what was built
pub made-of : (b : Built) (t : TableData) (ps : Pairs) → IsBuilt b ps → b ≡ Built.Made t → (t.pairs ≡ ps) × (first_repeat (keys_of ps) ≡ None)
made-of b t ps built is = let P : Built → Type 0 = λ c. IsBuilt c ps in subst P is built

pub repeats-of : (b : Built) (n : ℕ) (ps : Pairs) → IsBuilt b ps → b ≡ Built.Repeats n → first_repeat (keys_of ps) ≡ Some n
repeats-of b n ps built is = let P : Built → Type 0 = λ c. IsBuilt c ps in subst P is built

repeat-among : (ds : List Datum) (ks : List Value) (qs : List (Datum × Datum)) (n : ℕ) → views ks ≡ keys_in ds → qs ≡ zip (keys_in ds) (values_in ds)
    → first_repeat (keys_of (pairs_of qs)) ≡ Some n → first_repeat (items_of (views ks)) ≡ Some n
repeat-among ds ks qs n keys turns found =
    let rows : keys_of (pairs_of qs) ≡ items_of (keys_in ds) = ap (λ (rs : List (Datum × Datum)). keys_of (pairs_of rs)) turns ∙ keys_of-turns ds in
    let same : keys_of (pairs_of qs) ≡ items_of (views ks) = rows ∙ ap items_of (sym keys) in
    sym (ap first_repeat same) ∙ found

pub repeat-within-keys : (ds : List Datum) (ks : List Value) (qs : List (Datum × Datum)) (n : ℕ) → views ks ≡ keys_in ds → qs ≡ zip (keys_in ds) (values_in ds)
    → first_repeat (keys_of (pairs_of qs)) ≡ Some n → n < length ks
repeat-within-keys ds ks qs n keys turns found = first_repeat-within ks n (repeat-among ds ks qs n keys turns found)

-- the fault of the key that was told
pub map_value-repeated : (ds : List Datum) (ks : List Value) (qs : List (Datum × Datum)) (n : ℕ) (key : Value) (f : Failure) (s : State)
    → views ks ≡ keys_in ds → qs ≡ zip (keys_in ds) (values_in ds) → first_repeat (keys_of (pairs_of qs)) ≡ Some n
    → key ≡ get_or ks n key → f ≡ duplicate_key (view key) → ends (Err f) (string_bytes s.text) (kept_of s) ≡ from_state (map_value ds) s
map_value-repeated ds ks qs n key f s keys turns found at told =
    let within : n < length ks = repeat-within-keys ds ks qs n keys turns found in
    let here : form_at (keys_in ds) n ≡ Some (view key) = ap (λ (es : List Datum). form_at es n) (sym keys) ∙ form_at-views ks n key within at in
    let whole = map_value-repeats ds qs n (view key) turns found here in
    ap (λ (g : Failure). ends (Err g) (string_bytes s.text) (kept_of s)) told ∙ sym (fails-at (duplicate_key (view key)) s)
    ∙ sym (ap (λ (part : Part Datum). from_state part s) whole)
