-- Lists of names, each of them once.
use Rattle.std.proofs.Common.{◌≡◌, List, [], ◌∷◌, ◌++◌, Bool, true, false, ◌&&◌, ◌||◌, not, map}
use Rattle.std.proofs.Common.{cond, refl, sym, ap, ap₂, ◌∙◌}
use Rattle.std.specs.List.{list_all}
use Rattle.std.proofs.lemmas.List.{map_push}
use Rattle.std.proofs.lemmas.List.Folds.{list_any-append}
use Rattle.value_data.specs.declared.value.RefName.{RefName}
use Rattle.repl_asks.specs.Transactions.{RefNameData, same_name}
use Rattle.repl_asks.specs.Inside.View.{name_view}
use Rattle.repl_asks.specs.Accesses.{is_among, with_name}
use Rattle.tx_attempt.specs.Inside.Marks.{each_once}
use Rattle.tx_attempt.proofs.Names.{same_name-sym, same_name-refl, same_name-true}

or-false : (b : Bool) → (b || false) ≡ b
or-false true = refl
or-false false = refl

or-swap : (a b : Bool) → (a || b) ≡ cond b true a
or-swap true true = refl
or-swap true false = refl
or-swap false true = refl
or-swap false false = refl

pub among-push : (n name : RefNameData) (names : List RefNameData)
    → is_among n (names ++ name ∷ []) ≡ cond (same_name name n) true (is_among n names)
among-push n name names =
    list_any-append (same_name n) names (name ∷ [])
    ∙ ap (λ b. is_among n names || b) (or-false (same_name n name) ∙ same_name-sym n name)
    ∙ or-swap (is_among n names) (same_name name n)

-- a name is there once it was added
pub among-with : (n name : RefNameData) (names : List RefNameData)
    → is_among n (with_name name names) ≡ cond (same_name name n) true (is_among n names)
among-with n name names = at (is_among name names) refl
  where
    there : (b : Bool) → same_name name n ≡ b → is_among name names ≡ true
        → is_among n names ≡ cond b true (is_among n names)
    there true same e = ap (λ m. is_among m names) (sym (same_name-true name n same)) ∙ e
    there false same e = refl

    at : (b : Bool) → is_among name names ≡ b
        → is_among n (cond b names (names ++ name ∷ [])) ≡ cond (same_name name n) true (is_among n names)
    at true e = there (same_name name n) refl e
    at false e = among-push n name names

both_true : (a b : Bool) → (a && b) ≡ true → (a ≡ true) × (b ≡ true)
both_true true b e = (refl, e)
both_true false b e = absurd (cc)

both_false : (a b : Bool) → (a || b) ≡ false → (a ≡ false) × (b ≡ false)
both_false true b e = absurd (cc)
both_false false b e = (refl, e)

once-push : (name : RefNameData) (names : List RefNameData) → is_among name names ≡ false
    → each_once names ≡ true → each_once (names ++ name ∷ []) ≡ true
once-push name [] new once = refl
once-push name (n ∷ ns) new once =
    let apart = both_false (same_name name n) (is_among name ns) new in
    let both = both_true (not (is_among n ns)) (each_once ns) once in
    let here : is_among n (ns ++ name ∷ []) ≡ is_among n ns =
    among-push n name ns ∙ ap (λ b. cond b true (is_among n ns)) apart.0 in
    ap₂ (λ a b. a && b) (ap not here ∙ both.0) (once-push name ns apart.1 both.1)

pub once-with : (name : RefNameData) (names : List RefNameData) → each_once names ≡ true
    → each_once (with_name name names) ≡ true
once-with name names once = at (is_among name names) refl
  where
    at : (b : Bool) → is_among name names ≡ b → each_once (cond b names (names ++ name ∷ [])) ≡ true
    at true e = once
    at false e = once-push name names e once

-- a name is not among those before it
pub once-apart : (names rest : List RefNameData) (name : RefNameData)
    → each_once (names ++ name ∷ rest) ≡ true → is_among name names ≡ false
once-apart [] rest name once = refl
once-apart (n ∷ ns) rest name once =
    let both = both_true (not (is_among n (ns ++ name ∷ rest))) (each_once (ns ++ name ∷ rest)) once in
    ap₂ (λ a b. a || b) (apart (same_name name n) refl both.0) (once-apart ns rest name both.1)
  where
    there : is_among n (ns ++ name ∷ rest) ≡ (is_among n ns || (same_name n name || is_among n rest))
    there = list_any-append (same_name n) ns (name ∷ rest)

    or-true : (b : Bool) → (b || true) ≡ true
    or-true true = refl
    or-true false = refl

    apart : (b : Bool) → same_name name n ≡ b → not (is_among n (ns ++ name ∷ rest)) ≡ true
        → same_name name n ≡ false
    apart true same free =
        let among : is_among n (ns ++ name ∷ rest) ≡ true =
        there ∙ ap (λ b. is_among n ns || (b || is_among n rest)) (same_name-sym n name ∙ same)
        ∙ or-true (is_among n ns) in
        absurd (let e : not true ≡ true = ap not (sym among) ∙ free in cc)
    apart false same free = same

-- a name that is listed where it comes for the first time
pub listed : (first known : Bool) (name : RefName) (before after : List RefName)
    → first ≡ not known → known ≡ is_among (name_view name) (map name_view before)
    → after ≡ cond first (before ++ name ∷ []) before
    → map name_view after ≡ with_name (name_view name) (map name_view before)
listed first known name before after new is e =
    ap (map name_view) e
    ∙ at first
    ∙ ap (λ b. cond b (map name_view before ++ name_view name ∷ []) (map name_view before)) new
    ∙ turned known
    ∙ ap (λ b. cond b (map name_view before) (map name_view before ++ name_view name ∷ [])) is
  where
    at : (b : Bool) → map name_view (cond b (before ++ name ∷ []) before)
        ≡ cond b (map name_view before ++ name_view name ∷ []) (map name_view before)
    at true = map_push name_view before name
    at false = refl

    turned : (b : Bool)
        → cond (not b) (map name_view before ++ name_view name ∷ []) (map name_view before)
        ≡ cond b (map name_view before) (map name_view before ++ name_view name ∷ [])
    turned true = refl
    turned false = refl

-- what holds of each name in the list
pub all-among : (p : RefNameData → Bool) (names : List RefNameData)
    → ((n : RefNameData) → is_among n names ≡ true → p n ≡ true) → list_all p names ≡ true
all-among p [] each = refl
all-among p (n ∷ ns) each =
    ap₂ (λ a b. a && b) (each n (ap (λ b. b || is_among n ns) (same_name-refl n)))
    (all-among p ns (λ m e. each m (further (same_name m n) e)))
  where
    further : {c : Bool} (b : Bool) → c ≡ true → (b || c) ≡ true
    further true e = refl
    further false e = e
