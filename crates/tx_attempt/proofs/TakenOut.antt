-- What is kept of refs, as it is taken out.
use Rattle.std.proofs.Common.{◌≡◌, ◌<◌, ◌+◌, ℕ, List, [], ◌∷◌, ◌++◌, Bool, true, false, ◌&&◌, not, map}
use Rattle.std.proofs.Common.{filter_map, length, take, drop, get_or, Option, Some, None, is_some}
use Rattle.std.proofs.Common.{option_map, cond, refl, sym, ap, ap₂, ◌∙◌, suc}
use Rattle.std.specs.List.{filter, list_all, cons_option}
use Rattle.std.proofs.Math.Seq.{drop-cons}
use Rattle.std.proofs.lemmas.List.{map_push, map-append, take_more, append-nil, take-append-drop}
use Rattle.std.proofs.lemmas.List.Elements.{filter_map-append}
use Rattle.value_data.specs.Datum.{Datum}
use Rattle.value_data.specs.declared.value.RefName.{RefName}
use Rattle.repl_asks.specs.Transactions.{RefNameData, CommuteData, CommutedData, same_name}
use Rattle.repl_asks.specs.Inside.View.{name_view}
use Rattle.repl_asks.specs.Accesses.{is_among}
use Rattle.tx_attempt.specs.Inside.States.{RefStateData, States, unnamed, with_ref_state}
use Rattle.tx_attempt.specs.Inside.States.{commuted_in}
use Rattle.tx_attempt.specs.Inside.Marks.{each_once, NamesOnce}
use Rattle.tx_attempt.proofs.Listed.{among-push, once-apart}

-- one name more
pub names-more : (names : List RefName) (i : ℕ) (d : RefName) → i < length names
    → map name_view (take (i + 1) names) ≡ map name_view (take i names) ++ name_view (get_or names i d) ∷ []
names-more names i d more =
    ap (map name_view) (take_more names i d more) ∙ map_push name_view (take i names) (get_or names i d)

-- which was not there before
pub names-apart : (names : List RefName) (i : ℕ) (d : RefName) → i < length names → NamesOnce names
    → is_among (name_view (get_or names i d)) (map name_view (take i names)) ≡ false
names-apart names i d more once =
    let item = get_or names i d in
    let parts : names ≡ take i names ++ item ∷ drop (suc i) names =
    sym (take-append-drop i names) ∙ ap (λ xs. take i names ++ xs) (drop-cons names i d more) in
    once-apart (map name_view (take i names)) (map name_view (drop (suc i) names)) (name_view item)
    (ap each_once (sym (ap (map name_view) parts ∙ map-append name_view (take i names) (item ∷ drop (suc i) names)))
    ∙ once)

-- the names so far and this one are named no more
pub left-more : (f now next : States) (done : List RefNameData) (name n : RefNameData)
    → now n ≡ cond (is_among n done) unnamed (f n) → next n ≡ with_ref_state name unnamed now n
    → next n ≡ cond (is_among n (done ++ name ∷ [])) unnamed (f n)
left-more f now next done name n so_far is =
    is ∙ ap (cond (same_name name n) unnamed) so_far ∙ at (same_name name n) (is_among n done)
    ∙ ap (λ b. cond b unnamed (f n)) (sym (among-push n name done))
  where
    at : (b c : Bool) → cond b unnamed (cond c unnamed (f n)) ≡ cond (cond b true c) unnamed (f n)
    at true c = refl
    at false c = refl

-- what is kept of this one is as it was
pub still-there : (f now : States) (done : List RefNameData) (name : RefNameData)
    → now name ≡ cond (is_among name done) unnamed (f name) → is_among name done ≡ false → now name ≡ f name
still-there f now done name so_far apart = so_far ∙ ap (λ b. cond b unnamed (f name)) apart

-- what was taken of one more, and where there was nothing
pub taken-more : {A B : Type 0} (seen : A → B) (h : RefNameData → Option B) (done : List RefNameData) (name : RefNameData)
    (before after : List A) (x : A) → after ≡ before ++ x ∷ [] → map seen before ≡ filter_map h done
    → h name ≡ Some (seen x) → map seen after ≡ filter_map h (done ++ name ∷ [])
taken-more seen h done name before after x e so_far is =
    ap (map seen) e ∙ map_push seen before x ∙ ap (λ ys. ys ++ seen x ∷ []) so_far
    ∙ ap (λ o. filter_map h done ++ cons_option o []) (sym is)
    ∙ sym (filter_map-append h done (name ∷ []))

pub taken-same : {A B : Type 0} (seen : A → B) (h : RefNameData → Option B) (done : List RefNameData) (name : RefNameData)
    (before after : List A) → after ≡ before → map seen before ≡ filter_map h done
    → h name ≡ None → map seen after ≡ filter_map h (done ++ name ∷ [])
taken-same seen h done name before after e so_far is =
    ap (map seen) e ∙ so_far ∙ sym (append-nil (filter_map h done))
    ∙ ap (λ o. filter_map h done ++ cons_option o []) (sym is)
    ∙ sym (filter_map-append h done (name ∷ []))

-- Groups

abbrev pub group_with : RefNameData → List CommuteData → Option CommutedData
group_with name commutes = Some (record { name = name; commutes = commutes })

pub record LeftOut (f g : States) (sets : List RefNameData) : Type 0 where
  pub at : (n : RefNameData) → g n ≡ cond (is_among n sets) unnamed (f n)

both_true : (a b : Bool) → (a && b) ≡ true → (a ≡ true) × (b ≡ true)
both_true true b e = (refl, e)
both_true false b e = absurd (cc)

-- of refs that are named, those that were not taken out before
pub groups : (f g : States) (sets names : List RefNameData) → LeftOut f g sets
    → list_all (λ n. is_some (f n).value) names ≡ true
    → filter_map (commuted_in g) names
    ≡ map (λ n. record { name = n; commutes = (f n).commutes }) (filter (λ n. not (is_among n sets)) names)
groups f g sets [] out e = refl
groups f g sets (n ∷ ns) out e =
    let both = both_true (is_some (f n).value) (list_all (λ n. is_some (f n).value) ns) e in
    ap₂ cons_option
    (ap (λ (s : RefStateData). option_map (λ d. record { name = n; commutes = s.commutes }) s.value) (out.at n))
    (groups f g sets ns out both.1)
    ∙ at (is_among n sets) (f n).value both.0 (filter (λ m. not (is_among m sets)) ns)
  where
    made : RefNameData → CommutedData
    made n = record { name = n; commutes = (f n).commutes }

    at : (b : Bool) (o : Option Datum) → is_some o ≡ true → (left : List RefNameData)
        → cons_option (option_map (λ d. record { name = n; commutes = (cond b unnamed (f n)).commutes })
        (cond b unnamed (record (f n) { value = o })).value) (map made left)
        ≡ map made (cond (not b) (n ∷ left) left)
    at true o here left = refl
    at false None here left = absurd (cc)
    at false (Some d) here left = refl
