-- What a commit looks at.
use Rattle.std.proofs.Common.{◌≡◌, ℕ, List, [], ◌∷◌, ◌++◌, Bool, true, false, ◌&&◌, ◌||◌, is_some}
use Rattle.std.proofs.Common.{map, Option, Some, None, ◌+◌, refl, sym, ap, ap₂, ◌∙◌, subst}
use Rattle.std.specs.Prelude.{Result, Ok, Err}
use Rattle.std.proofs.lemmas.List.{map-append}
use Rattle.value_data.specs.Datum.{Datum}
use Rattle.value_data.specs.declared.value.RefName.{RefName}
use Rattle.repl_values.specs.Failure.{Failure, ◌>>=◌}
use Rattle.repl_asks.specs.Transactions.{RefNameData, ChangeData, IntentData}
use Rattle.repl_asks.specs.Exchange.{AnswerData, verdict, committed, faulted}
use Rattle.repl_asks.specs.Inside.View.{name_view, change_view, commuted_view}
use Rattle.repl_asks.specs.declared.intent.Change.{Change}
use Rattle.repl_asks.specs.declared.intent.Commuted.{Commuted}
use Rattle.ref_table.specs.Numbered.{Entry}
use Rattle.ref_history.specs.Versioned.{Ref}
use Rattle.ref_table.specs.Store.{Store, ref_named, left_attempt}
use Rattle.ref_table.specs.Performed.{as_was, tells}
use Rattle.ref_table.specs.Commit.{guarded_refs, touched_refs, changing_refs, all_there, all_fit}
use Rattle.ref_table.specs.Commit.{all_take, refs_are_distinct, intent_fits, is_newer_ref, any_newer}
use Rattle.ref_table.specs.Commit.{all_folded, with_changes, with_raised_counter, with_all}
use Rattle.ref_table.specs.Commit.{concluded_commit, checked_commit, commit_by}
use Rattle.ref_history.specs.declared.ref_id.RefId.{RefId}
use Rattle.ref_table.specs.Refs.{TableRefs, store_of, refs_after}
use Rattle.ref_table.specs.Directory.{id_named, all_named, ids_named}
use Rattle.ref_table.specs.Placing.{with_place, placed_changes, all_distinct}
use Rattle.ref_table.specs.Accepting.{may_commit, is_acceptable}
use Rattle.ref_table.specs.Standing.{TableStands}
use Rattle.ref_table.specs.Told.{Performs}
use Rattle.ref_table.specs.declared.directory.Directory.{Directory}
use Rattle.ref_table.specs.declared.table.RefTable.{RefTable}
use Rattle.ref_table.proofs.Folds.{folded-names}
use Rattle.ref_table.proofs.Once.{both_true, distinct-ids}
use Rattle.ref_table.proofs.Standing.{owned-apart}
use Rattle.ref_table.proofs.Rooms.{same_id}
use Rattle.ref_table.proofs.Tables.{all-named, seen-stands}

pub set-names : (sets : List Change)
    → map (λ c. c.name) (map change_view sets) ≡ map (λ c. name_view c.name) sets
set-names [] = refl
set-names (c ∷ sets) = ap (λ names. name_view c.name ∷ names) (set-names sets)

pub commuted-names : (cs : List Commuted)
    → map (λ c. c.name) (map commuted_view cs) ≡ map (λ c. name_view c.name) cs
commuted-names [] = refl
commuted-names (c ∷ cs) = ap (λ names. name_view c.name ∷ names) (commuted-names cs)

-- the refs that change, by what the code has of them
pub changing_names : (sets : List Change) (commuted : List Commuted)
    → (map (λ c. c.name) (map change_view sets) ++ map (λ c. c.name) (map commuted_view commuted))
    ≡ (map (λ c. name_view c.name) sets ++ map (λ c. name_view c.name) commuted)
changing_names sets commuted = ap₂ (λ xs ys. xs ++ ys) (set-names sets) (commuted-names commuted)

named-append : (d : Directory) (caller : ℕ) (xs ys : List RefNameData)
    → all_named d caller (xs ++ ys) ≡ (all_named d caller xs && all_named d caller ys)
named-append d caller [] ys = refl
named-append d caller (x ∷ xs) ys =
    ap (λ b. is_some (id_named d caller x) && b) (named-append d caller xs ys)
    ∙ groups (is_some (id_named d caller x)) (all_named d caller xs) (all_named d caller ys) where
      groups : (a b c : Bool) → (a && (b && c)) ≡ ((a && b) && c)
      groups true b c = refl
      groups false b c = refl

newer-append : (point : ℕ) (xs ys : List RefNameData) (s : Store)
    → any_newer point (xs ++ ys) s ≡ (any_newer point xs s || any_newer point ys s)
newer-append point [] ys s = refl
newer-append point (x ∷ xs) ys s =
    ap (λ b. is_newer_ref point (ref_named x s) || b) (newer-append point xs ys s)
    ∙ groups (is_newer_ref point (ref_named x s)) (any_newer point xs s) (any_newer point ys s) where
      groups : (a b c : Bool) → (a || (b || c)) ≡ ((a || b) || c)
      groups true b c = refl
      groups false b c = refl

-- all are there where those that are set, those that are ensured and those that are commuted are
pub three_named : (d : Directory) (caller : ℕ) (sets : List Change) (ensured : List RefName)
    (commuted : List Commuted)
    → all_named d caller (map (λ c. c.name) (map change_view sets) ++ map name_view ensured
    ++ map (λ c. c.name) (map commuted_view commuted))
    ≡ (all_named d caller (map (λ c. name_view c.name) sets)
    && all_named d caller (map name_view ensured)
    && all_named d caller (map (λ c. name_view c.name) commuted))
three_named d caller sets ensured commuted =
    ap₂ (λ names more. all_named d caller (names ++ map name_view ensured ++ more))
    (set-names sets) (commuted-names commuted)
    ∙ named-append d caller (map (λ c. name_view c.name) sets ++ map name_view ensured)
    (map (λ c. name_view c.name) commuted)
    ∙ ap (λ b. b && all_named d caller (map (λ c. name_view c.name) commuted))
    (named-append d caller (map (λ c. name_view c.name) sets) (map name_view ensured))

-- one is newer where one that is set or one that is ensured is
pub either_newer : (point : ℕ) (sets : List Change) (ensured : List RefName) (s : Store)
    → any_newer point (map (λ c. c.name) (map change_view sets) ++ map name_view ensured) s
    ≡ (any_newer point (map (λ c. name_view c.name) sets) s
    || any_newer point (map name_view ensured) s)
either_newer point sets ensured s =
    ap (λ names. any_newer point (names ++ map name_view ensured) s) (set-names sets)
    ∙ newer-append point (map (λ c. name_view c.name) sets) (map name_view ensured) s

-- What is acceptable

-- the refs that change are there where all that are named are
changing_refs-named : (d : Directory) (caller : ℕ) (intent : IntentData)
    → all_named d caller (touched_refs intent) ≡ true → all_named d caller (changing_refs intent) ≡ true
changing_refs-named d caller intent e =
    let sets = map (λ c. c.name) intent.sets in
    let commuted = map (λ c. c.name) intent.commuted in
    let all = both_true (all_named d caller (guarded_refs intent)) (all_named d caller commuted)
    (sym (named-append d caller (guarded_refs intent) commuted) ∙ e) in
    let first = both_true (all_named d caller sets) (all_named d caller intent.ensured)
    (sym (named-append d caller sets intent.ensured) ∙ all.0) in
    named-append d caller sets commuted ∙ ap₂ ◌&&◌ first.0 all.1

-- what was looked through is what the rules want
pub acceptable : {H : Type 0} (stands : H → RefId → Ref → Type 0) (t : RefTable H) (r : TableRefs)
    (caller : ℕ) (points : List (Entry ℕ)) (intent : IntentData) → TableStands stands t r
    → is_acceptable t.directory caller intent
    ≡ (all_there (touched_refs intent) (store_of caller points r) && intent_fits intent)
acceptable stands t r caller points intent s =
    by (all_named t.directory caller (touched_refs intent))
    (all_there (touched_refs intent) (store_of caller points r)) (all_fit intent.sets)
    (refs_are_distinct (changing_refs intent))
    (all_distinct same_id (ids_named t.directory caller (changing_refs intent)))
    (all_take intent.commuted)
    (all-named stands t (store_of caller points r) r (touched_refs intent)
    (seen-stands stands t caller points r s))
    (λ e. distinct-ids t.directory caller (changing_refs intent)
    (owned-apart t.directory t.departed s.apart)
    (changing_refs-named t.directory caller intent e)) where
      turned : (f a t : Bool) → ((f && t) && a) ≡ ((f && a) && t)
      turned true true true = refl
      turned true true false = refl
      turned true false true = refl
      turned true false false = refl
      turned false a t = refl

      by : (n there f a d t : Bool) → n ≡ there → (n ≡ true → d ≡ a)
          → (((n && f) && t) && d) ≡ (there && ((f && a) && t))
      by false there f a d t e same = ap (λ b. b && ((f && a) && t)) e
      by true there f a d t e same =
          ap (λ b. (f && t) && b) (same refl) ∙ turned f a t ∙ ap (λ b. b && ((f && a) && t)) e

pub record IsAccepted (d : Directory) (caller : ℕ) (intent : IntentData) : Type 0 where
  pub takes : all_take intent.commuted ≡ true
  pub named : all_named d caller (changing_refs intent) ≡ true
  pub once : all_distinct same_id (ids_named d caller (changing_refs intent)) ≡ true

pub accepted : (d : Directory) (caller : ℕ) (intent : IntentData)
    → is_acceptable d caller intent ≡ true → IsAccepted d caller intent
accepted d caller intent e =
    let all = both_true (may_commit d caller intent)
    (all_distinct same_id (ids_named d caller (changing_refs intent))) e in
    let may = both_true (all_named d caller (touched_refs intent) && all_fit intent.sets)
    (all_take intent.commuted) all.0 in
    record {
      takes = may.1;
      named = changing_refs-named d caller intent
          (both_true (all_named d caller (touched_refs intent)) (all_fit intent.sets) may.0).0;
      once = all.1;
    }

-- The commit, by what was found out

pub checked_commit-performs : {H : Type 0} (stands : H → RefId → Ref → Type 0) (new : RefTable H)
    (r : TableRefs) (caller : ℕ) (points : List (Entry ℕ)) (seat point : ℕ) (intent : IntentData)
    (o : Option ℕ) (answer : Option AnswerData) (fit newer : Bool) → o ≡ Some point
    → fit ≡ (all_there (touched_refs intent) (store_of caller points r) && intent_fits intent)
    → newer ≡ any_newer point (guarded_refs intent) (store_of caller points r)
    → Performs stands new r answer (checked_commit seat intent (store_of caller points r) fit newer)
    → Performs stands new r answer (commit_by seat intent (store_of caller points r) o)
checked_commit-performs stands new r caller points seat point intent o answer fit newer runs is late did =
    let s = store_of caller points r in
    subst (Performs stands new r answer)
    (sym (ap (commit_by seat intent s) runs ∙ sym (ap₂ (checked_commit seat intent s) is late))) did

-- where a commit changes nothing
pub unchanged-performs : {H : Type 0} (stands : H → RefId → Ref → Type 0) (t : RefTable H)
    (r : TableRefs) (caller : ℕ) (points : List (Entry ℕ)) (seat : ℕ) (answer : AnswerData)
    → TableStands stands t r
    → Performs stands t r (Some answer)
    (tells answer (left_attempt seat (store_of caller points r)))
unchanged-performs stands t r caller points seat answer s = record {
  told = refl;
  left = seen-stands stands t caller points r s;
}

pub refused-performs : {H : Type 0} (stands : H → RefId → Ref → Type 0) (t : RefTable H)
    (r : TableRefs) (caller : ℕ) (points : List (Entry ℕ)) → TableStands stands t r
    → Performs stands t r None (as_was (store_of caller points r) None)
refused-performs stands t r caller points s = record {
  told = refl;
  left = seen-stands stands t caller points r s;
}

pub faulted-performs : {H : Type 0} (stands : H → RefId → Ref → Type 0) (t : RefTable H)
    (r : TableRefs) (caller : ℕ) (points : List (Entry ℕ)) (seat : ℕ) (sets : List ChangeData)
    (f : Failure) (folds : Result (List ChangeData) Failure) → folds ≡ Err f → TableStands stands t r
    → Performs stands t r (Some (verdict (faulted f)))
    (concluded_commit seat sets (store_of caller points r) folds)
faulted-performs stands t r caller points seat sets f folds is s =
    subst (λ folds. Performs stands t r (Some (verdict (faulted f)))
    (concluded_commit seat sets (store_of caller points r) folds)) (sym is)
    (unchanged-performs stands t r caller points seat (verdict (faulted f)) s)

pub committed-performs : {H : Type 0} (stands : H → RefId → Ref → Type 0) (new : RefTable H)
    (r : TableRefs) (caller : ℕ) (points : List (Entry ℕ)) (seat : ℕ) (sets changes : List ChangeData)
    (folds : Result (List ChangeData) Failure) → folds ≡ Ok changes
    → TableStands stands new (refs_after (with_all (sets ++ changes) (store_of caller points r)) r)
    → Performs stands new r (Some (verdict committed))
    (concluded_commit seat sets (store_of caller points r) folds)
committed-performs stands new r caller points seat sets changes folds is left =
    subst (λ folds. Performs stands new r (Some (verdict committed))
    (concluded_commit seat sets (store_of caller points r) folds)) (sym is)
    (record { told = refl; left = left })

-- The places of what changes

-- what gives a value was given one
pub given-first : {A B : Type 0} (first : Result A Failure) (f : A → B) (y : B)
    → (first >>= λ x. Ok (f x)) ≡ Ok y → (x : A) × (first ≡ Ok x) × (f x ≡ y)
given-first (Err e) f y is = cc
given-first (Ok x) f y is = (x, refl, same (f x) y is) where
  same : {B : Type 0} (x y : B) → ◌≡◌ {A = Result B Failure} (Ok x) (Ok y) → x ≡ y
  same x y is = cc

pub failed-first : {A B : Type 0} (first : Result A Failure) (f : A → B) (e : Failure)
    → (first >>= λ x. Ok (f x)) ≡ Err e → first ≡ Err e
failed-first (Err d) f e is = ap Err (same d e is) where
  same : {B : Type 0} (x y : Failure) → ◌≡◌ {A = Result B Failure} (Err x) (Err y) → x ≡ y
  same x y is = cc
failed-first (Ok x) f e is = cc

-- where refs that are there change, there are places
pub no-places : (d : Directory) (caller : ℕ) (cs : List ChangeData)
    → all_named d caller (map (λ c. c.name) cs) ≡ true → [] ≡ placed_changes d caller cs → cs ≡ []
no-places d caller [] ref_named none = refl
no-places d caller (c ∷ cs) ref_named none =
    absurd (by (id_named d caller c.name)
    (both_true (is_some (id_named d caller c.name)) _ ref_named).0 none) where
      by : (o : Option RefId) → is_some o ≡ true
          → [] ≡ with_place o c.now (placed_changes d caller cs) → ⊥
      by None there none = cc
      by (Some id) there none = cc

-- the counter rises where a ref changes
pub with_all-some : (cs : List ChangeData) (s : Store) → (cs ≡ [] → ⊥)
    → with_all cs s ≡ with_changes (s.around.counter + 1) cs (with_raised_counter s)
with_all-some [] s some = absurd (some refl)
with_all-some (c ∷ cs) s some = refl

-- those of the refs that are set and of those that are commuted
pub changed-names : (value : RefNameData → Option Datum) (intent : IntentData)
    (changes : List ChangeData) → all_folded value intent.commuted ≡ Ok changes
    → map (λ c. c.name) (intent.sets ++ changes) ≡ changing_refs intent
changed-names value intent changes e =
    map-append (λ c. c.name) intent.sets changes
    ∙ ap (λ names. map (λ c. c.name) intent.sets ++ names)
    (folded-names value intent.commuted changes e)
