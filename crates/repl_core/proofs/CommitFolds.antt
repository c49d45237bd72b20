-- What a commit gives a ref, by the changes that it makes.
use Rattle.std.proofs.Common.{◌≡◌, ℕ, ◌==◌, List, [], ◌∷◌, ◌++◌, Bool, true, false, not, ◌||◌, map}
use Rattle.std.proofs.Common.{Option, Some, None, refl, sym, ap, ap₂, ◌∙◌, if◌then◌else◌}
use Rattle.std.proofs.Common.{true≢false}
use Rattle.std.specs.Prelude.{Result, Ok, Err}
use Rattle.std.specs.List.{list_any}
use Rattle.std.proofs.lemmas.Bool.{eqb-true, and_parts}
use Rattle.value_data.specs.Datum.{Datum, OwnerData, shared, tenant}
use Rattle.repl_values.specs.Failure.{Failure, ◌>>=◌}
use Rattle.repl_asks.specs.Transactions.{RefNameData, ChangeData, CommutedData, same_name}
use Rattle.ref_table.specs.Commit.{refs_are_distinct, folded_from, all_folded}
use Rattle.value_data.specs.Same.{same_owner}
use Rattle.ref_table.proofs.Owners.{none-some}
use Rattle.repl_core.specs.Commits.{last_set, folded_or, last_commuted}

-- Names

same_owner-true : (o p : OwnerData) → same_owner o p ≡ true → o ≡ p
same_owner-true shared shared e = refl
same_owner-true shared (tenant t) e = absurd (true≢false (sym e))
same_owner-true (tenant t) shared e = absurd (true≢false (sym e))
same_owner-true (tenant t) (tenant u) e = ap tenant (eqb-true t u e)

pub same_name-true : (a b : RefNameData) → same_name a b ≡ true → a ≡ b
same_name-true a b e =
    let name : OwnerData → ℕ → RefNameData = λ o n. record { owner = o; number = n } in
    let parts = and_parts (same_owner a.owner b.owner) (a.number == b.number) e in
    ap₂ name (same_owner-true a.owner b.owner parts.0) (eqb-true a.number b.number parts.1)

abbrev is_among : RefNameData → List RefNameData → Bool
is_among name names = list_any (same_name name) names

among-behind : (name : RefNameData) (xs ys : List RefNameData) → is_among name ys ≡ true
    → is_among name (xs ++ ys) ≡ true
among-behind name [] ys e = e
among-behind name (x ∷ xs) ys e =
    ap (λ b. same_name name x || b) (among-behind name xs ys e) ∙ by (same_name name x)
  where
    by : (b : Bool) → (b || true) ≡ true
    by true = refl
    by false = refl

-- the first of names that are distinct is not among the others
first-apart : (name first : RefNameData) (names : List RefNameData)
    → refs_are_distinct (first ∷ names) ≡ true → same_name name first ≡ true
    → is_among name names ≡ false
first-apart name first names once same =
    ap (λ n. is_among n names) (same_name-true name first same)
    ∙ apart (is_among first names)
    (and_parts (not (is_among first names)) (refs_are_distinct names) once).0
  where
    apart : (b : Bool) → not b ≡ true → b ≡ false
    apart true e = absurd (true≢false (sym e))
    apart false e = refl

rest-distinct : (first : RefNameData) (names : List RefNameData)
    → refs_are_distinct (first ∷ names) ≡ true → refs_are_distinct names ≡ true
rest-distinct first names once =
    (and_parts (not (is_among first names)) (refs_are_distinct names) once).1

-- What was commuted

ok-same : {A : Type 0} (x y : A) → ◌≡◌ {A = Result A Failure} (Ok x) (Ok y) → x ≡ y
ok-same x y e = cc

module _ (name : RefNameData) (value : RefNameData → Option Datum) where
  -- what is there is what was folded, if it was
  abbrev Began : List CommutedData → Option Datum → Type 0
  Began cs before = is_among name (map (λ c. c.name) cs) ≡ true → before ≡ value name

  folds-gave : (cs : List CommutedData) (changes : List ChangeData) (before : Option Datum)
      → refs_are_distinct (map (λ c. c.name) cs) ≡ true → all_folded value cs ≡ Ok changes
      → Began cs before → last_set name changes before ≡ last_commuted name cs before
  folds-gave [] changes before once folds began =
      ap (λ ds. last_set name ds before) (sym (ok-same [] changes folds))
  folds-gave (c ∷ cs) changes before once folds began =
      by (λ ds now is start. folds-gave cs ds now
      (rest-distinct c.name (map (λ c. c.name) cs) once) is start)
      (folded_from c (value c.name)) (all_folded value cs) refl refl folds
    where
      Behind : Type 0
      Behind = (ds : List ChangeData) (now : Option Datum) → all_folded value cs ≡ Ok ds
          → Began cs now → last_set name ds now ≡ last_commuted name cs now

      at : (d : Datum) (ds : List ChangeData) → Behind → folded_from c (value c.name) ≡ Ok d
          → all_folded value cs ≡ Ok ds → (b : Bool) → same_name name c.name ≡ b
          → last_set name ds (if b then Some d else before)
          ≡ last_commuted name cs (if b then folded_or before (folded_from c before) else before)
      at d ds behind is are true same =
          behind ds (Some d) are (λ among. absurd (true≢false (sym among
          ∙ first-apart name c.name (map (λ c. c.name) cs) once same)))
          ∙ sym (ap (λ o. last_commuted name cs (folded_or before (folded_from c o)))
          (began (ap (λ b. b || is_among name (map (λ c. c.name) cs)) same)
          ∙ ap value (same_name-true name c.name same))
          ∙ ap (λ r. last_commuted name cs (folded_or before r)) is)
      at d ds behind is are false apart = behind ds before are
          (λ among. began (ap (λ b. b || is_among name (map (λ c. c.name) cs)) apart ∙ among))

      by : Behind → (first : Result Datum Failure) (rest : Result (List ChangeData) Failure)
          → folded_from c (value c.name) ≡ first → all_folded value cs ≡ rest
          → (first >>= λ d. (rest >>= λ ds. Ok (record { name = c.name; now = d } ∷ ds)))
          ≡ Ok changes
          → last_set name changes before ≡ last_commuted name (c ∷ cs) before
      by behind (Err f) rest is are e = cc
      by behind (Ok d) (Err f) is are e = cc
      by behind (Ok d) (Ok ds) is are e =
          ap (λ all. last_set name all before)
          (sym (ok-same (record { name = c.name; now = d } ∷ ds) changes e))
          ∙ at d ds behind is are (same_name name c.name) refl

  -- all changes of a commit, of which none is of a ref that another changes
  pub changes-gave : (sets : List ChangeData) (cs : List CommutedData) (changes : List ChangeData)
      (before : Option Datum)
      → refs_are_distinct (map (λ c. c.name) sets ++ map (λ c. c.name) cs) ≡ true
      → all_folded value cs ≡ Ok changes → Began cs before
      → last_set name (sets ++ changes) before
      ≡ last_commuted name cs (last_set name sets before)
  changes-gave [] cs changes before once folds began =
      folds-gave cs changes before once folds began
  changes-gave (c ∷ sets) cs changes before once folds began =
      changes-gave sets cs changes (if same_name name c.name then Some c.now else before)
      (rest-distinct c.name (map (λ c. c.name) sets ++ map (λ c. c.name) cs) once) folds
      (λ among. by among (same_name name c.name) refl)
    where
      by : is_among name (map (λ c. c.name) cs) ≡ true → (b : Bool) → same_name name c.name ≡ b
          → (if b then Some c.now else before) ≡ value name
      by among true same = absurd (true≢false
          (sym (among-behind name (map (λ c. c.name) sets) (map (λ c. c.name) cs) among)
          ∙ first-apart name c.name (map (λ c. c.name) sets ++ map (λ c. c.name) cs) once same))
      by among false apart = began among

-- What is given to a ref that has no value

last-some : (name : RefNameData) (cs : List ChangeData) (d : Datum)
    → last_set name cs (Some d) ≡ None → ⊥
last-some name [] d e = none-some (sym e)
last-some name (c ∷ cs) d e = by (λ x h. last-some name cs x h) (same_name name c.name) e
  where
    by : ((x : Datum) → last_set name cs (Some x) ≡ None → ⊥) → (b : Bool)
        → last_set name cs (if b then Some c.now else Some d) ≡ None → ⊥
    by behind true h = behind c.now h
    by behind false h = behind d h

last-none : (name : RefNameData) (cs : List ChangeData) (before : Option Datum)
    → last_set name cs None ≡ None → last_set name cs before ≡ before
last-none name [] before e = refl
last-none name (c ∷ cs) before e =
    by (λ h. last-none name cs before h) (same_name name c.name) e
  where
    by : (last_set name cs None ≡ None → last_set name cs before ≡ before) → (b : Bool)
        → last_set name cs (if b then Some c.now else None) ≡ None
        → last_set name cs (if b then Some c.now else before) ≡ before
    by behind true h = absurd (last-some name cs c.now h)
    by behind false h = behind h

commuted-some : (name : RefNameData) (cs : List CommutedData) (d : Datum)
    → last_commuted name cs (Some d) ≡ None → ⊥
commuted-some name [] d e = none-some (sym e)
commuted-some name (c ∷ cs) d e =
    by (λ x h. commuted-some name cs x h) (same_name name c.name) (folded_from c (Some d)) e
  where
    by : ((x : Datum) → last_commuted name cs (Some x) ≡ None → ⊥) → (b : Bool)
        (folds : Result Datum Failure)
        → last_commuted name cs (if b then folded_or (Some d) folds else Some d) ≡ None → ⊥
    by behind true (Ok x) h = behind x h
    by behind true (Err f) h = behind d h
    by behind false folds h = behind d h

commuted-none : (name : RefNameData) (cs : List CommutedData) (before : Option Datum)
    → last_commuted name cs None ≡ None → last_commuted name cs before ≡ before
commuted-none name [] before e = refl
commuted-none name (c ∷ cs) before e =
    by (λ h. commuted-none name cs before h) (same_name name c.name) e
  where
    by : (last_commuted name cs None ≡ None → last_commuted name cs before ≡ before)
        → (b : Bool)
        → last_commuted name cs (if b then folded_or None (folded_from c None) else None) ≡ None
        → last_commuted name cs (if b then folded_or before (folded_from c before) else before)
        ≡ before
    by behind true h = absurd (commuted-some name cs _ h)
    by behind false h = behind h

pub changed-none : (name : RefNameData) (sets : List ChangeData) (cs : List CommutedData)
    (before : Option Datum) → last_commuted name cs (last_set name sets None) ≡ None
    → last_commuted name cs (last_set name sets before) ≡ before
changed-none name sets cs before e = by (last_set name sets None) refl e
  where
    by : (o : Option Datum) → last_set name sets None ≡ o → last_commuted name cs o ≡ None
        → last_commuted name cs (last_set name sets before) ≡ before
    by None is h =
        ap (last_commuted name cs) (last-none name sets before is)
        ∙ commuted-none name cs before h
    by (Some d) is h = absurd (commuted-some name cs d h)
