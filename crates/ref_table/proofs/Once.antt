-- Refs that are kept under different ids have different names.
use Rattle.std.proofs.Common.{◌≡◌, ℕ, List, [], ◌∷◌, ◌++◌, Bool, true, false, not, ◌&&◌, ◌||◌, ◌==◌}
use Rattle.std.proofs.Common.{is_some, Option, Some, None, map, refl, sym, ap, ap₂, ◌∙◌, subst}
use Rattle.std.specs.List.{list_any}
use Rattle.std.specs.Cmp.{unsigned_tied}
use Rattle.std.proofs.lemmas.Bool.{eqb-true, eq-eqb}
use Rattle.value_data.specs.Datum.{Datum, OwnerData, shared, tenant}
use Rattle.repl_asks.specs.Transactions.{RefNameData, ChangeData, same_name}
use Rattle.repl_asks.specs.Inside.View.{change_view}
use Rattle.repl_asks.specs.declared.intent.Change.{Change}
use Rattle.ref_table.specs.Commit.{refs_are_distinct}
use Rattle.value_data.specs.Same.{same_owner}
use Rattle.ref_history.specs.declared.ref_id.RefId.{RefId}
use Rattle.ref_table.specs.Directory.{refs_of, id_named, all_named, with_id, ids_named}
use Rattle.ref_table.specs.Placing.{placed_view, with_place, placed_changes, all_distinct}
use Rattle.ref_table.specs.Standing.{AreApart}
use Rattle.ref_table.specs.declared.directory.Directory.{Directory}
use Rattle.ref_table.specs.declared.placing.Placed.{Placed}
use Rattle.ref_table.proofs.Seen.{id-there}
use Rattle.ref_table.proofs.Distinct.{any-append}
use Rattle.ref_table.proofs.Rooms.{same_id}

both-ways : (a b : Bool) → (a ≡ true → b ≡ true) → (b ≡ true → a ≡ true) → a ≡ b
both-ways true b f g = sym (f refl)
both-ways false true f g = g refl
both-ways false false f g = refl

pub both_true : (a b : Bool) → (a && b) ≡ true → (a ≡ true) × (b ≡ true)
both_true true b e = (refl, e)
both_true false b e = cc

pub same_owner-true : (o p : OwnerData) → same_owner o p ≡ true → o ≡ p
same_owner-true shared shared e = refl
same_owner-true shared (tenant u) e = cc
same_owner-true (tenant t) shared e = cc
same_owner-true (tenant t) (tenant u) e = ap tenant (eqb-true t u e)

pub same_owner-refl : (o p : OwnerData) → o ≡ p → same_owner o p ≡ true
same_owner-refl o p e = subst (λ p. same_owner o p ≡ true) e (here o) where
  here : (o : OwnerData) → same_owner o o ≡ true
  here shared = refl
  here (tenant t) = eq-eqb t t refl

same_id-true : (a b : RefId) → same_id a b ≡ true → a ≡ b
same_id-true a b e =
    let place : ℕ → RefId = λ n. record { place = n } in
    ap place (eqb-true a.place b.place (sym (unsigned_tied a.place b.place) ∙ e))

same_id-here : (a b : RefId) → a ≡ b → same_id a b ≡ true
same_id-here a b e = unsigned_tied a.place b.place ∙ eq-eqb a.place b.place (ap (λ i. i.place) e)

-- one id is another exactly where the names are the same
same-names : (d : Directory) (caller : ℕ) (a b : RefNameData) (i j : RefId)
    → AreApart (refs_of d) → id_named d caller a ≡ Some i → id_named d caller b ≡ Some j
    → same_id i j ≡ same_name a b
same-names d caller a b i j apart here there = both-ways (same_id i j) (same_name a b)
    (λ e. let at = apart a.owner b.owner a.number b.number j
    (id-there d caller a.owner a.number i here ∙ ap Some (same_id-true i j e))
    (id-there d caller b.owner b.number j there) in
    ap₂ ◌&&◌ (same_owner-refl a.owner b.owner at.0) (eq-eqb a.number b.number at.1))
    (λ e. let parts = both_true (same_owner a.owner b.owner) (a.number == b.number) e in
    same_id-here i j (some_is i j (sym here
    ∙ ap₂ (λ o n. id_named d caller (record { owner = o; number = n }))
    (same_owner-true a.owner b.owner parts.0) (eqb-true a.number b.number parts.1)
    ∙ there))) where
      some_is : (i j : RefId) → ◌≡◌ {A = Option RefId} (Some i) (Some j) → i ≡ j
      some_is i j e = cc

named-first : (o : Option RefId) (rest : Bool) → (is_some o && rest) ≡ true
    → (i : RefId) × (o ≡ Some i) × (rest ≡ true)
named-first None rest e = cc
named-first (Some i) rest e = (i, refl, e)

-- whether an id or a name comes again
any-same : (d : Directory) (caller : ℕ) (name : RefNameData) (i : RefId)
    (names : List RefNameData) → AreApart (refs_of d) → id_named d caller name ≡ Some i
    → all_named d caller names ≡ true
    → list_any (same_id i) (ids_named d caller names) ≡ list_any (same_name name) names
any-same d caller name i [] apart here named = refl
any-same d caller name i (b ∷ names) apart here named =
    let first = named-first (id_named d caller b) (all_named d caller names) named in
    ap (λ o. list_any (same_id i) (with_id o (ids_named d caller names))) first.1
    ∙ ap₂ ◌||◌ (same-names d caller name b i first.0 apart here first.1)
    (any-same d caller name i names apart here first.2)

-- the ids are apart exactly where no ref is named twice
pub distinct-ids : (d : Directory) (caller : ℕ) (names : List RefNameData) → AreApart (refs_of d)
    → all_named d caller names ≡ true
    → all_distinct same_id (ids_named d caller names) ≡ refs_are_distinct names
distinct-ids d caller [] apart named = refl
distinct-ids d caller (name ∷ names) apart named =
    let first = named-first (id_named d caller name) (all_named d caller names) named in
    ap (λ o. all_distinct same_id (with_id o (ids_named d caller names))) first.1
    ∙ ap₂ (λ a b. not a && b)
    (any-same d caller name first.0 names apart first.1 first.2)
    (distinct-ids d caller names apart first.2)

-- the ids at the places of changes
pub places-ids : (d : Directory) (caller : ℕ) (cs : List ChangeData)
    → map (λ q. q.0) (placed_changes d caller cs) ≡ ids_named d caller (map (λ c. c.name) cs)
places-ids d caller [] = refl
places-ids d caller (c ∷ cs) =
    by (id_named d caller c.name) (placed_changes d caller cs)
    ∙ ap (with_id (id_named d caller c.name)) (places-ids d caller cs) where
      by : (o : Option RefId) (rest : List (RefId × Datum))
          → map (λ q. q.0) (with_place o c.now rest) ≡ with_id o (map (λ q. q.0) rest)
      by None rest = refl
      by (Some id) rest = refl

pub places-same : (d : Directory) (caller : ℕ) (xs sets ys folded : List Change)
    (ps : List (RefId × Datum))
    → ps ≡ placed_changes d caller (map change_view xs ++ map change_view ys)
    → xs ≡ sets → ys ≡ folded
    → ps ≡ placed_changes d caller (map change_view sets ++ map change_view folded)
places-same d caller xs sets ys folded ps e same more =
    e ∙ ap₂ (λ xs ys. placed_changes d caller (map change_view xs ++ map change_view ys)) same more

pub placed-ids : (ps : List Placed) → map (λ p. p.id) ps ≡ map (λ q. q.0) (map placed_view ps)
placed-ids [] = refl
placed-ids (p ∷ ps) = ap (λ ids. p.id ∷ ids) (placed-ids ps)

pub ids-append : (d : Directory) (caller : ℕ) (xs ys : List RefNameData)
    → ids_named d caller (xs ++ ys) ≡ ids_named d caller xs ++ ids_named d caller ys
ids-append d caller [] ys = refl
ids-append d caller (x ∷ xs) ys =
    ap (with_id (id_named d caller x)) (ids-append d caller xs ys) ∙ by (id_named d caller x) where
      by : (o : Option RefId) → with_id o (ids_named d caller xs ++ ids_named d caller ys)
          ≡ with_id o (ids_named d caller xs) ++ ids_named d caller ys
      by None = refl
      by (Some id) = refl

-- a ref is named by one of two lists
pub any_named : (d : Directory) (caller : ℕ) (f : RefId → Bool) (xs ys : List RefNameData)
    → list_any f (ids_named d caller (xs ++ ys))
    ≡ (list_any f (ids_named d caller xs) || list_any f (ids_named d caller ys))
any_named d caller f xs ys = ap (list_any f) (ids-append d caller xs ys)
    ∙ any-append f (ids_named d caller xs) (ids_named d caller ys)

pub places-append : (d : Directory) (caller : ℕ) (xs ys : List ChangeData)
    → placed_changes d caller (xs ++ ys) ≡ placed_changes d caller xs ++ placed_changes d caller ys
places-append d caller [] ys = refl
places-append d caller (x ∷ xs) ys =
    ap (with_place (id_named d caller x.name) x.now) (places-append d caller xs ys)
    ∙ by (id_named d caller x.name) where
      by : (o : Option RefId)
          → with_place o x.now (placed_changes d caller xs ++ placed_changes d caller ys)
          ≡ with_place o x.now (placed_changes d caller xs) ++ placed_changes d caller ys
      by None = refl
      by (Some id) = refl
