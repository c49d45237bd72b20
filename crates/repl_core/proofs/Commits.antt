-- What commits make of refs, over the steps of a server.
use Rattle.std.proofs.Common.{◌≡◌, ℕ, ◌==◌, List, [], ◌∷◌, Bool, true, false, ◌&&◌, ◌||◌, map}
use Rattle.std.proofs.Common.{Option, Some, None, is_some, slice_get, refl, sym, ap, ◌∙◌}
use Rattle.std.proofs.Common.{if◌then◌else◌, true≢false}
use Rattle.std.specs.List.{list_any}
use Rattle.std.specs.Prelude.{option_and_then, Result, Ok, Err}
use Rattle.std.proofs.lemmas.Bool.{eqb-true, and_parts, or_parts}
use Rattle.value_data.specs.Datum.{OwnerData, shared, tenant}
use Rattle.repl_values.specs.Failure.{Failure}
use Rattle.repl_asks.specs.Transactions.{RefNameData, ChangeData, IntentData}
use Rattle.repl_asks.specs.Exchange.{AnswerData, commit, verdict, committed}
use Rattle.ref_table.specs.Numbered.{part_under}
use Rattle.ref_table.specs.Store.{Store, ref_of, ref_named, newest_value}
use Rattle.ref_table.specs.Commit.{guarded_refs, touched_refs, all_there, intent_fits}
use Rattle.ref_table.specs.Commit.{is_newer_ref, any_newer, all_folded, concluded_commit}
use Rattle.ref_table.specs.Commit.{checked_commit, commit_by}
use Rattle.ref_table.specs.Performed.{Performed}
use Rattle.ref_table.specs.Calls.{commits, given_up, performed}
use Rattle.server_rules.specs.Ground.{Ground}
use Rattle.server_rules.specs.Request.{WorkInHand, Run}
use Rattle.server_rules.specs.Tenant.{ActorData, seat_of}
use Rattle.server_rules.specs.Plan.{asks_for, StepAnswer, ask_answered, Plan}
use Rattle.server_rules.specs.Starting.{interrupted_in}
use Rattle.server_rules.specs.Asking.{answer_outcome, when_told}
use Rattle.server_rules.specs.Deeds.{plan}
use Rattle.server_rules.specs.Machine.World.{TenantData, World, Step, does, accepted, refused, ended_as}
use Rattle.server_rules.specs.Machine.World.{planned_step, deed_step, step, world_or, run}
use Rattle.server_rules.specs.declared.actor.Actor.{Actor}
use Rattle.server_rules.specs.declared.refusal.Refusal.{Refusal}
use Rattle.repl_core.specs.Standing.{open_in, store_in}
use Rattle.repl_core.specs.Commits.{kept_refs, refs_in, ref_in_world, newest_in, MetNoNewer}
use Rattle.repl_core.specs.Commits.{newest_through}
use Rattle.repl_core.proofs.CommitCalls.{all_there-parts}
use Rattle.repl_core.proofs.CommitSteps.{closed_plan, open_plan, asked-by, step-gives}

-- A commit that is answered so

pub never-refused : (why : Refusal) (w : World) (answer : StepAnswer)
    → refused why ≡ accepted w answer → ⊥
never-refused why w answer e = cc

pub same-answer : (v w : World) (x y : StepAnswer) → accepted v x ≡ accepted w y → x ≡ y
same-answer v w x y e = cc

pub ref-near : (name : RefNameData) (w : World) (t : ℕ) (kept : TenantData) → open_in t w ≡ Some kept
    → is_some (ref_named name (store_in w.around t kept.mine)) ≡ true
    → ref_in_world name w ≡ ref_named name (store_in w.around t kept.mine)
ref-near name w t kept there = by name.owner
  where
    at : (u : ℕ) (b : Bool) → (u == t) ≡ b
        → is_some (if b then slice_get kept.mine.refs name.number else None) ≡ true
        → slice_get (kept_refs (open_in u w)) name.number
        ≡ (if b then slice_get kept.mine.refs name.number else None)
    at u true same e = ap (λ p. slice_get (kept_refs p) name.number)
        (ap (λ k. open_in k w) (eqb-true u t same) ∙ there)
    at u false apart e = absurd (true≢false (sym e))

    by : (o : OwnerData) → is_some (ref_of o name.number (store_in w.around t kept.mine)) ≡ true
        → slice_get (refs_in o w) name.number
        ≡ ref_of o name.number (store_in w.around t kept.mine)
    by shared e = refl
    by (tenant u) e = at u (u == t) refl e

none-newer : (names : List RefNameData) (point : ℕ) (w : World) (t : ℕ) (kept : TenantData)
    → open_in t w ≡ Some kept → all_there names (store_in w.around t kept.mine) ≡ true
    → any_newer point names (store_in w.around t kept.mine) ≡ false
    → list_any (λ name. is_newer_ref point (ref_in_world name w)) names ≡ false
none-newer [] point w t kept there reached none = refl
none-newer (name ∷ names) point w t kept there reached none =
    let s : Store = store_in w.around t kept.mine in
    let here = and_parts (is_some (ref_named name s)) (all_there names s) reached in
    let old = or_parts (is_newer_ref point (ref_named name s)) (any_newer point names s) none in
    ap (λ b. b || list_any (λ other. is_newer_ref point (ref_in_world other w)) names)
    (ap (is_newer_ref point) (ref-near name w t kept there here.0) ∙ old.0)
    ∙ none-newer names point w t kept there here.1 old.1

module _ (g : Ground) (w after : World) (t : ℕ) (a : Actor) (intent : IntentData)
    (kept : TenantData) (there : open_in t w ≡ Some kept) where
  abbrev Met : Plan → Type 0
  Met p = planned_step w t kept p ≡ accepted after (ask_answered (verdict committed))
      → MetNoNewer w t a intent

  met-closed : (h : WorkInHand) → Met (closed_plan a h (commit intent) kept.state)
  met-closed h = by (performed (store_in w.around t kept.mine) (commits (seat_of a) intent)).told
    where
      by : (o : Option AnswerData)
          → ended_as w t (given_up (seat_of a) (store_in w.around t kept.mine) o).store
          (when_told (given_up (seat_of a) (store_in w.around t kept.mine) o).told
          (λ _. interrupted_in a h kept.state))
          ≡ accepted after (ask_answered (verdict committed)) → MetNoNewer w t a intent
      by None e = absurd (never-refused _ _ _ e)
      by (Some v) e = let same = same-answer _ _ _ _ e in absurd (cc)

  met-open : (actor : ActorData) (h : WorkInHand) (form : Run)
      → Met (open_plan g a actor h form (commit intent) kept.state)
  met-open actor h form = by (part_under (seat_of a) kept.mine.points) refl
    where
      s : Store
      s = store_in w.around t kept.mine

      Comes : Performed Store → Type 0
      Comes called = ended_as w t called.store
          (when_told called.told (answer_outcome g a actor h form (commit intent) kept.state))
          ≡ accepted after (ask_answered (verdict committed)) → MetNoNewer w t a intent

      concludes : MetNoNewer w t a intent → (folds : Result (List ChangeData) Failure)
          → Comes (concluded_commit (seat_of a) intent.sets s folds)
      concludes none (Err f) e = let same = same-answer _ _ _ _ e in absurd (cc)
      concludes none (Ok changes) e = none

      at : (point : ℕ) → part_under (seat_of a) kept.mine.points ≡ Some point → (fit newer : Bool)
          → (all_there (touched_refs intent) s && intent_fits intent) ≡ fit
          → any_newer point (guarded_refs intent) s ≡ newer
          → Comes (checked_commit (seat_of a) intent s fit newer)
      at point began false newer fit met e = absurd (never-refused _ _ _ e)
      at point began true true fit met e = let same = same-answer _ _ _ _ e in absurd (cc)
      at point began true false fit met e = concludes (record {
        point = point;
        began = ap (option_and_then (λ part. part_under (seat_of a) part.mine.points)) there ∙ began;
        none_newer = none-newer (guarded_refs intent) point w t kept there
            (all_there-parts (guarded_refs intent) (map (λ c. c.name) intent.commuted) s
            (and_parts (all_there (touched_refs intent) s) (intent_fits intent) fit).0).0 met;
      }) (all_folded (λ name. newest_value name s) intent.commuted) e

      by : (o : Option ℕ) → part_under (seat_of a) kept.mine.points ≡ o
          → Comes (commit_by (seat_of a) intent s o)
      by None began = λ e. absurd (never-refused _ _ _ e)
      by (Some point) began = at point began (all_there (touched_refs intent) s && intent_fits intent)
          (any_newer point (guarded_refs intent) s) refl refl

  met-planned : Met (plan g t kept.state (asks_for a (commit intent)))
  met-planned = asked-by Met g a (commit intent) kept.state
      (λ why e. absurd (never-refused _ _ _ e)) met-closed met-open t

pub met-none_newer : (g : Ground) (w after : World) (t : ℕ) (a : Actor) (intent : IntentData)
    → step g w (does t (asks_for a (commit intent)))
    ≡ accepted after (ask_answered (verdict committed)) → MetNoNewer w t a intent
unfolding step
met-none_newer g w after t a intent = by (part_under t w.tenants) refl
  where
    by : (o : Option (Option TenantData)) → part_under t w.tenants ≡ o
        → deed_step g w t (asks_for a (commit intent)) o
        ≡ accepted after (ask_answered (verdict committed)) → MetNoNewer w t a intent
    by None is e = absurd (never-refused _ _ _ e)
    by (Some None) is e = absurd (never-refused _ _ _ e)
    by (Some (Some kept)) is e = met-planned g w after t a intent kept
        (ap (option_and_then (λ part. part)) is) e

-- Runs

pub run-newest : (g : Ground) (w : World) (steps : List Step) (name : RefNameData)
    → newest_in name (run g w steps) ≡ newest_through name g w steps (newest_in name w)
run-newest g w [] name = refl
run-newest g w (s ∷ ss) name =
    run-newest g (world_or w (step g w s)) ss name
    ∙ ap (newest_through name g (world_or w (step g w s)) ss) (step-gives name g w s)
