-- What an attempt reads, whatever others commit meanwhile.
use Rattle.std.proofs.Common.{◌≡◌, ◌∙◌, ℕ, zero, suc, ◌+◌, List, [], ◌∷◌, Bool, true, false, nat_le}
use Rattle.std.proofs.Common.{Option, Some, None, is_some, take, refl, sym, ap, subst, inl, inr}
use Rattle.std.proofs.Common.{if◌then◌else◌}
use Rattle.std.specs.Prelude.{option_map, option_and_then}
use Rattle.value_data.specs.Datum.{Datum}
use Rattle.repl_asks.specs.Transactions.{RefNameData}
use Rattle.repl_asks.specs.Exchange.{AnswerData, read}
use Rattle.ref_table.specs.Numbered.{part_under}
use Rattle.ref_history.specs.Versioned.{Version, Ref, at_point, readable}
use Rattle.ref_table.specs.Store.{Store, ref_named}
use Rattle.ref_table.specs.Performed.{Performed}
use Rattle.ref_table.specs.Calls.{reads, read_at, read_by, given_up, performed}
use Rattle.server_rules.specs.Ground.{Ground}
use Rattle.server_rules.specs.Request.{WorkInHand, Run}
use Rattle.server_rules.specs.Tenant.{ActorData, seat_of}
use Rattle.server_rules.specs.Plan.{asks_for, ask_answered, Plan}
use Rattle.server_rules.specs.Starting.{interrupted_in}
use Rattle.server_rules.specs.Asking.{answer_outcome, when_told}
use Rattle.server_rules.specs.Deeds.{plan}
use Rattle.server_rules.specs.Machine.World.{TenantData, World, does, accepted, ended_as}
use Rattle.server_rules.specs.Machine.World.{planned_step, deed_step, step, run}
use Rattle.server_rules.specs.declared.actor.Actor.{Actor}
use Rattle.repl_core.specs.Standing.{open_in, store_in}
use Rattle.repl_core.specs.Commits.{ref_in_world, point_in}
use Rattle.repl_core.specs.Points.{held_at, IsOfPoint, ReadsAreOfTheirPoint, shared_ref}
use Rattle.repl_core.specs.Points.{WhatWasHeldStays}
use Rattle.repl_core.proofs.SharedRefs.{shown_at, run-shows}
use Rattle.repl_core.proofs.CommitSteps.{closed_plan, open_plan, asked-by}
use Rattle.repl_core.proofs.Commits.{never-refused, same-answer, ref-near}

-- A version that is kept

pub none-some : {A : Type 0} (x : A) → None ≡ Some x → ⊥
none-some x e = cc

if-held : (b : Bool) (x y z : Option Datum) (d : Datum) → (y ≡ Some d → z ≡ Some d)
    → (if b then x else y) ≡ Some d → (if b then x else z) ≡ Some d
if-held true x y z d h e = e
if-held false x y z d h e = h e

pub kept-held : (point k : ℕ) (vs : List Version) (d : Datum) → at_point point (take k vs) ≡ Some d
    → at_point point vs ≡ Some d
kept-held point zero [] d e = absurd (none-some d e)
kept-held point (suc k) [] d e = absurd (none-some d e)
kept-held point zero (v ∷ vs) d e = absurd (none-some d e)
kept-held point (suc k) (v ∷ vs) d e =
    if-held (nat_le v.stamp point) (Some v.content) (at_point point (take k vs)) (at_point point vs) d
    (kept-held point k vs d) e

-- A read in an attempt

module _ (g : Ground) (w after : World) (t : ℕ) (a : Actor) (name : RefNameData) (answer : AnswerData)
    (point : ℕ) (kept : TenantData) (there : open_in t w ≡ Some kept)
    (began : part_under (seat_of a) kept.mine.points ≡ Some point) where
  abbrev Reads : Plan → Type 0
  Reads p = planned_step w t kept p ≡ accepted after (ask_answered answer)
      → IsOfPoint point (ref_in_world name w) answer

  reads-closed : (h : WorkInHand) → Reads (closed_plan a h (read name) kept.state)
  reads-closed h = by (performed (store_in w.around t kept.mine) (reads (seat_of a) name)).told
    where
      by : (o : Option AnswerData)
          → ended_as w t (given_up (seat_of a) (store_in w.around t kept.mine) o).store
          (when_told (given_up (seat_of a) (store_in w.around t kept.mine) o).told
          (λ _. interrupted_in a h kept.state))
          ≡ accepted after (ask_answered answer) → IsOfPoint point (ref_in_world name w) answer
      by None e = absurd (never-refused _ _ _ e)
      by (Some v) e = let same = same-answer _ _ _ _ e in absurd (cc)

  reads-open : (actor : ActorData) (h : WorkInHand) (form : Run)
      → Reads (open_plan g a actor h form (read name) kept.state)
  reads-open actor h form = from (part_under (seat_of a) kept.mine.points) began
    where
      s : Store
      s = store_in w.around t kept.mine

      Comes : Performed Store → Type 0
      Comes called = ended_as w t called.store
          (when_told called.told (answer_outcome g a actor h form (read name) kept.state))
          ≡ accepted after (ask_answered answer) → IsOfPoint point (ref_in_world name w) answer

      at : (r : Ref) → ref_named name s ≡ Some r → (o : Option Datum) → readable point r ≡ o
          → Comes (read_at (seat_of a) name s o)
      at r is None lost e = let same = same-answer _ _ _ _ e in inl (cc)
      at r is (Some d) is_kept e =
          let same = same-answer _ _ _ _ e in
          let here : ref_in_world name w ≡ Some r = ref-near name w t kept there (ap is_some is) ∙ is in
          inr (
            d,
            cc,
            ap (held_at point) here ∙ kept-held point (r.kept + 1) r.versions d is_kept,
          )

      by : (o : Option Ref) → ref_named name s ≡ o
          → Comes (read_by (seat_of a) name s (Some point) o)
      by None is = λ e. absurd (never-refused _ _ _ e)
      by (Some r) is = at r is (readable point r) refl

      from : (o : Option ℕ) → o ≡ Some point
          → Comes (read_by (seat_of a) name s o (ref_named name s))
      from o is = subst (λ o. Comes (read_by (seat_of a) name s o (ref_named name s))) (sym is)
          (by (ref_named name s) refl)

  reads-planned : Reads (plan g t kept.state (asks_for a (read name)))
  reads-planned = asked-by Reads g a (read name) kept.state
      (λ why e. absurd (never-refused _ _ _ e)) reads-closed reads-open t

asked-of-point : (g : Ground) (w after : World) (t : ℕ) (a : Actor) (name : RefNameData)
    (answer : AnswerData) (point : ℕ) → point_in t a w ≡ Some point
    → step g w (does t (asks_for a (read name))) ≡ accepted after (ask_answered answer)
    → IsOfPoint point (ref_in_world name w) answer
unfolding step
asked-of-point g w after t a name answer point = by (part_under t w.tenants) refl
  where
    by : (o : Option (Option TenantData)) → part_under t w.tenants ≡ o
        → point_in t a w ≡ Some point
        → deed_step g w t (asks_for a (read name)) o ≡ accepted after (ask_answered answer)
        → IsOfPoint point (ref_in_world name w) answer
    by None is began e = absurd (never-refused _ _ _ e)
    by (Some None) is began e = absurd (never-refused _ _ _ e)
    by (Some (Some kept)) is began e =
        let there : open_in t w ≡ Some kept = ap (option_and_then (λ part. part)) is in
        reads-planned g w after t a name answer point kept there
        (sym (ap (option_and_then (λ part. part_under (seat_of a) part.mine.points)) there) ∙ began) e

pub reads-of-point : ReadsAreOfTheirPoint
reads-of-point g w after s answer e t a name told point is tells began =
    asked-of-point g w after t a name told point began
    (ap (step g w) (sym is) ∙ e ∙ ap (accepted after) tells)

-- What was held stays

held-shown : (point : ℕ) (o : Option Ref)
    → held_at point o ≡ option_and_then (λ s. s.held) (option_map (shown_at point) o)
held-shown point None = refl
held-shown point (Some r) = refl

pub held-stays : WhatWasHeldStays
held-stays g w steps number point reached =
    held-shown point (ref_in_world (shared_ref number) (run g w steps))
    ∙ ap (option_and_then (λ s. s.held)) ((run-shows point g steps w reached).1 number)
    ∙ sym (held-shown point (ref_in_world (shared_ref number) w))
