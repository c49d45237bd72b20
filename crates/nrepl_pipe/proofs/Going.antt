-- What an actor's turn does to the steps, the replies and what was heard.
use Rattle.std.proofs.Common.{◌≡◌, ◌≢◌, ℕ, zero, suc, ◌+◌, ◌-◌, ◌==◌, List, [], ◌∷◌, Bool, true}
use Rattle.std.proofs.Common.{false, ◌||◌, if◌then◌else◌, Option, None, Some, is_some, refl, sym}
use Rattle.std.proofs.Common.{ap, ◌∙◌, subst, arith}
use Rattle.std.specs.Prelude.{⊤}
use Rattle.repl_asks.specs.Exchange.{AskData}
use Rattle.repl_asks.specs.InteractionTree.{InteractionTree, finished, asks}
use Rattle.repl_asks.specs.Leading as leading
use Rattle.ref_table.specs.Numbered.{part_under}
use Rattle.server_rules.specs.Ground.{Ground}
use Rattle.server_rules.specs.Request.{Waiting, WorkInHand, Run}
use Rattle.server_rules.specs.Starting.{start_waiting, start_action, action_for}
use Rattle.server_rules.specs.Machine.Ready.{has_waiting}
use Rattle.ref_table.specs.Store.{Store}
use Rattle.server_rules.specs.Tenant.{ActorData, seat_of, TenantState, is_held}
use Rattle.server_rules.specs.Plan.{Deed, starts, asks_for, ends, Outcome, refuses}
use Rattle.repl_asks.specs.Job.{EndingData}
use Rattle.server_rules.specs.Plan.{leaves, Plan, quietly}
use Rattle.server_rules.specs.Asking.{asked_of}
use Rattle.server_rules.specs.Ending.{end_of}
use Rattle.server_rules.specs.Deeds.{start_of, for_actor, unless_worn, plan}
use Rattle.server_rules.specs.Honest.{honest_deed, honest_at, honest_of, honest_in, honest_by}
use Rattle.server_rules.specs.declared.actor.Actor.{Actor}
use Rattle.server_rules.specs.declared.refusal.Refusal.{Refusal}
use Rattle.server_rules.specs.DeedResult.{carried_out, deed_result}
use Rattle.server_rules.specs.Inside.Rounds.{is_some_busy, is_busy_at}
use Rattle.server_rules.specs.LoneTurns.{LoneTenant, goes, LoneStepped, accepted, refused, lone_ended}
use Rattle.server_rules.specs.LoneTurns.{stepped_as, lone_step, lone_or, reply_taken, lone_after}
use Rattle.nrepl_pipe.proofs.Starting.{OthersStay, PlansSo, GoesSo, start-so}
use Rattle.nrepl_pipe.proofs.Finishing.{asked-so, ended-so}

-- The honest deed

-- where steps are left, the deed is this plan
record Acts (g : Ground) (t : ℕ) (a : Actor) (q : TenantState) (d : Deed) : Type 0 where
  plan_is : Plan
  so : PlansSo a q plan_is
  is : plan g t q d ≡ unless_worn q plan_is

for_actor-so : (a : Actor) (q : TenantState) (there : Option ActorData) (p : ActorData → Plan)
    → ((actor : ActorData) → PlansSo a q (p actor)) → PlansSo a q (for_actor there p)
for_actor-so a q None p so told = λ e. cc
for_actor-so a q (Some actor) p so told = so actor told

starts-acts : (g : Ground) (t : ℕ) (a : Actor) (q : TenantState) → Acts g t a q (starts a)
starts-acts g t a q = record {
  plan_is = for_actor (part_under (seat_of a) q.actors)
      (λ actor. quietly (start_of g a actor q actor.hand));
  so = for_actor-so a q (part_under (seat_of a) q.actors)
      (λ actor. quietly (start_of g a actor q actor.hand))
      (λ actor told. start-so g a actor q actor.hand);
  is = refl;
}

asks-acts : (g : Ground) (t : ℕ) (a : Actor) (ask : AskData) (q : TenantState) → Acts g t a q (asks_for a ask)
asks-acts g t a ask q = record {
  plan_is = for_actor (part_under (seat_of a) q.actors)
      (λ actor. asked_of g a actor ask q actor.hand);
  so = for_actor-so a q (part_under (seat_of a) q.actors)
      (λ actor. asked_of g a actor ask q actor.hand)
      (λ actor. asked-so g a actor ask q actor.hand);
  is = refl;
}

ends-acts : (g : Ground) (t : ℕ) (a : Actor) (e : EndingData) (q : TenantState) → Acts g t a q (ends a e)
ends-acts g t a e q = record {
  plan_is = for_actor (part_under (seat_of a) q.actors) (λ actor. end_of g a actor e q actor.hand);
  so = for_actor-so a q (part_under (seat_of a) q.actors)
      (λ actor. end_of g a actor e q actor.hand)
      (λ actor. ended-so g a actor e q actor.hand);
  is = refl;
}

at-acts : (g : Ground) (n : ℕ) (a : Actor) (q : TenantState) (run : Run) (t : InteractionTree)
    → Acts g n a q (honest_at a run t)
at-acts g n a q run (asks ask behind) = asks-acts g n a ask q
at-acts g n a q run (finished e) =
    ends-acts g n a (record { job = run.job; trace = run.trace; end = e }) q

of-acts : (g : Ground) (t : ℕ) (a : Actor) (q : TenantState) (run : Option Run) → Acts g t a q (honest_of g a run)
of-acts g t a q None = starts-acts g t a q
of-acts g t a q (Some run) = at-acts g t a q run (leading.tree_after (g.evaluation run.job) run.trace)

in-acts : (g : Ground) (t : ℕ) (a : Actor) (q : TenantState) (h : Option WorkInHand) → Acts g t a q (honest_in g a h)
in-acts g t a q None = starts-acts g t a q
in-acts g t a q (Some h) = of-acts g t a q h.running

by-acts : (g : Ground) (t : ℕ) (a : Actor) (q : TenantState) (there : Option ActorData)
    → Acts g t a q (honest_by g a there)
by-acts g t a q None = starts-acts g t a q
by-acts g t a q (Some actor) = in-acts g t a q actor.hand

honest_deed-acts : (g : Ground) (t : ℕ) (a : Actor) (q : TenantState) → Acts g t a q (honest_deed g a (Some (Some q)))
honest_deed-acts g t a q = by-acts g t a q (part_under (seat_of a) q.actors)

-- The step

-- an actor's turn, refused or accepted
abbrev pub StepsSo : LoneTenant → LoneStepped → Type 0
StepsSo l (accepted new bytes) = (l.state.steps ≡ new.state.steps + 1)
    × (new.state.heard ≡ l.state.heard) × (bytes ≡ [])
StepsSo l (refused why) = why ≡ Refusal.Held → is_held l.state ≡ true

one-less : (n m : ℕ) → (n == 0) ≡ false → m ≡ n - 1 → n ≡ m + 1
one-less zero m some is = cc
one-less (suc n) m some is = omega arith

outcome-steps : (a : Actor) (l : LoneTenant) (s : Store) (o : Outcome) → (l.state.steps == 0) ≡ false
    → GoesSo a l.state o → StepsSo l (lone_ended s o)
outcome-steps a l s (refuses why) some so = so
outcome-steps a l s (leaves new answer) some so =
    (one-less l.state.steps new.steps some so.0, so.1, so.2)

abbrev worn_plan : Plan → Bool → Plan
worn_plan p worn = if worn then quietly (refuses Refusal.Worn) else p

worn-steps : (a : Actor) (l : LoneTenant) (p : Plan) (worn : Bool) → (l.state.steps == 0) ≡ worn
    → PlansSo a l.state p → StepsSo l (stepped_as (carried_out l.store (worn_plan p worn)))
worn-steps a l p true is so = λ e. cc
worn-steps a l p false is so =
    outcome-steps a l (carried_out l.store p).store (carried_out l.store p).outcome is (so _)

lone_step-goes : (g : Ground) (l : LoneTenant) (a : Actor) → lone_step g l (goes a)
    ≡ stepped_as (carried_out l.store
    (plan g l.store.tenant l.state (honest_deed g a (Some (Some l.state)))))
unfolding lone_step deed_result
lone_step-goes g l a = refl

lone_step-acts : (g : Ground) (l : LoneTenant) (a : Actor) → lone_step g l (goes a)
    ≡ stepped_as (carried_out l.store
    (unless_worn l.state (honest_deed-acts g l.store.tenant a l.state).plan_is))
lone_step-acts g l a = lone_step-goes g l a
    ∙ ap (λ p. stepped_as (carried_out l.store p)) (honest_deed-acts g l.store.tenant a l.state).is

pub go-steps : (g : Ground) (l : LoneTenant) (a : Actor) → StepsSo l (lone_step g l (goes a))
go-steps g l a =
    let acts = honest_deed-acts g l.store.tenant a l.state in
    subst (StepsSo l) (sym (lone_step-acts g l a))
    (worn-steps a l acts.plan_is (l.state.steps == 0) refl acts.so)

pub go-worn : (g : Ground) (l : LoneTenant) (a : Actor) → (l.state.steps == 0) ≡ true
    → lone_step g l (goes a) ≡ refused Refusal.Worn
go-worn g l a none = lone_step-acts g l a
    ∙ ap (λ worn. stepped_as (carried_out l.store
    (worn_plan (honest_deed-acts g l.store.tenant a l.state).plan_is worn))) none

steps-give : (l : LoneTenant) (s : LoneStepped) → StepsSo l s → reply_taken s ≡ []
steps-give l (accepted new bytes) so = so.2
steps-give l (refused why) so = refl

pub go-gives : (g : Ground) (l : LoneTenant) (a : Actor) → reply_taken (lone_step g l (goes a)) ≡ []
go-gives g l a = steps-give l (lone_step g l (goes a)) (go-steps g l a)

steps-heard : (l : LoneTenant) (s : LoneStepped) → StepsSo l s
    → (lone_or l s).state.heard ≡ l.state.heard
steps-heard l (accepted new bytes) so = so.1
steps-heard l (refused why) so = refl

pub go-heard : (g : Ground) (l : LoneTenant) (a : Actor)
    → (lone_after g l (goes a)).state.heard ≡ l.state.heard
go-heard g l a = steps-heard l (lone_step g l (goes a)) (go-steps g l a)

-- The other actors are as they were

abbrev StaysSo : Actor → LoneTenant → LoneStepped → Type 0
StaysSo a l (accepted new bytes) = OthersStay a l.state new.state
StaysSo a l (refused why) = ⊤

outcome-stays : (a : Actor) (l : LoneTenant) (s : Store) (o : Outcome) → GoesSo a l.state o
    → StaysSo a l (lone_ended s o)
outcome-stays a l s (refuses why) so = tt
outcome-stays a l s (leaves new answer) so = so.3

worn-stays : (a : Actor) (l : LoneTenant) (p : Plan) (worn : Bool) → PlansSo a l.state p
    → StaysSo a l (stepped_as (carried_out l.store (worn_plan p worn)))
worn-stays a l p true so = tt
worn-stays a l p false so =
    outcome-stays a l (carried_out l.store p).store (carried_out l.store p).outcome (so _)

stays-behind : (a : Actor) (l : LoneTenant) (s : LoneStepped) → StaysSo a l s
    → OthersStay a l.state (lone_or l s).state
stays-behind a l (accepted new bytes) so = so
stays-behind a l (refused why) so = λ n other. refl

pub go-others : (g : Ground) (l : LoneTenant) (a : Actor)
    → OthersStay a l.state (lone_after g l (goes a)).state
go-others g l a =
    let acts = honest_deed-acts g l.store.tenant a l.state in
    stays-behind a l (lone_step g l (goes a))
    (subst (StaysSo a l) (sym (lone_step-acts g l a))
    (worn-stays a l acts.plan_is (l.state.steps == 0) acts.so))

-- An actor that has nothing to do

-- but that of agents, an actor to which no request comes has nothing to take up
no-action : (a : Actor) (q : TenantState) → (seat_of a == 0) ≡ false
    → action_for a q.cells.agents ≡ None
no-action Actor.Agents q other = cc
no-action Actor.Bare q other = refl
no-action (Actor.Session n) q other = refl

idle-waiting : (g : Ground) (a : Actor) (actor : ActorData) (q : TenantState) (ws : List Waiting)
    → (seat_of a == 0) ≡ false → has_waiting ws ≡ false
    → start_waiting g a actor q ws ≡ refuses Refusal.Idle
idle-waiting g a actor q [] other none = ap (start_action g a actor q) (no-action a q other)
idle-waiting g a actor q (w ∷ ws) other none = cc

idle-hand : (g : Ground) (a : Actor) (actor : ActorData) (q : TenantState) (h : Option WorkInHand)
    → (seat_of a == 0) ≡ false → (is_some h || has_waiting actor.waiting) ≡ false
    → (honest_in g a h ≡ starts a) × (start_of g a actor q h ≡ refuses Refusal.Idle)
idle-hand g a actor q None other none = (refl, idle-waiting g a actor q actor.waiting other none)
idle-hand g a actor q (Some h) other none = cc

abbrev why_idle : Option ActorData → Refusal
why_idle None = Refusal.NoSuchActor
why_idle (Some actor) = Refusal.Idle

idle-deed : (g : Ground) (a : Actor) (q : TenantState) (there : Option ActorData)
    → (seat_of a == 0) ≡ false → is_some_busy there ≡ false → honest_by g a there ≡ starts a
idle-deed g a q None other none = refl
idle-deed g a q (Some actor) other none = (idle-hand g a actor q actor.hand other none).0

idle-plan : (g : Ground) (a : Actor) (q : TenantState) (there : Option ActorData)
    → (seat_of a == 0) ≡ false → is_some_busy there ≡ false
    → for_actor there (λ actor. quietly (start_of g a actor q actor.hand))
    ≡ quietly (refuses (why_idle there))
idle-plan g a q None other none = refl
idle-plan g a q (Some actor) other none = ap quietly (idle-hand g a actor q actor.hand other none).1

neither : (b c : Bool) → (b || c) ≡ false → (b ≡ false) × (c ≡ false)
neither true c none = cc
neither false c none = (refl, none)

idle-refused : (g : Ground) (l : LoneTenant) (a : Actor) → is_busy_at l a ≡ false
    → (l.state.steps == 0) ≡ false
    → lone_step g l (goes a) ≡ refused (why_idle (part_under (seat_of a) l.state.actors))
idle-refused g l a none left =
    let there = part_under (seat_of a) l.state.actors in
    let both = neither (seat_of a == 0) (is_some_busy there) none in
    lone_step-goes g l a
    ∙ ap (λ d. stepped_as (carried_out l.store (plan g l.store.tenant l.state d)))
    (idle-deed g a l.state there both.0 both.1)
    ∙ ap (λ p. stepped_as (carried_out l.store (unless_worn l.state p)))
    (idle-plan g a l.state there both.0 both.1)
    ∙ ap (λ worn. stepped_as (carried_out l.store
    (worn_plan (quietly (refuses (why_idle there))) worn))) left

-- its turn is refused, and neither for replies that wait nor for the steps
pub record IsPassed (g : Ground) (l : LoneTenant) (a : Actor) : Type 0 where
  pub why : Refusal
  pub refused_so : lone_step g l (goes a) ≡ refused why
  pub not_held : why ≢ Refusal.Held
  pub not_worn : why ≢ Refusal.Worn

pub idle-passed : (g : Ground) (l : LoneTenant) (a : Actor) → is_busy_at l a ≡ false
    → (l.state.steps == 0) ≡ false → IsPassed g l a
idle-passed g l a none left =
    by (part_under (seat_of a) l.state.actors) (idle-refused g l a none left) where
      by : (there : Option ActorData) → lone_step g l (goes a) ≡ refused (why_idle there)
          → IsPassed g l a
      by None is = record {
        why = Refusal.NoSuchActor;
        refused_so = is;
        not_held = λ e. cc;
        not_worn = λ e. cc;
      }
      by (Some actor) is = record {
        why = Refusal.Idle;
        refused_so = is;
        not_held = λ e. cc;
        not_worn = λ e. cc;
      }
