-- A runner behind the turns of its tenant.
use Rattle.std.proofs.Common.{◌≡◌, ◌≢◌, List, [], ◌∷◌, ℕ, false, nat_le, Some, None, Result, Ok}
use Rattle.std.proofs.Common.{Err, refl, sym, ap, subst, ◌∙◌, IfErr, OnOk}
use Rattle.repl_replies.specs.Replies.{ReplyData}
use Rattle.server_rules.specs.Deeds.{drain_outcome}
use Rattle.ref_table.specs.Numbered.{entry}
use Rattle.server_rules.specs.Ground.{Ground}
use Rattle.server_rules.specs.Plan.{Deed, StepAnswer, Outcome, refuses, leaves, tenant_opened}
use Rattle.ref_table.specs.Store.{Around, Store}
use Rattle.server_rules.specs.Tenant.{TenantState}
use Rattle.server_rules.specs.Honest.{honest_deed}
use Rattle.server_rules.specs.Plan.{bytes_in}
use Rattle.server_rules.specs.Machine.World as worlds
use Rattle.server_rules.specs.Machine.World.{TenantData, World, opened_world, opened_tenant, opens, does}
use Rattle.server_rules.specs.Machine.World.{with_tenant}
use Rattle.server_rules.specs.declared.actor.Actor.{Actor}
use Rattle.server_rules.specs.declared.refusal.Refusal.{Refusal}
use Rattle.server_rules.specs.DeedResult.{DeedResult, deed_result}
use Rattle.server_rules.specs.Grounds.{IsRight}
use Rattle.server_rules.specs.LoneTurns.{LoneTurn, LoneTenant, goes, drains, accepted, deed_of, lone_step}
use Rattle.server_rules.specs.LoneTurns.{stepped_as, lone_ended, opened_lone}
use Rattle.server_rules.specs.Inside.Turned.{AcceptedWith, IsRefusedTurn}
use Rattle.repl_core.specs.Grounds.{Evaluates}
use Rattle.repl_core.specs.Inside.WalkAt.{walk_at}
use Rattle.tenant_world.specs.Standing as tenants
use Rattle.tenant_world.specs.declared.tenant.Tenant.{Tenant}
use Rattle.repl_core.specs.declared.machine.TheConstants.{PLACES}
use Rattle.repl_core.specs.Going.{AreWalkedIn, KeepsForms, AcceptsHonestStep, RefusesHonestStep}
use Rattle.repl_core.specs.Standing as machine
use Rattle.repl_core.specs.Standing.{open_in, store_in}
use Rattle.repl_core.specs.Steps as core
use Rattle.repl_core.specs.TenantAt.{tenant_at}
use Rattle.repl_core.proofs.Worlds as world
use Rattle.repl_core.proofs.Worlds.{step-deed}
use Rattle.repl_core.proofs.Places.{open-mine, kept-at, none-at}
use Rattle.repl_core.proofs.Behind.{deed_result-tenant}
use Rattle.repl_core.proofs.Comings.{open-tested}
use Rattle.repl_core.proofs.Honest.{honest_deed-turn}
use Rattle.repl_core.proofs.GoingOn.{same-world, deed-walked, fresh-walked}
use Rattle.machine_runs.specs.Inside.Standing.{tenant_data_of, RunnerStands}
use Rattle.machine_runs.specs.declared.runner.Runner.{Runner}

-- what a deed of the tenant comes to, in its server
abbrev pub deeded_in : Ground → World → LoneTenant → Deed → DeedResult
deeded_in g w l d = world.deed_of g w 0 (tenant_data_of l) d

-- the turn comes to what the deed does
pub turn-so : (g : Ground) (w : World) (l : LoneTenant) (turn : LoneTurn) (d : Deed)
    → l.store ≡ store_in w.around 0 l.store.mine → d ≡ deed_of g l turn
    → lone_step g l turn ≡ lone_ended (deeded_in g w l d).store (deeded_in g w l d).outcome
unfolding lone_step
turn-so g w l turn d seen is =
    ap (λ x. stepped_as (deed_result g l.store l.state x)) (sym is)
    ∙ ap (λ s. stepped_as (deed_result g s l.state d)) seen

-- what is seen behind it
pub seen-behind : (around : Around) (s : Store) → s.around ≡ around → s.tenant ≡ 0
    → s ≡ store_in around 0 s.mine
seen-behind around s same mine =
    ap (λ a. record { around = a; tenant = s.tenant; mine = s.mine }) same
    ∙ ap (λ t. record { around = around; tenant = t; mine = s.mine }) mine

stands-behind : (g : Ground) (w after : World) (l : LoneTenant) (d : Deed) (q : TenantState) (new : Runner)
    → IsRight g → Evaluates g → open_in 0 w ≡ Some (tenant_data_of l)
    → with_tenant 0 (Some (record { state = q; mine = (deeded_in g w l d).store.mine }))
    (deeded_in g w l d).store.around w ≡ after
    → machine.MachineStands g new.machine after → AreWalkedIn new.walks (open_in 0 after)
    → RunnerStands g new (record { state = q; store = (deeded_in g w l d).store })
stands-behind g w after l d q new right ground there same stands walked =
    let e = deeded_in g w l d in
    let part : TenantData = record { state = q; mine = e.store.mine } in
    record {
      right = right;
      ground = ground;
      world = after;
      machine = stands;
      there = sym (ap (open_in 0) same) ∙ open-mine w e.store.around 0 (Some part) (tenant_data_of l) there;
      store = seen-behind after.around e.store (ap (λ x. x.around) same)
          (deed_result-tenant g (store_in w.around 0 l.store.mine) l.state d);
      walked = walked;
    }

-- the deed is accepted
accepted-deed : (g : Ground) (w after : World) (l : LoneTenant) (d : Deed) (answer : StepAnswer)
    (new : Runner) → IsRight g → Evaluates g → open_in 0 w ≡ Some (tenant_data_of l)
    → worlds.step g w (does 0 d) ≡ worlds.accepted after answer
    → machine.MachineStands g new.machine after → AreWalkedIn new.walks (open_in 0 after)
    → (it : LoneTenant) × (lone_ended (deeded_in g w l d).store (deeded_in g w l d).outcome
    ≡ accepted it (bytes_in answer)) × RunnerStands g new it
accepted-deed g w after l d answer new right ground there is stands walked =
    by e.outcome refl (sym (step-deed g w 0 d (tenant_data_of l) there) ∙ is)
  where
    e : DeedResult
    e = deeded_in g w l d

    by : (o : Outcome) → e.outcome ≡ o → worlds.ended_as w 0 e.store o ≡ worlds.accepted after answer
        → (it : LoneTenant) × (lone_ended e.store e.outcome ≡ accepted it (bytes_in answer))
        × RunnerStands g new it
    by (refuses why) out never = absurd (cc)
    by (leaves q x) out same =
        let given : x ≡ answer = cc in (
          record { state = q; store = e.store },
          ap (lone_ended e.store) out
              ∙ ap (λ a. accepted (record { state = q; store = e.store }) (bytes_in a)) given,
          stands-behind g w after l d q new right ground there (same-world _ after x answer same)
              stands walked,
        )

pub accepted-turn : (g : Ground) (w after : World) (l : LoneTenant) (turn : LoneTurn) (d : Deed)
    (answer : StepAnswer) (new : Runner) → IsRight g → Evaluates g
    → open_in 0 w ≡ Some (tenant_data_of l) → l.store ≡ store_in w.around 0 l.store.mine
    → d ≡ deed_of g l turn → worlds.step g w (does 0 d) ≡ worlds.accepted after answer
    → machine.MachineStands g new.machine after → AreWalkedIn new.walks (open_in 0 after)
    → (it : LoneTenant) × (lone_step g l turn ≡ accepted it (bytes_in answer)) × RunnerStands g new it
accepted-turn g w after l turn d answer new right ground there seen same is stands walked =
    let it = accepted-deed g w after l d answer new right ground there is stands walked in
    (it.0, turn-so g w l turn d seen same ∙ it.1, it.2)

-- the deed is refused
pub refused-turn : (g : Ground) (w : World) (l : LoneTenant) (turn : LoneTurn) (d : Deed) (why : Refusal)
    → open_in 0 w ≡ Some (tenant_data_of l) → l.store ≡ store_in w.around 0 l.store.mine
    → d ≡ deed_of g l turn → worlds.step g w (does 0 d) ≡ worlds.refused why
    → IsRefusedTurn why (lone_step g l turn)
refused-turn g w l turn d why there seen same is =
    turn-so g w l turn d seen same
    ∙ by e.outcome refl (sym (step-deed g w 0 d (tenant_data_of l) there) ∙ is)
  where
    e : DeedResult
    e = deeded_in g w l d

    by : (o : Outcome) → e.outcome ≡ o → worlds.ended_as w 0 e.store o ≡ worlds.refused why
        → IsRefusedTurn why (lone_ended e.store e.outcome)
    by (refuses x) out same =
        let told : x ≡ why = cc in
        ap (lone_ended e.store) out ∙ ap (λ y. lone_ended e.store (refuses y)) told
    by (leaves q x) out never = absurd (cc)

stands-same : (g : Ground) (l : LoneTenant) (old new : Runner) (s : RunnerStands g old l)
    → machine.MachineStands g new.machine s.world → AreWalkedIn new.walks (open_in 0 s.world)
    → RunnerStands g new l
stands-same g l old new s stands walked = record {
  right = s.right;
  ground = s.ground;
  world = s.world;
  machine = stands;
  there = s.there;
  store = s.store;
  walked = walked;
}

-- a deed by which no form goes on
pub does-turn : (g : Ground) (l : LoneTenant) (turn : LoneTurn) (d : Deed) (old new : Runner)
    (answer : StepAnswer) (s : RunnerStands g old l) → KeepsForms d → d ≡ deed_of g l turn
    → new.walks ≡ old.walks → core.AcceptsStep g s.world (does 0 d) new.machine answer
    → (it : LoneTenant) × (lone_step g l turn ≡ accepted it (bytes_in answer)) × RunnerStands g new it
does-turn g l turn d old new answer s keeps is same did =
    accepted-turn g s.world did.after l turn d answer new s.right s.ground s.there s.store is
    did.accepted did.stands
    (subst (λ walks. AreWalkedIn walks (open_in 0 did.after)) (sym same)
    (deed-walked g s.world did.after 0 d answer old.walks keeps did.accepted s.walked))

pub refuses-turn : (g : Ground) (l : LoneTenant) (turn : LoneTurn) (d : Deed) (old new : Runner)
    (why : Refusal) (s : RunnerStands g old l) → d ≡ deed_of g l turn → new.walks ≡ old.walks
    → core.RefusesStep g s.world (does 0 d) new.machine why → why ≢ Refusal.NoMemory
    → IsRefusedTurn why (lone_step g l turn) × RunnerStands g new l
refuses-turn g l turn d old new why s is same told ne = (
  refused-turn g s.world l turn d why s.there s.store is (told.refused ne),
  stands-same g l old new s told.stands
      (subst (λ walks. AreWalkedIn walks (open_in 0 s.world)) (sym same) s.walked),
)

pub accepted-so : (g : Ground) (l : LoneTenant) (turn : LoneTurn) (new : Runner) (bytes : List ℕ)
    → ((it : LoneTenant) × (lone_step g l turn ≡ accepted it bytes) × RunnerStands g new it)
    → AcceptedWith (RunnerStands g new) (lone_step g l turn)
accepted-so g l turn new bytes it = subst (AcceptedWith (RunnerStands g new)) (sym it.1) it.2

-- an actor goes on
pub goes-turn : {X : Type 0} (g : Ground) (l : LoneTenant) (a : Actor) (old new : Runner)
    (res : Result X Refusal) (s : RunnerStands g old l)
    → OnOk res (AcceptsHonestStep g s.world 0 a new.machine new.walks)
    → OnOk res (AcceptedWith (RunnerStands g new) (lone_step g l (goes a)))
goes-turn g l a old new (Err why) s did = tt
goes-turn g l a old new (Ok x) s did =
    accepted-so g l (goes a) new _
    (accepted-turn g s.world did.after l (goes a) (honest_deed g a (Some (Some l.state))) did.answer new
    s.right s.ground s.there s.store refl
    (sym (honest_deed-turn g s.world 0 a (tenant_data_of l) s.there) ∙ did.accepted) did.stands did.walked)

pub halts-turn : {X : Type 0} (g : Ground) (l : LoneTenant) (a : Actor) (old new : Runner)
    (res : Result X Refusal) (s : RunnerStands g old l)
    → IfErr res (RefusesHonestStep g s.world 0 a new.machine new.walks)
    → IfErr res (λ why. why ≢ Refusal.NoMemory
    → IsRefusedTurn why (lone_step g l (goes a)) × RunnerStands g new l)
halts-turn g l a old new (Ok x) s told = tt
halts-turn g l a old new (Err why) s told = λ ne. (
  refused-turn g s.world l (goes a) (honest_deed g a (Some (Some l.state))) why s.there s.store refl
      (sym (honest_deed-turn g s.world 0 a (tenant_data_of l) s.there) ∙ told.refused ne),
  stands-same g l old new s told.stands told.walked,
)

-- what is refused where no reply waits
drain_outcome-idle : (g : Ground) (q : TenantState) (s : Store) (why : Refusal) (replies : List ReplyData)
    → IsRefusedTurn why (lone_ended s (drain_outcome q replies))
    → IsRefusedTurn Refusal.Idle (lone_ended s (drain_outcome q replies))
drain_outcome-idle g q s why [] is = refl
drain_outcome-idle g q s why (oldest ∷ more) never = absurd (cc)

pub drains-idle : (g : Ground) (l : LoneTenant) (why : Refusal) → IsRefusedTurn why (lone_step g l drains)
    → IsRefusedTurn Refusal.Idle (lone_step g l drains)
unfolding lone_step deed_result
drains-idle g l why is = drain_outcome-idle g l.state l.store why l.state.replies is

-- What is shown

pub tenant-of : (g : Ground) (l : LoneTenant) (r : Runner) (code : Tenant) (s : RunnerStands g r l)
    → tenant_at r.machine.tenants 0 ≡ Some code → tenants.StandsForState g code l.state l.store
tenant-of g l r code s is =
    let w = s.world in
    let m = s.machine in
    let at = kept-at g m.refs 0 code (tenant_at r.machine.tenants 0) (open_in 0 w) (m.tenants 0) is in
    let same : at.0 ≡ tenant_data_of l = cc (at.1, s.there) in
    subst (tenants.StandsForState g code l.state) (sym s.store)
    (subst (λ k. tenants.StandsForState g code k.state (store_in w.around 0 k.mine)) same
    (at.2.stands w.around))

pub tenant-there : (g : Ground) (l : LoneTenant) (r : Runner) (s : RunnerStands g r l)
    → tenant_at r.machine.tenants 0 ≡ None → ⊥
tenant-there g l r s gone =
    let none : open_in 0 s.world ≡ None =
    none-at g s.machine.refs 0 (tenant_at r.machine.tenants 0) (open_in 0 s.world)
    (s.machine.tenants 0) gone in
    let never : None ≡ Some (tenant_data_of l) = sym none ∙ s.there in cc

-- as it begins
pub opened-stands : (g : Ground) (made : Runner) → IsRight g → Evaluates g → g.places ≡ PLACES
    → ((a : Actor) → walk_at made.walks a ≡ None)
    → core.AcceptsStep g (opened_world g) (opens 0) made.machine tenant_opened
    → RunnerStands g made (opened_lone g)
opened-stands g made right ground places none did =
    let first : World = record {
      around = (opened_world g).around;
      tenants = entry 0 (Some (opened_tenant g)) ∷ [];
    } in
    let by : worlds.step g (opened_world g) (opens 0) ≡ worlds.accepted first tenant_opened =
    open-tested g (opened_world g) 0 false false refl (ap (λ n. nat_le n 0) places) in
    let same : first ≡ did.after =
    same-world first did.after tenant_opened tenant_opened (sym by ∙ did.accepted) in
    record {
      right = right;
      ground = ground;
      world = did.after;
      machine = did.stands;
      there = sym (ap (open_in 0) same);
      store = ap (λ w. store_in w.around 0 (opened_lone g).store.mine) same;
      walked = fresh-walked made.walks (open_in 0 did.after) none;
    }
