-- The parts of the code behind the steps of a tenant.
use Rattle.std.proofs.Common.{◌≡◌, ◌≢◌, ℕ, List, [], ◌∷◌, Some, None, Result, Ok, Err, refl}
use Rattle.std.proofs.Common.{sym, ap, subst, ◌∙◌, IfErr, OnOk, OnErr}
use Rattle.std.specs.Result.{IsErrAnd}
use Rattle.repl_replies.specs.Replies.{ReplyData}
use Rattle.repl_walker.specs.declared.steps.Reached as steps
use Rattle.server_rules.specs.Ground.{Ground}
use Rattle.server_rules.specs.Request.{Run}
use Rattle.server_rules.specs.Tenant.{TenantState, seat_of}
use Rattle.server_rules.specs.Plan as deeds
use Rattle.server_rules.specs.Plan.{Deed, Outcome, StepAnswer, refuses, leaves, messages_heard}
use Rattle.server_rules.specs.Plan.{ask_answered}
use Rattle.repl_asks.specs.Exchange.{AskData, AnswerData}
use Rattle.server_rules.specs.Deeds.{drain_outcome}
use Rattle.server_rules.specs.declared.actor.Actor.{Actor}
use Rattle.server_rules.specs.declared.refusal.Refusal.{Refusal}
use Rattle.ref_table.specs.Refs.{TableRefs, refs_after}
use Rattle.tenant_parts.specs.Serving.{RingRefTable, TableServes}
use Rattle.server_rules.specs.DeedResult.{deed_result}
use Rattle.server_rules.specs.LoneTurns.{LoneTenant}
use Rattle.tenant_world.specs.declared.tenant.Tenant.{Tenant}
use Rattle.tenant_world.specs.Running.{running_of, running_in}
use Rattle.tenant_world.specs.Standing as world
use Rattle.repl_core.specs.Inside.WalkAt.{walk_at}
use Rattle.repl_core.specs.Inside.Walked.{IsWalkOf, AreWalked}
use Rattle.repl_core.specs.Inside.Standing.{Parts, parts, PartsStand, AcceptsHonestDeed, RefusesHonestDeed, comes_to}
use Rattle.repl_core.specs.declared.walks.Walks.{Walks}
use Rattle.repl_core.proofs.Runs.{heard-runs}
use Rattle.tenant_asks.specs.Asking.{exchange_from, run_with}
use Rattle.repl_core.proofs.Outcomes.{heard-after, answered-after}
use Rattle.repl_core.proofs.WalkSteps.{walked-all, some-same}
use Rattle.repl_core.proofs.Stores.{Reached, serves-all-still, hears-reached, drains-reached}

-- an actor's step, behind which no evaluation of it is kept
pub does-removed : (g : Ground) (l : LoneTenant) (r : TableRefs) (deed : Deed) (a : Actor) (old new : Parts)
    (answer : StepAnswer) → PartsStand g old l r
    → world.AcceptsDeedBy g a l.state (comes_to g l deed) new.tenant answer
    → TableServes new.table (comes_to g l deed).store (refs_after (comes_to g l deed).store r)
    → walk_at new.walks a ≡ None
    → ((b : Actor) → seat_of b ≢ seat_of a → walk_at new.walks b ≡ walk_at old.walks b)
    → AcceptsHonestDeed g l r deed new
does-removed g l r deed a old new answer s does serves gone others = record {
  after = does.after;
  answer = answer;
  accepted = does.accepted;
  stands = record {
    right = s.right;
    ground = s.ground;
    tenant = does.stands;
    serves = serves;
    walked = walked-all a (walk_at new.walks) does.after
        (λ b run p apart runs at. s.walked b run p
        (sym (ap running_of (does.others b apart)) ∙ runs) (sym (others b apart) ∙ at))
        (λ run p runs at. let never : None ≡ Some p = sym gone ∙ at in absurd (cc));
  };
}

-- the evaluations are others, and walked as well
pub stands-found : (g : Ground) (l : LoneTenant) (r : TableRefs) (tenant : Tenant) (table : RingRefTable)
    (old new : Walks) → PartsStand g (parts tenant table old) l r
    → (AreWalked (walk_at old) l.state → AreWalked (walk_at new) l.state)
    → PartsStand g (parts tenant table new) l r
stands-found g l r tenant table old new s found = record {
  right = s.right;
  ground = s.ground;
  tenant = s.tenant;
  serves = s.serves;
  walked = found s.walked;
}

-- refused for want of memory
pub refused-memory : {X : Type 0} (g : Ground) (l : LoneTenant) (r : TableRefs) (deed : Deed) (p : Parts)
    (res : Result X Refusal) → IsErrAnd res (λ e. e ≡ Refusal.NoMemory) → PartsStand g p l r
    → IfErr res (RefusesHonestDeed g l r deed p)
refused-memory g l r deed p (Ok x) is s = tt
refused-memory g l r deed p (Err e) is s = record {
  refused = λ other. absurd (other is);
  stands = s;
}

-- the table, where the deed leaves the refs
pub serves-same : (g : Ground) (l : LoneTenant) (r : TableRefs) (deed : Deed) (old : Parts) (s : PartsStand g old l r)
    → Reached l.store (comes_to g l deed).store
    → TableServes old.table (comes_to g l deed).store (refs_after (comes_to g l deed).store r)
serves-same g l r deed old s reached =
    serves-all-still old.table l.store (comes_to g l deed).store r s.serves reached

-- a refused step
pub refused-parts : {X : Type 0} (g : Ground) (l : LoneTenant) (r : TableRefs) (deed : Deed) (old : Parts)
    (tenant : Tenant) (table : RingRefTable) (why : Refusal) (res : Result X Refusal) (s : PartsStand g old l r)
    → IsErrAnd res (λ e. e ≡ why)
    → world.RefusesDeed g l.state l.store (comes_to g l deed) tenant why
    → TableServes table l.store r
    → IfErr res (RefusesHonestDeed g l r deed (parts tenant table old.walks))
refused-parts g l r deed old tenant table why (Ok x) s never told serves = tt
refused-parts g l r deed old tenant table why (Err e) s is told serves =
    subst (RefusesHonestDeed g l r deed (parts tenant table old.walks)) (sym is) (record {
      refused = told.refused;
      stands = record {
        right = s.right;
        ground = s.ground;
        tenant = told.stands;
        serves = serves;
        walked = s.walked;
      };
    })

-- a piece that was heard
pub does-heard : (g : Ground) (l : LoneTenant) (r : TableRefs) (piece : List ℕ) (old : Parts) (tenant : Tenant)
    (count : ℕ) → PartsStand g old l r
    → world.AcceptsDeed g (comes_to g l (deeds.hears piece)) tenant (messages_heard count)
    → AcceptsHonestDeed g l r (deeds.hears piece) (parts tenant old.table old.walks)
does-heard g l r piece old tenant count s does =
    let behind = heard-after g l.state l.store piece does.after _ does.accepted in
    record {
      after = does.after;
      answer = messages_heard count;
      accepted = does.accepted;
      stands = record {
        right = s.right;
        ground = s.ground;
        tenant = does.stands;
        serves = serves-same g l r (deeds.hears piece) old s
            (hears-reached g l.state l.store piece);
        walked = λ a run p runs at.
            s.walked a run p (sym (heard-runs g l.store.tenant piece l.state a)
            ∙ sym (ap (running_in a) behind) ∙ runs) at;
      };
    }

-- a reply that was taken out
pub drain_outcome-runs : (q after : TenantState) (answer : StepAnswer) (a : Actor) (replies : List ReplyData)
    → drain_outcome q replies ≡ leaves after answer → running_in a after ≡ running_in a q
drain_outcome-runs q after answer a [] never = absurd (cc)
drain_outcome-runs q after answer a (oldest ∷ more) is = ap (running_in a) (sym (ap left_of is))
  where
    left_of : Outcome → TenantState
    left_of (refuses why) = q
    left_of (leaves x y) = x

pub drains-by : (g : Ground) (l : LoneTenant)
    → (comes_to g l deeds.drains).outcome ≡ drain_outcome l.state l.state.replies
unfolding deed_result
drains-by g l = refl

-- a reply was taken out
pub does-drained : (g : Ground) (l : LoneTenant) (r : TableRefs) (old : Parts) (tenant : Tenant)
    (answer : StepAnswer) → PartsStand g old l r
    → world.AcceptsDeed g (comes_to g l deeds.drains) tenant answer
    → AcceptsHonestDeed g l r deeds.drains (parts tenant old.table old.walks)
does-drained g l r old tenant answer s does = record {
  after = does.after;
  answer = answer;
  accepted = does.accepted;
  stands = record {
    right = s.right;
    ground = s.ground;
    tenant = does.stands;
    serves = serves-same g l r deeds.drains old s (drains-reached g l.state l.store);
    walked = λ a run p runs at.
        s.walked a run p (sym (drain_outcome-runs l.state does.after _ a l.state.replies
        (sym (drains-by g l) ∙ does.accepted)) ∙ runs) at;
  };
}

-- What was put in

pub put-so : {X E : Type 0} (a : Actor) (mid new : Walks) (progress p : steps.Reached) (r : Result X E)
    → OnOk r (walk_at new a ≡ Some progress)
    → OnErr r ((b : Actor) → walk_at new b ≡ walk_at mid b)
    → walk_at mid a ≡ None → walk_at new a ≡ Some p → progress ≡ p
put-so a mid new progress p (Ok x) put stays none at = some-same progress p (sym put ∙ at)
put-so a mid new progress p (Err e) put stays none at =
    let never : None ≡ Some p = sym none ∙ sym (stays a) ∙ at in absurd (cc)

pub put-others : {X E : Type 0} (a b : Actor) (mid new : Walks) (r : Result X E)
    → OnOk r ((b : Actor) → seat_of b ≢ seat_of a → walk_at new b ≡ walk_at mid b)
    → OnErr r ((b : Actor) → walk_at new b ≡ walk_at mid b) → seat_of b ≢ seat_of a
    → walk_at new b ≡ walk_at mid b
put-others a b mid new (Ok x) others stays apart = others b apart
put-others a b mid new (Err e) others stays apart = stays b

-- an ask that was answered
pub does-resumed : (g : Ground) (l : LoneTenant) (r : TableRefs) (a : Actor) (old new : Parts) (ask : AskData)
    (answer : AnswerData) (run : Run) → PartsStand g old l r → running_in a l.state ≡ Some run
    → world.AcceptsDeedBy g a l.state (comes_to g l (deeds.asks_for a ask)) new.tenant (ask_answered answer)
    → let d = comes_to g l (deeds.asks_for a ask) in
    TableServes new.table d.store (refs_after d.store r)
    → ((p : steps.Reached) → walk_at new.walks a ≡ Some p
    → IsWalkOf (run_with (exchange_from ask answer) run) p)
    → ((b : Actor) → seat_of b ≢ seat_of a → walk_at new.walks b ≡ walk_at old.walks b)
    → AcceptsHonestDeed g l r (deeds.asks_for a ask) new
does-resumed g l r a old new ask answer run s runs does serves mine others =
    let behind = answered-after g l.state l.store a ask does.after answer run does.accepted runs in
    record {
      after = does.after;
      answer = ask_answered answer;
      accepted = does.accepted;
      stands = record {
        right = s.right;
        ground = s.ground;
        tenant = does.stands;
        serves = serves;
        walked = walked-all a (walk_at new.walks) does.after
            (λ b other p apart runs_b at. s.walked b other p
            (sym (ap running_of (does.others b apart)) ∙ runs_b) (sym (others b apart) ∙ at))
            (λ other p runs_a at. subst (λ x. IsWalkOf x p)
            (some-same _ other (sym behind ∙ runs_a)) (mine p at));
      };
    }

-- a deed that is the same
pub does-as : {X : Type 0} (g : Ground) (l : LoneTenant) (r : TableRefs) (deed honest : Deed) (p : Parts)
    (res : Result X Refusal) → deed ≡ honest → OnOk res (AcceptsHonestDeed g l r deed p)
    → OnOk res (AcceptsHonestDeed g l r honest p)
does-as g l r deed honest p res is does = subst (λ d. OnOk res (AcceptsHonestDeed g l r d p)) is does

pub refuses-as : {X : Type 0} (g : Ground) (l : LoneTenant) (r : TableRefs) (deed honest : Deed) (p : Parts)
    (res : Result X Refusal) → deed ≡ honest → IfErr res (RefusesHonestDeed g l r deed p)
    → IfErr res (RefusesHonestDeed g l r honest p)
refuses-as g l r deed honest p res is told = subst (λ d. IfErr res (RefusesHonestDeed g l r d p)) is told
