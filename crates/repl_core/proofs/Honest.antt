-- A machine behind the turn of an actor.
use Rattle.std.proofs.Common.{◌≡◌, ◌≢◌, ℕ, Bool, true, Some, None, option_map, Result, Ok, Err, IfErr}
use Rattle.std.proofs.Common.{OnOk}
use Rattle.std.proofs.Common.{sym, ap, subst, ◌∙◌}
use Rattle.server_rules.specs.Ground.{Ground}
use Rattle.ref_table.specs.Numbered.{part_under}
use Rattle.server_rules.specs.Honest.{honest_deed}
use Rattle.server_rules.specs.Machine.Turns.{goes, step_of, turn_step, tenant_state_of}
use Rattle.server_rules.specs.Machine.World.{TenantData, World, step, does, ended_as}
use Rattle.server_rules.specs.declared.actor.Actor.{Actor}
use Rattle.server_rules.specs.declared.refusal.Refusal.{Refusal}
use Rattle.tenant_parts.specs.Serving.{RingRefTable}
use Rattle.server_rules.specs.Grounds.{IsRight}
use Rattle.server_rules.specs.LoneTurns.{LoneTenant}
use Rattle.repl_core.specs.Grounds.{Evaluates}
use Rattle.repl_core.specs.Inside.Seen.{is_seen}
use Rattle.repl_core.specs.Inside.Standing as walked
use Rattle.repl_core.specs.Inside.Standing.{parts}
use Rattle.repl_core.specs.declared.walks.Walks.{Walks}
use Rattle.tenant_asks.specs.Acting.{is_accepted}
use Rattle.tenant_world.specs.declared.tenant.Tenant.{Tenant}
use Rattle.repl_core.specs.TenantAt.{tenant_at}
use Rattle.repl_core.specs.Standing.{open_in, store_in, TenantStands, MachineStands}
use Rattle.repl_core.specs.Going.{AreWalkedIn, AcceptsHonestStep, RefusesHonestStep, is_seen_step}
use Rattle.repl_core.specs.Steps.{is_accepted_step}
use Rattle.repl_core.specs.declared.machine.Machine.{Machine}
use Rattle.repl_core.specs.declared.tenants.Tenants.{Tenants}
use Rattle.repl_core.proofs.Worlds.{deed_of, found-open, step-deed, step-none}
use Rattle.repl_core.proofs.Places.{serves-in, kept-at, none-at, open-mine, all-places}
use Rattle.repl_core.proofs.Behind.{machine_with, stands-with, stands-one, stays-one, world_behind}
use Rattle.repl_core.proofs.Behind.{ended-accepted}

-- the turn is the honest deed
pub honest_deed-turn : (g : Ground) (w : World) (t : ℕ) (a : Actor) (kept : TenantData)
    → open_in t w ≡ Some kept
    → turn_step g w (goes t a) ≡ step g w (does t (honest_deed g a (Some (Some kept.state))))
honest_deed-turn g w t a kept there =
    ap (λ o. step g w (does t (honest_deed g a (option_map tenant_state_of o))))
    (found-open (part_under t w.tenants) kept there)

-- the tenant that goes on
abbrev lone_in : World → ℕ → TenantData → LoneTenant
lone_in w t kept = record { state = kept.state; store = store_in w.around t kept.mine }

lone-stands : (g : Ground) (w : World) (t : ℕ) (old : Machine) (was : Tenant) (walks : Walks)
    (kept : TenantData) (s : MachineStands g old w) → IsRight g → Evaluates g
    → tenant_at old.tenants t ≡ Some was → open_in t w ≡ Some kept
    → AreWalkedIn walks (open_in t w)
    → walked.PartsStand g (parts was old.refs walks) (lone_in w t kept) s.refs
lone-stands g w t old was walks kept s right ground there is walked =
    let at = kept-at g s.refs t was (tenant_at old.tenants t) (open_in t w) (s.tenants t) there in
    let same : at.0 ≡ kept = cc in
    let it = subst (λ k. TenantStands g s.refs t was k) same at.2 in
    record {
      right = right;
      ground = ground;
      tenant = it.stands w.around;
      serves = serves-in g old w t was kept s it;
      walked = subst (AreWalkedIn walks) is walked;
    }

pub goes-so : {X : Type 0} (g : Ground) (w : World) (t : ℕ) (a : Actor) (old : Machine)
    (ts : Tenants) (table : RingRefTable) (was code : Tenant) (before walks : Walks)
    (res : Result X Refusal) (s : MachineStands g old w) → IsRight g → Evaluates g
    → tenant_at old.tenants t ≡ Some was → AreWalkedIn before (open_in t w)
    → ((l : LoneTenant) → walked.PartsStand g (parts was old.refs before) l s.refs
    → OnOk res (walked.AcceptsHonestDeed g l s.refs (honest_deed g a (Some (Some l.state))) (parts code table walks)))
    → tenant_at ts t ≡ Some code
    → ((u : ℕ) → u ≢ t → tenant_at ts u ≡ tenant_at old.tenants u)
    → OnOk res (AcceptsHonestStep g w t a (machine_with old ts table) walks)
goes-so g w t a old ts table was code before walks (Err why) s right ground there walked did put
    others = tt
goes-so g w t a old ts table was code before walks (Ok x) s right ground there walked did put
    others =
    let at = kept-at g s.refs t was (tenant_at old.tenants t) (open_in t w) (s.tenants t) there in
    let kept = at.0 in
    let d = honest_deed g a (Some (Some kept.state)) in
    let it = did (lone_in w t kept)
    (lone-stands g w t old was before kept s right ground there at.1 walked) in
    let behind = world_behind g w t kept d it.after in
    record {
      after = behind;
      answer = it.answer;
      accepted = honest_deed-turn g w t a kept at.1 ∙ step-deed g w t d kept at.1
          ∙ ap (ended_as w t (deed_of g w t kept d).store) it.accepted;
      stands = stands-one g w t d old ts table code kept it.after s at.1 it.stands.tenant
          it.stands.serves put others;
      walked = subst (AreWalkedIn walks)
          (sym (open-mine w (deed_of g w t kept d).store.around t
          (Some (record { state = it.after; mine = (deed_of g w t kept d).store.mine })) kept at.1))
          it.stands.walked;
    }

pub halts-so : {X : Type 0} (g : Ground) (w : World) (t : ℕ) (a : Actor) (old : Machine)
    (ts : Tenants) (table : RingRefTable) (was code : Tenant) (before walks : Walks)
    (res : Result X Refusal) (s : MachineStands g old w) → IsRight g → Evaluates g
    → tenant_at old.tenants t ≡ Some was → AreWalkedIn before (open_in t w)
    → ((l : LoneTenant) → walked.PartsStand g (parts was old.refs before) l s.refs
    → IfErr res (walked.RefusesHonestDeed g l s.refs (honest_deed g a (Some (Some l.state)))
    (parts code table walks)))
    → tenant_at ts t ≡ Some code
    → ((u : ℕ) → u ≢ t → tenant_at ts u ≡ tenant_at old.tenants u)
    → IfErr res (RefusesHonestStep g w t a (machine_with old ts table) walks)
halts-so g w t a old ts table was code before walks (Ok x) s right ground there walked told put
    others = tt
halts-so g w t a old ts table was code before walks (Err why) s right ground there walked told put
    others =
    let at = kept-at g s.refs t was (tenant_at old.tenants t) (open_in t w) (s.tenants t) there in
    let kept = at.0 in
    let d = honest_deed g a (Some (Some kept.state)) in
    let it = told (lone_in w t kept)
    (lone-stands g w t old was before kept s right ground there at.1 walked) in
    record {
      refused = λ ne. honest_deed-turn g w t a kept at.1 ∙ step-deed g w t d kept at.1
          ∙ ap (ended_as w t (deed_of g w t kept d).store) (it.refused ne);
      stands = stays-one g w t old ts table code kept s at.1 at.2.refs it.stands.tenant
          it.stands.serves put others;
      walked = subst (AreWalkedIn walks) (sym at.1) it.stands.walked;
    }

-- where the rules accept the honest deed, they accept the turn
pub accepts-goes : (g : Ground) (w : World) (t : ℕ) (a : Actor) (old : Machine) (was : Tenant)
    (walks : Walks) (kept : Bool) (s : MachineStands g old w) → IsRight g → Evaluates g
    → tenant_at old.tenants t ≡ Some was → AreWalkedIn walks (open_in t w)
    → ((l : LoneTenant) → walked.PartsStand g (parts was old.refs walks) l s.refs
    → is_seen kept (honest_deed g a (Some (Some l.state))) ≡ true
    → is_accepted (walked.comes_to g l (honest_deed g a (Some (Some l.state)))).outcome ≡ true)
    → is_seen_step kept (step_of g w (goes t a)) ≡ true
    → is_accepted_step (turn_step g w (goes t a)) ≡ true
accepts-goes g w t a old was walks kept s right ground there walked told seen =
    let at = kept-at g s.refs t was (tenant_at old.tenants t) (open_in t w) (s.tenants t) there in
    let mine = at.0 in
    let d = honest_deed g a (Some (Some mine.state)) in
    let e = deed_of g w t mine d in
    let found = found-open (part_under t w.tenants) mine at.1 in
    ap is_accepted_step (honest_deed-turn g w t a mine at.1 ∙ step-deed g w t d mine at.1)
    ∙ ended-accepted w t e.store e.outcome (told (lone_in w t mine)
    (lone-stands g w t old was walks mine s right ground there at.1 walked)
    (sym (ap (λ o. is_seen kept (honest_deed g a (option_map tenant_state_of o))) found)
    ∙ seen))

-- of a tenant that is not there
pub halts-none : (g : Ground) (w : World) (t : ℕ) (a : Actor) (old : Machine) (ts : Tenants)
    (walks : Walks) → MachineStands g old w → AreWalkedIn walks (open_in t w)
    → tenant_at old.tenants t ≡ None → tenant_at ts t ≡ None
    → ((u : ℕ) → u ≢ t → tenant_at ts u ≡ tenant_at old.tenants u)
    → RefusesHonestStep g w t a (machine_with old ts old.refs) walks Refusal.NoSuchTenant
halts-none g w t a old ts walks s walked none gone others = record {
  refused = λ ne. step-none g w t (honest_deed g a (option_map tenant_state_of (part_under t w.tenants)))
      (none-at g s.refs t (tenant_at old.tenants t) (open_in t w) (s.tenants t) none);
  stands = stands-with g old w ts s (all-places
      (λ u. tenant_at ts u ≡ tenant_at old.tenants u) t (gone ∙ sym none)
      (λ u apart is. others u apart));
  walked = walked;
}
