-- A machine behind the deeds of a tenant.
use Rattle.std.proofs.Common.{◌≡◌, ◌≢◌, ℕ, Some, None, Result, Ok, Err, IfOk, IfErr, refl, sym, ap}
use Rattle.std.proofs.Common.{subst, ◌∙◌, true, true≢false}
use Rattle.std.specs.Result.{IsErrAnd}
use Rattle.value_data.specs.Datum.{tenant}
use Rattle.server_rules.specs.Deeds.{plan}
use Rattle.server_rules.specs.Ground.{Ground}
use Rattle.server_rules.specs.Plan.{Deed, StepAnswer, Outcome, refuses, leaves}
use Rattle.ref_table.specs.Store.{Store}
use Rattle.server_rules.specs.Tenant.{TenantState}
use Rattle.server_rules.specs.Machine.World.{TenantData, World, Step, does, ended_as, with_tenant}
use Rattle.server_rules.specs.Machine.World.{step}
use Rattle.server_rules.specs.declared.actor.Actor.{Actor}
use Rattle.server_rules.specs.declared.refusal.Refusal.{Refusal}
use Rattle.ref_table.specs.Refs.{refs_after}
use Rattle.tenant_parts.specs.Serving.{RingRefTable, TableServes}
use Rattle.tenant_parts.proofs.Calls.{performed-tenant}
use Rattle.server_rules.specs.DeedResult.{DeedResult, deed_result}
use Rattle.tenant_asks.specs.Acting.{is_accepted}
use Rattle.tenant_world.specs.Standing as world
use Rattle.tenant_world.specs.declared.tenant.Tenant.{Tenant}
use Rattle.repl_core.specs.TenantAt.{tenant_at}
use Rattle.repl_core.specs.Standing.{open_in, store_in, PlaceStands, MachineStands}
use Rattle.repl_core.specs.Steps.{AcceptsStep, RefusesStep, is_accepted_step}
use Rattle.repl_core.specs.declared.machine.Machine.{Machine}
use Rattle.repl_core.specs.declared.tenants.Tenants.{Tenants}
use Rattle.repl_core.proofs.Worlds.{deed_of, found-open, used-with_part, count-with_part, step-deed}
use Rattle.repl_core.proofs.Worlds.{step-none}
use Rattle.repl_core.proofs.Places.{tenant-stands, serves-in, place-of, place-moved, kept-at}
use Rattle.repl_core.proofs.Places.{none-at, all-places, open-others, open-mine, owned-others}
use Rattle.repl_core.proofs.Places.{owned-mine}

-- Results

pub ok-map : {X E : Type 0} (P Q : X → Type 0) (res : Result X E) → ((x : X) → P x → Q x)
    → IfOk res P → IfOk res Q
ok-map P Q (Ok x) f p = f x p
ok-map P Q (Err e) f p = tt

pub err-map : {X E : Type 0} (P Q : E → Type 0) (res : Result X E) → ((e : E) → P e → Q e)
    → IfErr res P → IfErr res Q
err-map P Q (Ok x) f p = tt
err-map P Q (Err e) f p = f e p

-- The same tenants

-- the machine with these tenants and this table
abbrev pub machine_with : Machine → Tenants → RingRefTable → Machine
machine_with m ts table = record m { tenants = ts; refs = table }

pub stands-with : (g : Ground) (old : Machine) (w : World) (ts : Tenants) → MachineStands g old w
    → ((u : ℕ) → tenant_at ts u ≡ tenant_at old.tenants u)
    → MachineStands g (machine_with old ts old.refs) w
stands-with g old w ts s same = record {
  names = s.names;
  seed = s.seed;
  steps = s.steps;
  retries = s.retries;
  places = s.places;
  refs = s.refs;
  table = s.table;
  sound = s.sound;
  around = s.around;
  tenants = λ u. subst (λ o. PlaceStands g s.refs u o (open_in u w)) (sym (same u)) (s.tenants u);
  newest = s.newest;
  places_taken = s.places_taken;
}

-- of a tenant that is not there
pub refuses-none : (g : Ground) (w : World) (t : ℕ) (d : Deed) (old : Machine) (ts : Tenants)
    → MachineStands g old w → tenant_at old.tenants t ≡ None → tenant_at ts t ≡ None
    → ((u : ℕ) → u ≢ t → tenant_at ts u ≡ tenant_at old.tenants u)
    → RefusesStep g w (does t d) (machine_with old ts old.refs) Refusal.NoSuchTenant
refuses-none g w t d old ts s none gone others = record {
  refused = λ ne. step-none g w t d
      (none-at g s.refs t (tenant_at old.tenants t) (open_in t w) (s.tenants t) none);
  stands = stands-with g old w ts s (all-places
      (λ u. tenant_at ts u ≡ tenant_at old.tenants u) t (gone ∙ sym none)
      (λ u apart is. others u apart));
}

-- memory was refused, and the machine stands for the server as it was
pub refuses-unmade : {X : Type 0} (g : Ground) (w : World) (x : Step) (m : Machine)
    (res : Result X Refusal) → IsErrAnd res (λ e. e ≡ Refusal.NoMemory) → MachineStands g m w
    → IfErr res (RefusesStep g w x m)
refuses-unmade g w x m (Ok y) never s = tt
refuses-unmade g w x m (Err e) is s = record {
  refused = λ ne. absurd (ne is);
  stands = s;
}

-- A deed that is accepted

pub deed_result-tenant : (g : Ground) (s : Store) (q : TenantState) (d : Deed)
    → (deed_result g s q d).store.tenant ≡ s.tenant
unfolding deed_result
deed_result-tenant g s q d = performed-tenant s (plan g s.tenant q d).call

-- the server behind a deed
abbrev pub world_behind : Ground → World → ℕ → TenantData → Deed → TenantState → World
world_behind g w t kept d q =
    let e = deed_of g w t kept d in
    with_tenant t (Some (record { state = q; mine = e.store.mine })) e.store.around w

pub stands-one : (g : Ground) (w : World) (t : ℕ) (d : Deed) (old : Machine) (ts : Tenants)
    (table : RingRefTable) (code : Tenant) (kept : TenantData) (q : TenantState) (s : MachineStands g old w)
    → open_in t w ≡ Some kept
    → world.StandsForState g code q (deed_of g w t kept d).store
    → TableServes table (deed_of g w t kept d).store (refs_after (deed_of g w t kept d).store s.refs)
    → tenant_at ts t ≡ Some code
    → ((u : ℕ) → u ≢ t → tenant_at ts u ≡ tenant_at old.tenants u)
    → MachineStands g (machine_with old ts table) (world_behind g w t kept d q)
stands-one g w t d old ts table code kept q s there stands serves put others =
    let e = deed_of g w t kept d in
    let same : e.store.tenant ≡ t =
    deed_result-tenant g (store_in w.around t kept.mine) kept.state d in
    let part : TenantData = record { state = q; mine = e.store.mine } in
    let behind : World = world_behind g w t kept d q in
    let refs = refs_after e.store s.refs in
    record {
      names = s.names;
      seed = s.seed;
      steps = s.steps;
      retries = s.retries;
      places = s.places;
      refs = refs;
      table = serves.stands;
      sound = serves.sound;
      around = refl;
      tenants = all-places
          (λ u. PlaceStands g refs u (tenant_at ts u) (open_in u behind)) t
          (place-of g refs t code part (tenant_at ts t) (open_in t behind) put
          (open-mine w e.store.around t (Some part) kept there)
          (tenant-stands g refs t code q e.store same (owned-mine e.store s.refs t same) stands))
          (λ u apart is. place-moved g s.refs refs u (tenant_at old.tenants u) (tenant_at ts u)
          (open_in u w) (open_in u behind) (others u apart)
          (open-others w e.store.around t u (Some part) kept there apart)
          (owned-others e.store s.refs t u same is) (s.tenants u));
      newest = λ u. used-with_part u t (Some part) w.tenants ∙ s.newest u;
      places_taken = count-with_part t part kept w.tenants (found-open _ kept there)
          ∙ s.places_taken;
    }

does-one : (g : Ground) (w : World) (t : ℕ) (d : Deed) (old : Machine) (ts : Tenants)
    (table : RingRefTable) (code : Tenant) (answer : StepAnswer) (kept : TenantData) (s : MachineStands g old w)
    → open_in t w ≡ Some kept
    → world.AcceptsDeed g (deed_of g w t kept d) code answer
    → TableServes table (deed_of g w t kept d).store (refs_after (deed_of g w t kept d).store s.refs)
    → tenant_at ts t ≡ Some code
    → ((u : ℕ) → u ≢ t → tenant_at ts u ≡ tenant_at old.tenants u)
    → AcceptsStep g w (does t d) (machine_with old ts table) answer
does-one g w t d old ts table code answer kept s there did serves put others = record {
  after = world_behind g w t kept d did.after;
  accepted = step-deed g w t d kept there
      ∙ ap (ended_as w t (deed_of g w t kept d).store) did.accepted;
  stands = stands-one g w t d old ts table code kept did.after s there did.stands serves put
      others;
}

pub does-so : {X : Type 0} (g : Ground) (w : World) (t : ℕ) (d : Deed) (old : Machine)
    (ts : Tenants) (table : RingRefTable) (was code : Tenant) (answer : X → StepAnswer)
    (res : Result X Refusal) (s : MachineStands g old w) → tenant_at old.tenants t ≡ Some was
    → ((kept : TenantData) → world.StandsForState g was kept.state (store_in w.around t kept.mine)
    → TableServes old.refs (store_in w.around t kept.mine) s.refs
    → let e = deed_of g w t kept d in IfOk res (λ x. world.AcceptsDeed g e code (answer x)
    × TableServes table e.store (refs_after e.store s.refs)))
    → tenant_at ts t ≡ Some code
    → ((u : ℕ) → u ≢ t → tenant_at ts u ≡ tenant_at old.tenants u)
    → IfOk res (λ x. AcceptsStep g w (does t d) (machine_with old ts table) (answer x))
does-so g w t d old ts table was code answer res s there did put others =
    let found = kept-at g s.refs t was (tenant_at old.tenants t) (open_in t w) (s.tenants t) there in
    let kept = found.0 in
    let it = found.2 in
    ok-map _ _ res (λ x both. does-one g w t d old ts table code (answer x) kept s found.1
    both.0 both.1 put others)
    (did kept (it.stands w.around) (serves-in g old w t was kept s it))

-- A deed that is refused

pub stays-one : (g : Ground) (w : World) (t : ℕ) (old : Machine) (ts : Tenants) (table : RingRefTable)
    (code : Tenant) (kept : TenantData) (s : MachineStands g old w)
    → open_in t w ≡ Some kept → kept.mine.refs ≡ s.refs.owned (tenant t)
    → world.StandsForState g code kept.state (store_in w.around t kept.mine)
    → TableServes table (store_in w.around t kept.mine) s.refs
    → tenant_at ts t ≡ Some code
    → ((u : ℕ) → u ≢ t → tenant_at ts u ≡ tenant_at old.tenants u)
    → MachineStands g (machine_with old ts table) w
stays-one g w t old ts table code kept s there refs stands serves put others = record {
  names = s.names;
  seed = s.seed;
  steps = s.steps;
  retries = s.retries;
  places = s.places;
  refs = s.refs;
  table = serves.stands;
  sound = s.sound;
  around = s.around;
  tenants = all-places
      (λ u. PlaceStands g s.refs u (tenant_at ts u) (open_in u w)) t
      (place-of g s.refs t code kept (tenant_at ts t) (open_in t w) put there
      (tenant-stands g s.refs t code kept.state (store_in w.around t kept.mine) refl refs stands))
      (λ u apart is. subst (λ o. PlaceStands g s.refs u o (open_in u w))
      (sym (others u apart)) (s.tenants u));
  newest = s.newest;
  places_taken = s.places_taken;
}

refuses-one : (g : Ground) (w : World) (t : ℕ) (d : Deed) (old : Machine) (ts : Tenants)
    (table : RingRefTable) (code : Tenant) (why : Refusal) (kept : TenantData) (s : MachineStands g old w)
    → open_in t w ≡ Some kept → kept.mine.refs ≡ s.refs.owned (tenant t)
    → world.RefusesDeed g kept.state (store_in w.around t kept.mine) (deed_of g w t kept d) code why
    → TableServes table (store_in w.around t kept.mine) s.refs
    → tenant_at ts t ≡ Some code
    → ((u : ℕ) → u ≢ t → tenant_at ts u ≡ tenant_at old.tenants u)
    → RefusesStep g w (does t d) (machine_with old ts table) why
refuses-one g w t d old ts table code why kept s there refs told serves put others = record {
  refused = λ ne. step-deed g w t d kept there
      ∙ ap (ended_as w t (deed_of g w t kept d).store) (told.refused ne);
  stands = stays-one g w t old ts table code kept s there refs told.stands serves put others;
}

pub refuses-so : {X : Type 0} (g : Ground) (w : World) (t : ℕ) (d : Deed) (old : Machine)
    (ts : Tenants) (table : RingRefTable) (was code : Tenant) (res : Result X Refusal)
    (s : MachineStands g old w) → tenant_at old.tenants t ≡ Some was
    → ((kept : TenantData) → world.StandsForState g was kept.state (store_in w.around t kept.mine)
    → TableServes old.refs (store_in w.around t kept.mine) s.refs
    → IfErr res (λ why. world.RefusesDeed g kept.state (store_in w.around t kept.mine)
    (deed_of g w t kept d) code why × TableServes table (store_in w.around t kept.mine) s.refs))
    → tenant_at ts t ≡ Some code
    → ((u : ℕ) → u ≢ t → tenant_at ts u ≡ tenant_at old.tenants u)
    → IfErr res (RefusesStep g w (does t d) (machine_with old ts table))
refuses-so g w t d old ts table was code res s there told put others =
    let found = kept-at g s.refs t was (tenant_at old.tenants t) (open_in t w) (s.tenants t) there in
    let kept = found.0 in
    let it = found.2 in
    err-map _ _ res (λ why both. refuses-one g w t d old ts table code why kept s found.1 it.refs
    both.0 both.1 put others)
    (told kept (it.stands w.around) (serves-in g old w t was kept s it))

-- Where the rules accept a tenant's deed, they accept the step

pub ended-accepted : (w : World) (t : ℕ) (s : Store) (o : Outcome) → is_accepted o ≡ true
    → is_accepted_step (ended_as w t s o) ≡ true
ended-accepted w t s (refuses why) never = absurd (true≢false (sym never))
ended-accepted w t s (leaves q answer) is = refl

pub accepts-so : (g : Ground) (w : World) (t : ℕ) (d : Deed) (old : Machine) (was : Tenant)
    (s : MachineStands g old w) → tenant_at old.tenants t ≡ Some was
    → ((kept : TenantData) → world.StandsForState g was kept.state (store_in w.around t kept.mine)
    → TableServes old.refs (store_in w.around t kept.mine) s.refs
    → is_accepted (deed_of g w t kept d).outcome ≡ true)
    → is_accepted_step (step g w (does t d)) ≡ true
accepts-so g w t d old was s there told =
    let found = kept-at g s.refs t was (tenant_at old.tenants t) (open_in t w) (s.tenants t) there in
    let kept = found.0 in
    let it = found.2 in
    let e = deed_of g w t kept d in
    ap is_accepted_step (step-deed g w t d kept found.1) ∙ ended-accepted w t e.store e.outcome
    (told kept (it.stands w.around) (serves-in g old w t was kept s it))

-- the deed of an actor
pub of-actor : {X : Type 0} (g : Ground) (a : Actor) (q : TenantState) (e : DeedResult) (code : Tenant)
    (answer : X → StepAnswer) (S : Type 0) (res : Result X Refusal)
    → IfOk res (λ x. world.AcceptsDeedBy g a q e code (answer x)) → S
    → IfOk res (λ x. world.AcceptsDeed g e code (answer x) × S)
of-actor g a q e code answer S res did s = ok-map _ _ res (λ x it. (
  record {
    after = it.after;
    accepted = it.accepted;
    stands = it.stands;
  },
  s,
)) did

pub ok-with : {X E : Type 0} (P : X → Type 0) (S : Type 0) (res : Result X E) → IfOk res P → S
    → IfOk res (λ x. P x × S)
ok-with P S res p s = ok-map P (λ x. P x × S) res (λ x it. (it, s)) p

pub err-with : {X E : Type 0} (P : E → Type 0) (S : Type 0) (res : Result X E) → IfErr res P → S
    → IfErr res (λ e. P e × S)
err-with P S res p s = err-map P (λ e. P e × S) res (λ e it. (it, s)) p
