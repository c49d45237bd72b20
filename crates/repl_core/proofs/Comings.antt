-- A machine where a tenant comes or goes.
use Rattle.std.proofs.Common.{◌≡◌, ◌≢◌, ℕ, ◌+◌, ◌-◌, ◌==◌, [], ◌∷◌, Bool, true, false, ◌||◌, nat_le}
use Rattle.std.proofs.Common.{Some, None, option_and_then, refl, sym, ap, ◌∙◌, if◌then◌else◌}
use Rattle.std.proofs.Common.{Result, Ok, Err, IfErr, ◌<◌, ◌≤◌, arith}
use Rattle.std.specs.Result.{IsErrAnd}
use Rattle.std.proofs.lemmas.Bool.{eq-eqb}
use Rattle.std.proofs.lemmas.Bool.Decides.{nat_tests}
use Rattle.value_data.specs.Datum.{OwnerData, tenant}
use Rattle.value_data.specs.Same.{same_owner}
use Rattle.server_rules.specs.Ground.{Ground}
use Rattle.ref_table.specs.Numbered.{entry, part_under}
use Rattle.server_rules.specs.Plan.{tenant_opened, tenant_gone}
use Rattle.ref_table.specs.Store.{Store}
use Rattle.server_rules.specs.Tenant.{opened_state}
use Rattle.server_rules.specs.Machine.World.{World, opens, closes, opened_tenant, with_tenant}
use Rattle.server_rules.specs.Machine.World as worlds
use Rattle.server_rules.specs.Machine.World.{is_used, open_count, open_step, step, accepted, refused}
use Rattle.server_rules.specs.declared.refusal.Refusal.{Refusal}
use Rattle.ref_history.specs.RingHistories.{RingStands}
use Rattle.ref_table.specs.Refs.{TableRefs, without_refs}
use Rattle.ref_table.specs.Standing as refs
use Rattle.tenant_parts.proofs.EntryLaws.{found_first}
use Rattle.tenant_parts.specs.Serving.{RingRefTable}
use Rattle.tenant_parts.specs.Sound.{AreSound, IsSoundRef}
use Rattle.std.specs.List.{AllByRecursion}
use Rattle.tenant_world.specs.Standing as world
use Rattle.tenant_world.specs.declared.tenant.Tenant.{Tenant}
use Rattle.repl_core.specs.TenantAt.{tenant_at}
use Rattle.repl_core.specs.Standing.{open_in, store_in, is_reached, PlaceStands, MachineStands}
use Rattle.repl_core.specs.Steps.{AcceptsStep, RefusesStep, is_accepted_step}
use Rattle.repl_core.specs.declared.machine.Machine.{Machine}
use Rattle.repl_core.specs.declared.tenants.Tenants.{Tenants}
use Rattle.repl_core.proofs.Worlds.{used-none, used-with_part, reached-more, found-open, count-less}
use Rattle.repl_core.proofs.Worlds.{close-none, close-some}
use Rattle.repl_core.proofs.Behind.{machine_with, stands-with}
use Rattle.repl_core.proofs.Places.{place-of, place-none, place-moved, kept-at, none-at, refs-none}
use Rattle.repl_core.proofs.Places.{all-places, open-others, open-mine}

-- Coming

open-by : (g : Ground) (w : World) (t : ℕ) → step g w (opens t) ≡ open_step g w t
unfolding step
open-by g w t = refl

abbrev pub open_tested : Ground → World → ℕ → Bool → Bool → worlds.Stepped
open_tested g w t used held =
    if used then refused Refusal.NumberUsed
    else if held then refused Refusal.Full
    else accepted (record w { tenants = entry t (Some (opened_tenant g)) ∷ w.tenants }) tenant_opened

pub open-tested : (g : Ground) (w : World) (t : ℕ) (used held : Bool) → is_used t w.tenants ≡ used
    → nat_le g.places (open_count w.tenants) ≡ held
    → step g w (opens t) ≡ open_tested g w t used held
open-tested g w t used held is full =
    open-by g w t
    ∙ ap (λ (b : Bool). open_tested g w t b (nat_le g.places (open_count w.tenants))) is
    ∙ ap (open_tested g w t used) full

pub refuses-used : (g : Ground) (w : World) (t : ℕ) (m : Machine) (s : MachineStands g m w)
    → is_reached m.newest t ≡ true → RefusesStep g w (opens t) m Refusal.NumberUsed
refuses-used g w t m s reached = record {
  refused = λ ne. open-tested g w t true (nat_le g.places (open_count w.tenants))
      (s.newest t ∙ reached) refl;
  stands = s;
}

full-so : (g : Ground) (w : World) (m : Machine) (s : MachineStands g m w) (b : Bool)
    → nat_le m.places m.places_taken ≡ b → nat_le g.places (open_count w.tenants) ≡ b
full-so g w m s b is =
    ap (λ k. nat_le k (open_count w.tenants)) s.places ∙ ap (nat_le m.places) s.places_taken ∙ is

pub le-true : (n m : ℕ) → n ≤ m → nat_le n m ≡ true
le-true n m h = grind (arith, nat_tests)

pub lt-false : (n m : ℕ) → m < n → nat_le n m ≡ false
lt-false n m h = grind (arith, nat_tests)

pub refuses-full : (g : Ground) (w : World) (t : ℕ) (m : Machine) (s : MachineStands g m w)
    → is_reached m.newest t ≡ false → nat_le m.places m.places_taken ≡ true
    → RefusesStep g w (opens t) m Refusal.Full
refuses-full g w t m s reached full = record {
  refused = λ ne. open-tested g w t false true (s.newest t ∙ reached)
      (full-so g w m s true full);
  stands = s;
}

-- a number above all that were opened comes where a place is free
pub accepts-open : (g : Ground) (w : World) (t : ℕ) (m : Machine) (s : MachineStands g m w)
    → is_reached m.newest t ≡ false → nat_le m.places m.places_taken ≡ false
    → is_accepted_step (step g w (opens t)) ≡ true
accepts-open g w t m s reached full = ap is_accepted_step
    (open-tested g w t false false (s.newest t ∙ reached) (full-so g w m s false full))

-- the machine with one tenant more
abbrev pub machine_more : Machine → Tenants → ℕ → Machine
machine_more m ts t = record m {
  tenants = ts;
  newest = Some t;
  places_taken = m.places_taken + 1;
}

pub does-open : (g : Ground) (w : World) (t : ℕ) (old : Machine) (ts : Tenants) (code : Tenant)
    (s : MachineStands g old w) → is_reached old.newest t ≡ false
    → nat_le old.places old.places_taken ≡ false
    → ((st : Store) → st.tenant ≡ t → st.mine.points ≡ []
    → world.StandsForState g code (opened_state g) st)
    → tenant_at ts t ≡ Some code
    → ((u : ℕ) → u ≢ t → tenant_at ts u ≡ tenant_at old.tenants u)
    → AcceptsStep g w (opens t) (machine_more old ts t) tenant_opened
does-open g w t old ts code s reached full stands put others =
    let unused : is_used t w.tenants ≡ false = s.newest t ∙ reached in
    let none : open_in t w ≡ None =
    ap (option_and_then (λ part. part)) (used-none t w.tenants unused) in
    let behind : World = record w { tenants = entry t (Some (opened_tenant g)) ∷ w.tenants } in
    let first : (u : ℕ) (b : Bool) → (u == t) ≡ b → open_in u behind
    ≡ option_and_then (λ part. part) (found_first b (Some (opened_tenant g)) (part_under u w.tenants))
    = λ u b is. ap (λ (x : Bool). option_and_then (λ part. part)
    (found_first x (Some (opened_tenant g)) (part_under u w.tenants))) is in
    record {
      after = behind;
      accepted = open-tested g w t false false unused (full-so g w old s false full);
      stands = record {
        names = s.names;
        seed = s.seed;
        steps = s.steps;
        retries = s.retries;
        places = s.places;
        refs = s.refs;
        table = s.table;
        sound = s.sound;
        around = s.around;
        tenants = all-places
            (λ u. PlaceStands g s.refs u (tenant_at ts u) (open_in u behind)) t
            (place-of g s.refs t code (opened_tenant g) (tenant_at ts t) (open_in t behind) put
            (first t true (eq-eqb t t refl)) (record {
              stands = λ around. stands (store_in around t (opened_tenant g).mine) refl refl;
              refs = sym (refs-none g s.refs t _ _ (s.tenants t) none);
            }))
            (λ u apart is. place-moved g s.refs s.refs u (tenant_at old.tenants u)
            (tenant_at ts u) (open_in u w) (open_in u behind) (others u apart)
            (first u false is) refl (s.tenants u));
        newest = λ u. ap (λ (b : Bool). nat_le u t || b) (s.newest u)
            ∙ reached-more old.newest t u reached;
        places_taken = ap (λ n. n + 1) s.places_taken;
      };
    }

-- Going

sound-without : (r : TableRefs) (t : ℕ) → AreSound r → AreSound (without_refs (tenant t) r)
sound-without r t sound = λ owner. by owner (same_owner owner (tenant t))
  where
    by : (owner : OwnerData) (b : Bool)
        → AllByRecursion IsSoundRef (if b then [] else r.owned owner)
    by owner true = tt
    by owner false = sound owner

-- the machine with one tenant less
abbrev pub machine_less : Machine → Tenants → RingRefTable → ℕ → Machine
machine_less m ts table n = record m { tenants = ts; refs = table; places_taken = n }

pub does-close : (g : Ground) (w : World) (t n : ℕ) (old : Machine) (ts : Tenants) (table : RingRefTable)
    (was : Tenant) (s : MachineStands g old w) → tenant_at old.tenants t ≡ Some was
    → tenant_at ts t ≡ None → ((u : ℕ) → u ≢ t → tenant_at ts u ≡ tenant_at old.tenants u)
    → ((r : TableRefs) → refs.TableStands RingStands old.refs r
    → refs.TableStands RingStands table (without_refs (tenant t) r))
    → n ≡ old.places_taken - 1
    → AcceptsStep g w (closes t) (machine_less old ts table n) tenant_gone
does-close g w t n old ts table was s there gone others released less =
    let place = kept-at g s.refs t was (tenant_at old.tenants t) (open_in t w) (s.tenants t) there in
    let kept = place.0 in
    let behind : World = with_tenant t None w.around w in
    let left = without_refs (tenant t) s.refs in
    let owned : (u : ℕ) (b : Bool) → (u == t) ≡ b
    → left.owned (tenant u) ≡ (if b then [] else s.refs.owned (tenant u))
    = λ u b is. ap (λ (x : Bool). if x then [] else s.refs.owned (tenant u)) is in
    record {
      after = behind;
      accepted = close-some g w t kept place.1;
      stands = record {
        names = s.names;
        seed = s.seed;
        steps = s.steps;
        retries = s.retries;
        places = s.places;
        refs = left;
        table = released s.refs s.table;
        sound = sound-without s.refs t s.sound;
        around = s.around;
        tenants = all-places
            (λ u. PlaceStands g left u (tenant_at ts u) (open_in u behind)) t
            (place-none g left t (tenant_at ts t) (open_in t behind) gone
            (open-mine w w.around t None kept place.1) (owned t true (eq-eqb t t refl)))
            (λ u apart is. place-moved g s.refs left u (tenant_at old.tenants u) (tenant_at ts u)
            (open_in u w) (open_in u behind) (others u apart)
            (open-others w w.around t u None kept place.1 apart) (owned u false is)
            (s.tenants u));
        newest = λ u. used-with_part u t None w.tenants ∙ s.newest u;
        places_taken = count-less t kept w.tenants (found-open _ kept place.1)
            ∙ ap (λ k. k - 1) s.places_taken ∙ sym less;
      };
    }

pub refuses-close : (g : Ground) (w : World) (t : ℕ) (old : Machine) (ts : Tenants)
    → MachineStands g old w → tenant_at old.tenants t ≡ None → tenant_at ts t ≡ None
    → ((u : ℕ) → u ≢ t → tenant_at ts u ≡ tenant_at old.tenants u)
    → RefusesStep g w (closes t) (machine_with old ts old.refs) Refusal.NoSuchTenant
refuses-close g w t old ts s none gone others = record {
  refused = λ ne. close-none g w t
      (none-at g s.refs t (tenant_at old.tenants t) (open_in t w) (s.tenants t) none);
  stands = stands-with g old w ts s (all-places
      (λ u. tenant_at ts u ≡ tenant_at old.tenants u) t (gone ∙ sym none)
      (λ u apart is. others u apart));
}

-- Want of memory

pub refuses-memory : {X : Type 0} (g : Ground) (w : World) (t : ℕ) (m : Machine)
    (res : Result X Refusal) → IsErrAnd res (λ e. e ≡ Refusal.NoMemory) → MachineStands g m w
    → IfErr res (RefusesStep g w (opens t) m)
refuses-memory g w t m (Ok x) never s = tt
refuses-memory g w t m (Err e) is s = record {
  refused = λ ne. absurd (ne is);
  stands = s;
}
