-- The places of tenants, through the steps of one.
use Rattle.std.proofs.Common.{◌≡◌, ◌≢◌, ℕ, ◌==◌, [], Bool, true, false, Option, Some, None}
use Rattle.std.proofs.Common.{is_some, true≢false, option_and_then, refl, sym, ap, subst, ◌∙◌, if◌then◌else◌}
use Rattle.std.specs.Prelude.{OnSome}
use Rattle.std.specs.Borrow.{MutBor}
use Rattle.std.proofs.lemmas.Bool.{eqb-true, eqb-false, eq-eqb}
use Rattle.value_data.specs.Datum.{tenant}
use Rattle.server_rules.specs.Ground.{Ground}
use Rattle.ref_table.specs.Numbered.{part_under, with_part}
use Rattle.ref_table.specs.Store.{Around, Store}
use Rattle.server_rules.specs.Tenant.{TenantState}
use Rattle.server_rules.specs.Machine.World.{TenantData, World}
use Rattle.ref_table.specs.Refs.{TableRefs, refs_after}
use Rattle.tenant_parts.specs.Attempts.{ArePoints}
use Rattle.tenant_parts.specs.Serving.{TableServes}
use Rattle.repl_core.proofs.Runs.{part_under-put}
use Rattle.tenant_asks.specs.Memories.{Remembers}
use Rattle.tenant_world.specs.Standing as world
use Rattle.tenant_world.specs.declared.tenant.Tenant.{Tenant}
use Rattle.repl_core.specs.TenantAt.{tenant_at}
use Rattle.repl_core.specs.Lending.{LeavesTenant}
use Rattle.repl_core.specs.Standing.{open_in, store_in, around_in, TenantStands, PlaceStands}
use Rattle.repl_core.specs.Standing.{MachineStands}
use Rattle.repl_core.specs.declared.machine.Machine.{Machine}
use Rattle.repl_core.specs.declared.tenants.Tenants.{Tenants}
use Rattle.repl_core.proofs.Worlds.{found-open}

-- the code stands for a tenant, whatever all have in common
pub world-stands : (g : Ground) (code : Tenant) (q : TenantState) (s new : Store)
    → new.tenant ≡ s.tenant → new.mine.points ≡ s.mine.points → world.StandsForState g code q s
    → world.StandsForState g code q new
world-stands g code q s new same points st = record {
  retries = st.retries;
  steps = st.steps;
  stream = st.stream;
  actors = st.actors;
  remembers = subst (λ k. Remembers g k code.memory q) (sym same) st.remembers;
  attempts = record {
    tenant = st.attempts.tenant ∙ sym same;
    points = subst (ArePoints code.attempts) (sym points) st.attempts.points;
  };
}

-- a tenant behind its step
pub tenant-stands : (g : Ground) (r : TableRefs) (t : ℕ) (code : Tenant) (q : TenantState) (s : Store)
    → s.tenant ≡ t → s.mine.refs ≡ r.owned (tenant t) → world.StandsForState g code q s
    → TenantStands g r t code (record { state = q; mine = s.mine })
tenant-stands g r t code q s same refs st = record {
  stands = λ around. world-stands g code q s (store_in around t s.mine) (sym same) refl st;
  refs = refs;
}

-- the table serves a tenant that is open
pub serves-in : (g : Ground) (m : Machine) (w : World) (t : ℕ) (code : Tenant) (kept : TenantData)
    (s : MachineStands g m w) → TenantStands g s.refs t code kept
    → TableServes m.refs (store_in w.around t kept.mine) s.refs
serves-in g m w t code kept s it = record {
  stands = s.table;
  sound = s.sound;
  reached =
      ap (λ a. store_in a t kept.mine) s.around
      ∙ ap (λ refs. store_in (around_in s.refs) t
      (record { refs = refs; points = kept.mine.points })) it.refs;
}

-- a tenant that was lent
pub left-so : {old new : Tenants} {t : ℕ} {r : Option (MutBor Tenant)} {m : MutBor Tenant}
    {left : Tenant} → r ≡ Some m → OnSome r (LeavesTenant old new t left) → LeavesTenant old new t left
left-so {old} {new} {t} {left = left} is so = subst (λ o. OnSome o (LeavesTenant old new t left)) is so

pub there-some : (o : Option Tenant) → is_some o ≡ true → (code : Tenant) × (o ≡ Some code)
there-some None is = absurd (true≢false (sym is))
there-some (Some code) is = (code, refl)

pub there-none : (o : Option Tenant) → is_some o ≡ false → o ≡ None
there-none None is = refl
there-none (Some code) is = absurd (true≢false is)

-- One place

pub place-of : (g : Ground) (r : TableRefs) (t : ℕ) (code : Tenant) (kept : TenantData)
    (o : Option Tenant) (p : Option TenantData) → o ≡ Some code → p ≡ Some kept
    → TenantStands g r t code kept → PlaceStands g r t o p
place-of g r t code kept o p same is it =
    subst (λ x. PlaceStands g r t x p) (sym same)
    (subst (PlaceStands g r t (Some code)) (sym is) it)

pub place-none : (g : Ground) (r : TableRefs) (t : ℕ) (o : Option Tenant) (p : Option TenantData)
    → o ≡ None → p ≡ None → r.owned (tenant t) ≡ [] → PlaceStands g r t o p
place-none g r t o p same is it =
    subst (λ x. PlaceStands g r t x p) (sym same) (subst (PlaceStands g r t None) (sym is) it)

pub place-still : (g : Ground) (r new : TableRefs) (t : ℕ) (o : Option Tenant) (p : Option TenantData)
    → new.owned (tenant t) ≡ r.owned (tenant t) → PlaceStands g r t o p → PlaceStands g new t o p
place-still g r new t None None same it = same ∙ it
place-still g r new t None (Some kept) same it = it
place-still g r new t (Some code) None same it = it
place-still g r new t (Some code) (Some kept) same it = record {
  stands = it.stands;
  refs = it.refs ∙ sym same;
}

pub place-moved : (g : Ground) (r new : TableRefs) (t : ℕ) (o x : Option Tenant)
    (p y : Option TenantData) → x ≡ o → y ≡ p → new.owned (tenant t) ≡ r.owned (tenant t)
    → PlaceStands g r t o p → PlaceStands g new t x y
place-moved g r new t o x p y same is refs it =
    subst (λ z. PlaceStands g new t z y) (sym same)
    (subst (PlaceStands g new t o) (sym is) (place-still g r new t o p refs it))

-- the tenant of the rules that stands there
kept-some : (g : Ground) (r : TableRefs) (t : ℕ) (code : Tenant) (p : Option TenantData)
    → PlaceStands g r t (Some code) p
    → (kept : TenantData) × (p ≡ Some kept) × TenantStands g r t code kept
kept-some g r t code None it = absurd (it)
kept-some g r t code (Some kept) it = (kept, refl, it)

pub kept-at : (g : Ground) (r : TableRefs) (t : ℕ) (code : Tenant) (o : Option Tenant)
    (p : Option TenantData) → PlaceStands g r t o p → o ≡ Some code
    → (kept : TenantData) × (p ≡ Some kept) × TenantStands g r t code kept
kept-at g r t code o p it same =
    kept-some g r t code p (subst (λ x. PlaceStands g r t x p) same it)

none-there : (g : Ground) (r : TableRefs) (t : ℕ) (p : Option TenantData) → PlaceStands g r t None p
    → p ≡ None
none-there g r t None it = refl
none-there g r t (Some kept) it = absurd (it)

pub none-at : (g : Ground) (r : TableRefs) (t : ℕ) (o : Option Tenant) (p : Option TenantData)
    → PlaceStands g r t o p → o ≡ None → p ≡ None
none-at g r t o p it e = none-there g r t p (subst (λ x. PlaceStands g r t x p) e it)

-- and where none of the rules stands there
refs-there : (g : Ground) (r : TableRefs) (t : ℕ) (o : Option Tenant) → PlaceStands g r t o None
    → r.owned (tenant t) ≡ []
refs-there g r t None it = it
refs-there g r t (Some x) it = absurd (it)

pub refs-none : (g : Ground) (r : TableRefs) (t : ℕ) (o : Option Tenant) (p : Option TenantData)
    → PlaceStands g r t o p → p ≡ None → r.owned (tenant t) ≡ []
refs-none g r t o p it e = refs-there g r t o (subst (PlaceStands g r t o) e it)

-- All places

-- that of one tenant, and those of all others
pub all-places : (P : ℕ → Type 0) (t : ℕ) → P t → ((u : ℕ) → u ≢ t → (u == t) ≡ false → P u)
    → (u : ℕ) → P u
all-places P t mine others = λ u. by u (u == t) refl
  where
    by : (u : ℕ) (b : Bool) → (u == t) ≡ b → P u
    by u true is = subst P (sym (eqb-true u t is)) mine
    by u false is = others u (eqb-false u t is) is

-- what is found of another tenant
pub open-others : (w : World) (around : Around) (t u : ℕ) (x : Option TenantData) (y : TenantData)
    → open_in t w ≡ Some y → u ≢ t
    → open_in u (record { around = around; tenants = with_part t x w.tenants }) ≡ open_in u w
open-others w around t u x y there apart =
    ap (option_and_then (λ part. part))
    ((part_under-put u t x (Some y) w.tenants (found-open (part_under t w.tenants) y there)).1 apart)

pub open-mine : (w : World) (around : Around) (t : ℕ) (x : Option TenantData) (y : TenantData)
    → open_in t w ≡ Some y
    → open_in t (record { around = around; tenants = with_part t x w.tenants }) ≡ x
open-mine w around t x y there =
    ap (option_and_then (λ part. part))
    ((part_under-put t t x (Some y) w.tenants (found-open (part_under t w.tenants) y there)).0 refl)

-- the refs of each, once a tenant sees this
pub owned-others : (s : Store) (r : TableRefs) (t u : ℕ) → s.tenant ≡ t → (u == t) ≡ false
    → (refs_after s r).owned (tenant u) ≡ r.owned (tenant u)
owned-others s r t u same apart =
    ap (λ k. if u == k then s.mine.refs else r.owned (tenant u)) same
    ∙ ap (λ (b : Bool). if b then s.mine.refs else r.owned (tenant u)) apart

pub owned-mine : (s : Store) (r : TableRefs) (t : ℕ) → s.tenant ≡ t
    → s.mine.refs ≡ (refs_after s r).owned (tenant t)
owned-mine s r t same =
    sym (ap (λ k. if t == k then s.mine.refs else r.owned (tenant t)) same
    ∙ ap (λ (b : Bool). if b then s.mine.refs else r.owned (tenant t)) (eq-eqb t t refl))

-- what a tenant that is open shows
pub shown-of : {X : Type 0} (g : Ground) (m : Machine) (w : World) (t : ℕ) (code : Tenant)
    (show : TenantState → Option X) (shown : Option X) (s : MachineStands g m w)
    → tenant_at m.tenants t ≡ Some code
    → ((q : TenantState) (st : Store) → world.StandsForState g code q st → shown ≡ show q)
    → shown ≡ option_and_then (λ it. show it.state) (open_in t w)
shown-of g m w t code show shown s there is =
    let at = kept-at g s.refs t code (tenant_at m.tenants t) (open_in t w) (s.tenants t) there in
    is at.0.state (store_in w.around t at.0.mine) (at.2.stands w.around)
    ∙ sym (ap (option_and_then (λ it. show it.state)) at.1)
