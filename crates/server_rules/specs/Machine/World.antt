-- The whole server, and its step.
use Rattle.std.specs.Prelude.{ℕ, ◌+◌, List, [], ◌∷◌, Bool, false, ◌||◌, nat_le, Option, None}
use Rattle.std.specs.Prelude.{Some, if◌then◌else◌}
use Rattle.ref_table.specs.Numbered.{Entry, entry, part_under, with_part}
use Rattle.ref_history.specs.Versioned.{Ref}
use Rattle.ref_table.specs.Store.{Around, Own, Store}
use Rattle.ref_table.specs.Performed.{Performed}
use Rattle.ref_table.specs.Calls.{performed}
use Rattle.server_rules.specs.Ground.{Ground}
use Rattle.server_rules.specs.Tenant.{TenantState, opened_state}
use Rattle.server_rules.specs.Plan.{Deed, StepAnswer, tenant_opened, tenant_gone, Outcome, refuses}
use Rattle.server_rules.specs.Plan.{leaves, Plan}
use Rattle.server_rules.specs.Deeds.{plan}
use Rattle.server_rules.specs.declared.refusal.Refusal.{Refusal}

pub record TenantData : Type 0 where
  pub state : TenantState
  pub mine : Own

pub record World : Type 0 where
  pub around : Around
  -- each tenant that was ever opened, or nothing once it is gone
  pub tenants : List (Entry (Option TenantData))

pub data Step : Type 0 where
  opens : ℕ → Step
  does : ℕ → Deed → Step
  closes : ℕ → Step

-- what a step makes of the server, and its answer; or why it is refused
pub data Stepped : Type 0 where
  accepted : World → StepAnswer → Stepped
  refused : Refusal → Stepped

-- a server with these shared refs, to which nobody came
abbrev pub new_world : List Ref → World
new_world shared_refs = record {
  around = record { counter = 0; refs = shared_refs };
  tenants = [];
}

-- a server to which nobody came
abbrev pub opened_world : Ground → World
opened_world g = new_world g.shared.refs

abbrev pub opened_tenant : Ground → TenantData
opened_tenant g = record { state = opened_state g; mine = record { refs = []; points = [] } }

-- Opening: with a number above all before it, where a place is free

abbrev pub is_used : ℕ → List (Entry (Option TenantData)) → Bool
is_used t [] = false
is_used t (e ∷ es) = nat_le t e.number || is_used t es

abbrev pub open_count : List (Entry (Option TenantData)) → ℕ
open_count [] = 0
open_count (e ∷ es) = counted e.part (open_count es) where
  counted : Option TenantData → ℕ → ℕ
  counted None n = n
  counted (Some tenant) n = n + 1

abbrev pub open_step : Ground → World → ℕ → Stepped
open_step g w t =
    if is_used t w.tenants then refused Refusal.NumberUsed
    else if nat_le g.places (open_count w.tenants) then refused Refusal.Full
    else accepted (record w { tenants = entry t (Some (opened_tenant g)) ∷ w.tenants })
    tenant_opened

-- A tenant's deed

abbrev pub with_tenant : ℕ → Option TenantData → Around → World → World
with_tenant t part around w = record { around = around; tenants = with_part t part w.tenants }

abbrev pub ended_as : World → ℕ → Store → Outcome → Stepped
ended_as w t s (refuses why) = refused why
ended_as w t s (leaves q answer) =
    accepted (with_tenant t (Some (record { state = q; mine = s.mine })) s.around w) answer

abbrev pub done_by : World → ℕ → Plan → Performed Store → Stepped
done_by w t p called = ended_as w t called.store (p.next called.told)

abbrev pub planned_step : World → ℕ → TenantData → Plan → Stepped
planned_step w t tenant p =
    done_by w t p (performed (record { around = w.around; tenant = t; mine = tenant.mine }) p.call)

abbrev pub deed_step : Ground → World → ℕ → Deed → Option (Option TenantData) → Stepped
deed_step g w t d None = refused Refusal.NoSuchTenant
deed_step g w t d (Some None) = refused Refusal.NoSuchTenant
deed_step g w t d (Some (Some tenant)) = planned_step w t tenant (plan g t tenant.state d)

-- Going: the shared refs stay as they are

abbrev pub close_step : World → ℕ → Option (Option TenantData) → Stepped
close_step w t None = refused Refusal.NoSuchTenant
close_step w t (Some None) = refused Refusal.NoSuchTenant
close_step w t (Some (Some tenant)) = accepted (with_tenant t None w.around w) tenant_gone

unfoldable pub step : Ground → World → Step → Stepped
step g w (opens t) = open_step g w t
step g w (does t d) = deed_step g w t d (part_under t w.tenants)
step g w (closes t) = close_step w t (part_under t w.tenants)

-- a refused step changes nothing
abbrev pub world_or : World → Stepped → World
world_or old (accepted new answer) = new
world_or old (refused why) = old

abbrev pub run : Ground → World → List Step → World
run g w [] = w
run g w (s ∷ ss) = run g (world_or w (step g w s)) ss
