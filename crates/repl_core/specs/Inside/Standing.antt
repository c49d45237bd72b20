-- The code stands for a tenant, for the refs that it reaches, and for the evaluations of its forms.
use Rattle.std.specs.Prelude.{◌≡◌, ◌≢◌}
use Rattle.server_rules.specs.Ground.{Ground}
use Rattle.server_rules.specs.Plan.{Deed, StepAnswer, refuses, leaves}
use Rattle.server_rules.specs.Tenant.{TenantState}
use Rattle.server_rules.specs.declared.refusal.Refusal.{Refusal}
use Rattle.ref_table.specs.Refs.{TableRefs, refs_after}
use Rattle.tenant_parts.specs.Serving.{RingRefTable, TableServes}
use Rattle.server_rules.specs.DeedResult.{DeedResult, deed_result}
use Rattle.server_rules.specs.Grounds.{IsRight}
use Rattle.server_rules.specs.LoneTurns.{LoneTenant}
use Rattle.tenant_world.specs.Standing as world
use Rattle.tenant_world.specs.declared.tenant.Tenant.{Tenant}
use Rattle.repl_core.specs.Grounds.{Evaluates}
use Rattle.repl_core.specs.Inside.WalkAt.{walk_at}
use Rattle.repl_core.specs.Inside.Walked.{AreWalked}
use Rattle.repl_core.specs.declared.walks.Walks.{Walks}

-- a tenant of the code, the table of all refs, and the evaluations of the tenant's forms
pub record Parts : Type 0 where
  pub tenant : Tenant
  pub table : RingRefTable
  pub walks : Walks

abbrev pub parts : Tenant → RingRefTable → Walks → Parts
parts tenant table walks = record { tenant = tenant; table = table; walks = walks }

-- the table stands for these refs, which are those of all tenants
pub record PartsStand (g : Ground) (p : Parts) (l : LoneTenant) (r : TableRefs) : Type 0 where
  pub right : IsRight g
  pub ground : Evaluates g
  pub tenant : world.StandsForState g p.tenant l.state l.store
  pub serves : TableServes p.table l.store r
  pub walked : AreWalked (walk_at p.walks) l.state

abbrev pub comes_to : Ground → LoneTenant → Deed → DeedResult
comes_to g l deed = deed_result g l.store l.state deed

-- the tenant behind a deed
abbrev pub lone_behind : DeedResult → TenantState → LoneTenant
lone_behind d q = record { state = q; store = d.store }

-- the deed is accepted
pub record AcceptsHonestDeed (g : Ground) (l : LoneTenant) (r : TableRefs) (deed : Deed) (p : Parts)
    : Type 0 where
  pub after : TenantState
  pub answer : StepAnswer
  pub accepted : (comes_to g l deed).outcome ≡ leaves after answer
  pub stands : PartsStand g p (lone_behind (comes_to g l deed) after)
      (refs_after (comes_to g l deed).store r)

-- the deed is refused so, unless for want of memory
pub record RefusesHonestDeed (g : Ground) (l : LoneTenant) (r : TableRefs) (deed : Deed) (p : Parts)
    (why : Refusal)
    : Type 0 where
  pub refused : why ≢ Refusal.NoMemory → (comes_to g l deed).outcome ≡ refuses why
  pub stands : PartsStand g p l r
