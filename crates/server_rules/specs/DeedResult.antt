-- What a deed of a tenant comes to, with the refs that it reaches.
use Rattle.ref_table.specs.Store.{Store}
use Rattle.ref_table.specs.Calls.{performed}
use Rattle.server_rules.specs.Ground.{Ground}
use Rattle.server_rules.specs.Tenant.{TenantState}
use Rattle.server_rules.specs.Plan.{Deed, Outcome, Plan}
use Rattle.server_rules.specs.Deeds.{plan}

pub record DeedResult : Type 0 where
  pub outcome : Outcome
  -- what the tenant reaches of the refs behind it; it is left so only where the outcome is accepted
  pub store : Store

-- a plan with its call of the refs
abbrev pub carried_out : Store → Plan → DeedResult
carried_out s p =
    let called = performed s p.call in
    record { outcome = p.next called.told; store = called.store }

-- what a deed comes to of the tenant whose store this is
unfoldable pub deed_result : Ground → Store → TenantState → Deed → DeedResult
deed_result g s q d = carried_out s (plan g s.tenant q d)
