-- A tenant is lent, to be changed in its place.
use Rattle.std.specs.Prelude.{◌≡◌, ◌≢◌, ℕ, Option, Some, OnSome}
use Rattle.std.specs.Borrow.{LendsSo, MutBor, Fml}
use Rattle.tenant_world.specs.contracts.tenant.Tenant as tenant
use Rattle.tenant_world.specs.declared.tenant.Tenant.{Tenant}
use Rattle.repl_core.specs.TenantAt.{tenant_at}
use Rattle.repl_core.specs.contracts.tenants.Tenants as tenants
use Rattle.repl_core.specs.declared.tenants.Tenants.{Tenants}

-- the tenant with this number is left so, and all others are as they were
pub record LeavesTenant (old new : Tenants) (t : ℕ) (left : Tenant) : Type 0 where
  pub put : tenant_at new t ≡ Some left
  pub others : (u : ℕ) → u ≢ t → tenant_at new u ≡ tenant_at old u

abbrev pub LendsTenant : MutBor Tenants → ℕ → Option (MutBor Tenant) → Fml
LendsTenant s t r = LendsSo tenants.the_row tenant.the_row s r
    (λ n left. OnSome r (LeavesTenant s.now n t left))
    (λ n. (u : ℕ) → tenant_at n u ≡ tenant_at s.now u)
