-- What is proved of who has something to begin.
use Rattle.std.specs.Prelude.{◌≡◌, ℕ, List, true, Some, ⊤}
use Rattle.ref_table.specs.Numbered.{part_under}
use Rattle.ref_history.specs.Versioned.{Ref}
use Rattle.server_rules.specs.Ground.{Ground}
use Rattle.server_rules.specs.Tenant.{TenantState, is_held}
use Rattle.server_rules.specs.Plan.{starts}
use Rattle.server_rules.specs.Machine.Ready.{ready}
use Rattle.server_rules.specs.Machine.World.{TenantData, Step, does, Stepped, accepted, refused}
use Rattle.server_rules.specs.Machine.World.{step, new_world, run}
use Rattle.server_rules.specs.declared.actor.Actor.{Actor}
use Rattle.server_rules.specs.declared.refusal.Refusal.{Refusal}

-- An actor that has work is refused only where no step is left, or where too many replies wait.
abbrev pub MayRefuseWork : TenantState → Refusal → Type 0
MayRefuseWork q Refusal.Worn = q.steps ≡ 0
MayRefuseWork q Refusal.Held = is_held q ≡ true
MayRefuseWork q _ = ⊥

-- a start that found something to do is accepted, or refused for one of these two alone
abbrev pub FoundWork : TenantState → Stepped → Type 0
FoundWork q (accepted w answer) = ⊤
FoundWork q (refused why) = MayRefuseWork q why

-- Whatever happened: where `ready` names an actor of a tenant that is open, a start of that actor
-- finds something to do.
abbrev pub ReadyHasWork : Type 0
ReadyHasWork =
    (g : Ground) (shared_refs : List Ref) (steps : List Step) (t : ℕ) (tenant : TenantData)
    (a : Actor)
    → let w = run g (new_world shared_refs) steps in
    part_under t w.tenants ≡ Some (Some tenant) → ready tenant.state ≡ Some a
    → FoundWork tenant.state (step g w (does t (starts a)))
