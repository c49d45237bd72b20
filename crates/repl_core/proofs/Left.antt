-- What is left to do for a tenant, through a step of it.
use Rattle.std.proofs.Common.{◌≡◌, ◌+◌, ◌<◌, [], length, Option, Some, None}
use Rattle.std.proofs.Common.{Result, Ok, Err, OnOk, OnErr, sym, ap, subst, ◌∙◌}
use Rattle.tenant_world.specs.Standing.{replies_of}
use Rattle.tenant_world.specs.declared.tenant.Tenant.{Tenant}
use Rattle.repl_core.specs.Left.{left_of}

pub left-less : {X E : Type 0} (old new : Option Tenant) (was code : Tenant) (res : Result X E)
    → old ≡ Some was → new ≡ Some code → OnOk res (was.steps ≡ code.steps + 1)
    → OnOk res ((left_of old).steps ≡ (left_of new).steps + 1)
left-less old new was code (Err e) there put less = tt
left-less old new was code (Ok x) there put less =
    ap (λ o. (left_of o).steps) there ∙ less ∙ ap (λ o. (left_of o).steps + 1) (sym put)

pub left-still : (old new : Option Tenant) (was code : Tenant) → old ≡ Some was → new ≡ Some code
    → code.steps ≡ was.steps → (left_of new).steps ≡ (left_of old).steps
left-still old new was code there put same =
    ap (λ o. (left_of o).steps) put ∙ same ∙ ap (λ o. (left_of o).steps) (sym there)

pub left-kept : {X E : Type 0} (old new : Option Tenant) (was code : Tenant) (res : Result X E)
    → old ≡ Some was → new ≡ Some code → OnErr res (code.steps ≡ was.steps)
    → OnErr res ((left_of new).steps ≡ (left_of old).steps)
left-kept old new was code (Ok x) there put same = tt
left-kept old new was code (Err e) there put same = left-still old new was code there put same

-- of a tenant that is not there
pub left-none : (old new : Option Tenant) → old ≡ None → new ≡ None
    → (left_of new).steps ≡ (left_of old).steps
left-none old new none gone =
    ap (λ o. (left_of o).steps) gone ∙ ap (λ o. (left_of o).steps) (sym none)

pub none-waits : (o : Option Tenant) → o ≡ None → (left_of o).outbox ≡ []
none-waits o none = ap (λ it. (left_of it).outbox) none

pub waits-so : (o : Option Tenant) (code : Tenant) → o ≡ Some code
    → (left_of o).outbox ≡ replies_of code
waits-so o code there = ap (λ it. (left_of it).outbox) there

pub some-waits : (o : Option Tenant) (code : Tenant) → o ≡ Some code
    → 0 < length (replies_of code) → 0 < length (left_of o).outbox
some-waits o code there waits = subst (λ it. 0 < length (left_of it).outbox) (sym there) waits

pub some-left : (o : Option Tenant) (code : Tenant) → o ≡ Some code → 0 < code.steps
    → 0 < (left_of o).steps
some-left o code there left = subst (λ it. 0 < (left_of it).steps) (sym there) left
