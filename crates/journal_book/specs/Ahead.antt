-- What an actor of a tenant is about to do.
use Rattle.std.specs.Prelude.{ℕ, List, Option, None, Some, option_and_then}
use Rattle.server_rules.specs.Machine.World.{TenantData}
use Rattle.server_rules.specs.declared.actor.Actor.{Actor}
use Rattle.tenant_parts.specs.Ahead.{next_text_of, IsAddressee}
use Rattle.tenant_parts.specs.declared.spelled.Addressee.{Addressee}

-- the text of the request that it takes up next, if the tenant is open and nothing is in hand
abbrev pub next_text_in : Actor → Option TenantData → Option (List ℕ)
next_text_in a o = option_and_then (λ it. next_text_of a it.state.actors) o

-- what tells how its form ended is for this request, if the tenant is open
abbrev pub IsAddresseeIn : Actor → Option TenantData → Addressee → Type 0
IsAddresseeIn a None it = ⊥
IsAddresseeIn a (Some kept) it = IsAddressee a kept.state it
