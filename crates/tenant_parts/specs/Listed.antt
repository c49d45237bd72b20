-- Each actor that has something to do is listed, and that of agents always.
use Rattle.std.specs.Prelude.{◌≡◌, ℕ, ◌==◌, List, [], ◌∷◌, Bool, true, false, not, ◌&&◌, ◌||◌}
use Rattle.std.specs.BTreeSet.{BTreeSet, contains}
use Rattle.ref_table.specs.Numbered.{Entry}
use Rattle.server_rules.specs.Tenant.{ActorData, actor_at}
use Rattle.server_rules.specs.contracts.actor.ActorOrd.TheImpl as order
use Rattle.server_rules.specs.declared.actor.Actor.{Actor}
use Rattle.tenant_parts.specs.Busy.{is_busy}

-- whether the name of a seat is listed
abbrev pub lists : BTreeSet Actor → ℕ → Bool
lists listed seat = contains (order.ghosts).cmp listed (actor_at seat)

abbrev pub lists_agents : BTreeSet Actor → Bool
lists_agents listed = contains (order.ghosts).cmp listed Actor.Agents

abbrev pub is_listed : BTreeSet Actor → Entry ActorData → Bool
is_listed listed e = not (is_busy e.part) || lists listed e.number

abbrev pub are_listed : BTreeSet Actor → List (Entry ActorData) → Bool
are_listed listed [] = true
are_listed listed (e ∷ es) = is_listed listed e && are_listed listed es

-- both have the same names but that of this seat
abbrev pub AgreeApart : ℕ → BTreeSet Actor → BTreeSet Actor → Type 0
AgreeApart seat s t = (m : ℕ) → (seat == m) ≡ false → lists t m ≡ lists s m
