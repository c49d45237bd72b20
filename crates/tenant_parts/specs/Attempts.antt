-- The attempts of a tenant's transactions, as the rules have them.
use Rattle.std.specs.Prelude.{◌≡◌, ℕ, List, Option, option_map}
use Rattle.std.specs.BTreeMap.{get}
use Rattle.ref_table.specs.Numbered.{Entry, part_under}
use Rattle.ref_table.specs.Store.{Store}
use Rattle.server_rules.specs.Tenant.{seat_of}
use Rattle.server_rules.specs.contracts.actor.ActorOrd.TheImpl as order
use Rattle.server_rules.specs.declared.actor.Actor.{Actor}
use Rattle.ref_table.specs.declared.outcome.Point.{Point}
use Rattle.tenant_parts.specs.declared.attempts.Attempts.{Attempts}

-- where the attempt of an actor reads, if one runs
abbrev pub point_at : Attempts → Actor → Option Point
point_at attempts a = get (order.ghosts).cmp attempts.points a

abbrev pub ArePoints : Attempts → List (Entry ℕ) → Type 0
ArePoints attempts points = (a : Actor)
    → option_map (λ p. p.stamp) (point_at attempts a) ≡ part_under (seat_of a) points

-- they are those of the tenant whose store this is
pub record Reaches (attempts : Attempts) (s : Store) : Type 0 where
  pub tenant : attempts.tenant ≡ s.tenant
  pub points : ArePoints attempts s.mine.points
