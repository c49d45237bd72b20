-- What a call promises of the honest deed of an actor, for every tenant for which the code stands
-- before.
use Rattle.std.specs.Prelude.{◌≡◌, Bool, true, Some, Result, Err, OnOk, IfErr}
use Rattle.ref_table.specs.Refs.{TableRefs}
use Rattle.server_rules.specs.Ground.{Ground}
use Rattle.server_rules.specs.Grounds.{IsRight}
use Rattle.server_rules.specs.Honest.{honest_deed}
use Rattle.server_rules.specs.LoneTurns.{LoneTenant}
use Rattle.server_rules.specs.declared.actor.Actor.{Actor}
use Rattle.server_rules.specs.declared.refusal.Refusal.{Refusal}
use Rattle.tenant_asks.specs.Acting.{is_accepted}
use Rattle.repl_core.specs.Inside.Seen.{is_seen}
use Rattle.repl_core.specs.Inside.Standing.{Parts, PartsStand, AcceptsHonestDeed, RefusesHonestDeed}
use Rattle.repl_core.specs.Inside.Standing.{comes_to}

abbrev pub DoesNext : Actor → Parts → Parts → Result (Unit {0}) Refusal → Type 0
DoesNext a old new result = (g : Ground) (l : LoneTenant) (r : TableRefs) → IsRight g
    → PartsStand g old l r
    → OnOk result (AcceptsHonestDeed g l r (honest_deed g a (Some (Some l.state))) new)

abbrev pub DeclinesNext : Actor → Parts → Parts → Result (Unit {0}) Refusal → Type 0
DeclinesNext a old new result = (g : Ground) (l : LoneTenant) (r : TableRefs) → IsRight g
    → PartsStand g old l r
    → IfErr result (RefusesHonestDeed g l r (honest_deed g a (Some (Some l.state))) new)

-- where it is known what the form does, memory is refused only where the deed is accepted
abbrev pub NextLacksMemory : Actor → Parts → Bool → Result (Unit {0}) Refusal → Type 0
NextLacksMemory a old is_known result = (g : Ground) (l : LoneTenant) (r : TableRefs) → IsRight g
    → PartsStand g old l r
    → result ≡ Err Refusal.NoMemory
    → let d = honest_deed g a (Some (Some l.state)) in
    is_seen is_known d ≡ true
    → is_accepted (comes_to g l d).outcome ≡ true
