-- The turns of a tenant that is served alone, as turns of a server of many.
use Rattle.server_rules.specs.Plan as deeds
use Rattle.server_rules.specs.Machine.Turns as turns
use Rattle.server_rules.specs.Machine.Turns.{Turn, given}
use Rattle.server_rules.specs.Machine.World.{does}
use Rattle.server_rules.specs.LoneTurns.{LoneTurn, hears, goes, drains}

-- its number is the first
abbrev pub turn_of : LoneTurn → Turn
turn_of (hears piece) = given (does 0 (deeds.hears piece))
turn_of (goes a) = turns.goes 0 a
turn_of drains = given (does 0 deeds.drains)
