-- What a tenant stands on, where it is right: streams and texts are read as they are to be read,
-- and jobs and traces compared exactly.
use Rattle.server_rules.specs.Readings.{AreRight}
use Rattle.server_rules.specs.Comparisons.{AreExact}
use Rattle.server_rules.specs.Ground.{Ground}

pub record IsRight (g : Ground) : Type 0 where
  pub readings : AreRight g.readings
  pub comparisons : AreExact g.comparisons
