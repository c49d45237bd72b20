-- What is the same for all tenants, and stays.
use Rattle.std.specs.Prelude.{ℕ, List}
use Rattle.repl_asks.specs.Job.{JobData}
use Rattle.repl_asks.specs.InteractionTree.{InteractionTree}
use Rattle.server_rules.specs.Readings.{Readings}
use Rattle.server_rules.specs.Comparisons.{Comparisons}
use Rattle.server_rules.specs.Shared.{SharedData}

pub record Ground : Type 0 where
  pub readings : Readings
  pub comparisons : Comparisons
  -- what a job asks, and how it ends
  pub evaluation : JobData → InteractionTree
  -- the random seed of session ids, 32 bytes
  pub seed : List ℕ
  -- how many steps a tenant has, and how many attempts a transaction
  pub steps : ℕ
  pub retries : ℕ
  -- how many tenants may be open at once
  pub places : ℕ
  -- what all tenants share from the start
  pub shared : SharedData
