-- Whether all actors have lower seats than this.
use Rattle.std.specs.Prelude.{ℕ, List, [], ◌∷◌, Bool, true, nat_lt, ◌&&◌}
use Rattle.ref_table.specs.Numbered.{Entry}
use Rattle.server_rules.specs.Tenant.{ActorData}

abbrev pub are_below : ℕ → List (Entry ActorData) → Bool
are_below seat [] = true
are_below seat (e ∷ es) = nat_lt e.number seat && are_below seat es
