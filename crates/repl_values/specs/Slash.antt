-- The byte that parts a name from the namespace before it.
use Rattle.std.specs.Prelude.{ℕ, Bool, ◌==◌}

-- the byte `/`
abbrev pub is_slash : ℕ → Bool
is_slash b = b == 47
