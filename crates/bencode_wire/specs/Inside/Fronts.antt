-- A list that begins with another.
use Rattle.std.specs.Prelude.{◌≡◌, List, length, take}

abbrev pub BeginsWith : {X : Type 0} → List X → List X → Type 0
BeginsWith xs front = take (length front) xs ≡ front
