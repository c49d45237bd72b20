-- What was made beforehand of a step that ends a form.
use Rattle.std.specs.Prelude.{⊤, Option}
use Rattle.server_rules.specs.Machine.World.{Step, opens, does, closes}
use Rattle.server_rules.specs.Plan.{Deed, hears, starts, asks_for, ends, drains}
use Rattle.tenant_parts.specs.Spelled.{SpellsEnd}
use Rattle.tenant_parts.specs.declared.spelled.SpelledEnd.{SpelledEnd}

abbrev pub SpellsDeed : Option SpelledEnd → Deed → Type 0
SpellsDeed spelled (ends a e) = SpellsEnd spelled e.end
SpellsDeed spelled (starts a) = ⊤
SpellsDeed spelled (asks_for a ask) = ⊤
SpellsDeed spelled (hears piece) = ⊤
SpellsDeed spelled drains = ⊤

-- if replies are there, they tell how the form ends; of other steps this says nothing
abbrev pub SpellsStep : Option SpelledEnd → Step → Type 0
SpellsStep spelled (does t d) = SpellsDeed spelled d
SpellsStep spelled (opens t) = ⊤
SpellsStep spelled (closes t) = ⊤
