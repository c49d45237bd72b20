-- Where nothing was made beforehand, nothing is claimed of it.
use Rattle.std.proofs.Common.{Option, None, subst, sym, ◌≡◌}
use Rattle.server_rules.specs.Machine.World.{Step, opens, does, closes}
use Rattle.server_rules.specs.Plan.{hears, starts, asks_for, ends, drains}
use Rattle.tenant_parts.specs.declared.spelled.SpelledEnd.{SpelledEnd}
use Rattle.journal_book.specs.Beside.{SpellsStep}

none-spelled : (s : Step) → SpellsStep None s
none-spelled (does t (ends a e)) = tt
none-spelled (does t (starts a)) = tt
none-spelled (does t (asks_for a ask)) = tt
none-spelled (does t (hears piece)) = tt
none-spelled (does t drains) = tt
none-spelled (opens t) = tt
none-spelled (closes t) = tt

pub not-spelled : (spelled : Option SpelledEnd) (s : Step) → spelled ≡ None → SpellsStep spelled s
not-spelled spelled s is = subst (λ p. SpellsStep p s) (sym is) (none-spelled s)
