-- What the code goes by.
use Rattle.std.specs.Prelude.{ℤ}
use denote.Ref.{Bor}
use Rattle.value_data.specs.Datum.{Datum}
use Rattle.value_data.specs.Inside.View.{view}
use Rattle.value_data.specs.declared.value.Value.{Value}

abbrev pub indexed_view : ℤ × Bor Value → ℤ × Datum
indexed_view p = (p.0, view p.1.now)
