-- Names and forms by turns, as the code takes them.
use Rattle.std.specs.Prelude.{ℕ, List, [], ◌∷◌, Option, Some, None}
use Rattle.value_data.specs.Datum.{Datum, symbol}
use Rattle.special_forms.specs.Rows.{BoundForm}

abbrev pub first_of : List Datum → Option Datum
first_of [] = None
first_of (d ∷ ds) = Some d

-- the name that a symbol is; what is none has no characters
abbrev pub bound_name : Datum → List ℕ
bound_name (symbol s) = s
bound_name _ = []

-- names and forms by turns, where they are known to be such
abbrev pub bindings_in : List Datum → List BoundForm
bindings_in [] = []
bindings_in (d ∷ []) = []
bindings_in (d ∷ e ∷ ds) = record { name = bound_name d; form = e } ∷ bindings_in ds
