-- The parameters of a function.
use Rattle.std.specs.Prelude.{ℕ, List, [], ◌∷◌, Option, Some, None, option_map, is_some}
use Rattle.std.specs.Prelude.{if◌then◌else◌, codes}
use Rattle.std.specs.Option.{option_and_then}
use Rattle.std.specs.Str.{bytes_eq}
use Rattle.value_data.specs.Datum.{Datum}
use Rattle.value_data.specs.Listed.{items_of}
use Rattle.value_data.specs.Repeats.{first_repeat}
use Rattle.special_forms.specs.Kinds.{simple_name}

-- a parameter is a simple name other than `&`
abbrev pub other_than_ampersand : List ℕ → Option (List ℕ)
other_than_ampersand s = if bytes_eq s (codes "&") then None else Some s

abbrev pub parameter_name : Datum → Option (List ℕ)
parameter_name d = option_and_then other_than_ampersand (simple_name d)

abbrev pub parameter_names : List Datum → Option (List (List ℕ))
parameter_names [] = Some []
parameter_names (d ∷ ds) =
    option_and_then (λ s. option_map (λ names. s ∷ names) (parameter_names ds)) (parameter_name d)

-- distinct names
unfoldable pub parameters : List Datum → Option (List (List ℕ))
parameters ds = if is_some (first_repeat (items_of ds)) then None else parameter_names ds
