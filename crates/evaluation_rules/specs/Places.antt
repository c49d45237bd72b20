-- Where a form stands.
use Rattle.std.specs.Prelude.{ℕ, List, [], ◌∷◌, Option, Some, None}
use Rattle.value_data.specs.Datum.{Datum}
use Rattle.special_forms.specs.Locals.{LocalData}
use Rattle.evaluation_rules.specs.Doing.{Kept, Part}

-- the locals, newest first, and the namespace of the function in whose body the form is
pub record PlaceData : Type 0 where
  pub locals : List LocalData
  pub home : Option (List ℕ)

-- how a form is evaluated in a place
abbrev pub Evaluator : Type 0
Evaluator = PlaceData → Datum → Part Datum

-- outside of functions and of `let`
abbrev pub outside : PlaceData
outside = record { locals = []; home = None }

abbrev pub with_local : PlaceData → List ℕ → Datum → PlaceData
with_local p s d = record { locals = record { name = s; bound = d } ∷ p.locals; home = p.home }

abbrev pub home_or : Option (List ℕ) → List ℕ → List ℕ
home_or (Some home) namespace = home
home_or None namespace = namespace

-- the namespace in which symbols are resolved and names defined
abbrev pub space_of : PlaceData → Kept → List ℕ
space_of p kept = home_or p.home kept.namespace
