-- Values as their data.
use Rattle.std.proofs.Common.{◌≡◌, ◌≢◌, ℤ, pos, negsuc, List, [], ◌∷◌, ◌++◌, get_or, length, map, drop, reverse, append_assoc, Some, None, Result, Ok, Err, refl, sym, ap, ◌∙◌, arith}
use Rattle.std.proofs.lemmas.Grind.{reverse_onto}
use mathlib.Core.List.{reverse_aux}
use Rattle.value_data.specs.Datum.{Datum, nil, list, vector, Items, no_items, item}
use Rattle.value_data.specs.Inside.View.{view}
use Rattle.value_data.specs.declared.value.Value.{Value}
use Rattle.value_data.proofs.Views.{value_views}
use Rattle.repl_values.specs.Failure.{Failure}
use Rattle.value_data.specs.Inside.Ends.{with_last, behind_first}
use Rattle.value_data.specs.Listed.{listed}
use Rattle.repl_values.specs.Arguments.{at_index}
use Rattle.repl_values.specs.Making.{vector_of, list_or_nil}
use Rattle.repl_values.proofs.Lists.{lists, of-listed}
use Rattle.core_collections.specs.Pairs.{as_pair}

pub as_pair-two : (ds : Items) (k v : Datum) → length (listed ds) ≡ 2 → k ≡ get_or (listed ds) 0 k → v ≡ get_or (listed ds) 1 v
    → as_pair (vector ds) ≡ Some (k, v)
as_pair-two no_items k v two first second = absurd (omega (arith, two))
as_pair-two (item d no_items) k v two first second = absurd (omega (arith, two))
as_pair-two (item d (item e no_items)) k v two first second =
    let one : k ≡ d = first in let other : v ≡ e = second in cc
as_pair-two (item d (item e (item f ds))) k v two first second = absurd (omega (arith, two))

pub as_pair-other : (ds : Items) → length (listed ds) ≢ 2 → as_pair (vector ds) ≡ None
as_pair-other no_items other = refl
as_pair-other (item d no_items) other = refl
as_pair-other (item d (item e no_items)) other = absurd (other refl)
as_pair-other (item d (item e (item f ds))) other = refl

-- what was found before, and what is still found
abbrev pub with_front : List (Datum × Datum) → Result (List (Datum × Datum)) Failure → Result (List (Datum × Datum)) Failure
with_front front (Ok ps) = Ok (front ++ ps)
with_front front (Err f) = Err f

-- what stands behind the first item
pub listed-behind_first : (ds : Items) → listed (behind_first ds) ≡ drop 1 (listed ds)
listed-behind_first no_items = refl
listed-behind_first (item d ds) = refl

-- a list of no items is nil where nil stands for it
pub list_or_nil-empty : (ds : Items) → length (listed ds) ≡ 0 → list_or_nil (listed ds) ≡ nil
list_or_nil-empty no_items none = refl
list_or_nil-empty (item d ds) none = absurd (omega (arith, none))

pub list_or_nil-full : (ds : Items) → length (listed ds) ≢ 0 → list_or_nil (listed ds) ≡ list ds
list_or_nil-full no_items some = absurd (some refl)
list_or_nil-full (item d ds) some = ap (λ (es : Items). list (item d es)) (of-listed ds)

-- a vector by the list of its items
pub vector-listed : (ds : Items) (all : List Datum) → listed ds ≡ all → vector_of all ≡ vector ds
vector-listed ds all e = ap vector_of (sym e) ∙ ap vector (of-listed ds)

-- one item more behind the others
pub listed-with_last : (ds : Items) (d : Datum) → listed (with_last ds d) ≡ listed ds ++ d ∷ []
listed-with_last no_items d = refl
listed-with_last (item e ds) d = ap (λ (es : List Datum). e ∷ es) (listed-with_last ds d)

-- an item is put in front of those that were put there before
pub reverse-in_front : (d : Datum) (ds es : List Datum) → reverse (d ∷ ds) ++ es ≡ reverse ds ++ d ∷ es
reverse-in_front d ds es = ap (λ (fs : List Datum). fs ++ es) (reverse_onto ds d []) ∙ append_assoc (reverse ds) (d ∷ []) es

pub at_index-none : (n : ℤ) → at_index n [] ≡ None
at_index-none (pos n) = refl
at_index-none (negsuc n) = refl

map_view-reverse_aux : (vs behind : List Value) → map view (reverse_aux vs behind) ≡ reverse_aux (map view vs) (map view behind)
map_view-reverse_aux [] behind = refl
map_view-reverse_aux (v ∷ vs) behind = map_view-reverse_aux vs (v ∷ behind)

pub map_view-reverse : (vs : List Value) → map view (reverse vs) ≡ reverse (map view vs)
map_view-reverse vs = map_view-reverse_aux vs []

pub ruleset seen = (
  value_views,
  lists,
  listed-behind_first,
  list_or_nil-empty,
  list_or_nil-full,
  vector-listed,
  listed-with_last,
  as_pair-two,
  as_pair-other,
  map_view-reverse,
  reverse-in_front,
  at_index-none,
)
