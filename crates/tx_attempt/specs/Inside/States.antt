-- What is kept of each ref, seen as data.
use Rattle.std.specs.Prelude.{List, [], ◌∷◌, ◌++◌, Bool, true, false, Option, None, Some, map}
use Rattle.std.specs.Prelude.{if◌then◌else◌, option_map}
use Rattle.std.specs.Option.{option_map_or}
use Rattle.std.specs.declared.cmp.Ordering.{Ordering}
use Rattle.std.specs.BTreeMap.{get}
use Rattle.value_data.specs.Datum.{Datum}
use Rattle.value_data.specs.Inside.View.{view}
use Rattle.repl_asks.specs.Transactions.{RefNameData, ChangeData, CommuteData, CommutedData}
use Rattle.repl_asks.specs.Transactions.{same_name}
use Rattle.repl_asks.specs.Inside.View.{commute_view}
use Rattle.tx_attempt.specs.Inside.Keys.{key_of}
use Rattle.tx_attempt.specs.declared.key.Key.{Key}
use Rattle.tx_attempt.specs.declared.state.Mark.{Mark}
use Rattle.tx_attempt.specs.declared.state.RefState.{RefState}
use Rattle.tx_attempt.specs.declared.states.RefStates.{RefStates}

-- the value of a ref, if it was named, its commutes, and what was done to it
pub record RefStateData : Type 0 where
  pub value : Option Datum
  pub commutes : List CommuteData
  pub is_set : Bool
  pub is_ensured : Bool
  pub is_commuted : Bool

-- of a ref that was not named
abbrev pub unnamed : RefStateData
unnamed = record {
  value = None;
  commutes = [];
  is_set = false;
  is_ensured = false;
  is_commuted = false;
}

abbrev pub ref_state_view : RefState → RefStateData
ref_state_view s = record {
  value = Some (view s.value);
  commutes = map commute_view s.commutes.items;
  is_set = s.is_set;
  is_ensured = s.is_ensured;
  is_commuted = s.is_commuted;
}

abbrev pub States : Type 0
States = RefNameData → RefStateData

unfoldable pub states_of : (Key → Key → Ordering) → RefStates → States
states_of order s name = option_map_or ref_state_view (get order s.by_key (key_of name)) unnamed

-- this ref has this state, the others have theirs
abbrev pub with_ref_state : RefNameData → RefStateData → States → States
with_ref_state name s all n = if same_name name n then s else all n

-- one more thing was done to a ref
abbrev pub marked : Mark → RefStateData → RefStateData
marked Mark.Read s = s
marked Mark.Set s = record s { is_set = true }
marked Mark.Ensure s = record s { is_ensured = true }

abbrev pub is_marked : Mark → RefStateData → Bool
is_marked Mark.Read s = true
is_marked Mark.Set s = s.is_set
is_marked Mark.Ensure s = s.is_ensured

abbrev pub has_value : Datum → RefStateData → RefStateData
has_value d s = record s { value = Some d }

abbrev pub has_commute : CommuteData → RefStateData → RefStateData
has_commute c s = record s { commutes = s.commutes ++ c ∷ []; is_commuted = true }

-- what is to be committed of a ref, if it was named
abbrev pub change_in : States → RefNameData → Option ChangeData
change_in all name = option_map (λ d. record { name = name; now = d }) (all name).value

abbrev pub commuted_in : States → RefNameData → Option CommutedData
commuted_in all name =
    option_map (λ d. record { name = name; commutes = (all name).commutes }) (all name).value
