-- What an attempt at a transaction does with refs, what it has of them then, and what it wants
-- committed (the Clojure reference, Refs and Transactions).
use Rattle.std.specs.Prelude.{List, [], ◌∷◌, ◌++◌, Bool, not, Option, None, Some, option_map}
use Rattle.std.specs.Prelude.{filter, filter_map, map, if◌then◌else◌}
use Rattle.std.specs.List.{list_any}
use Rattle.value_data.specs.Datum.{Datum}
use Rattle.repl_asks.specs.Transactions.{RefNameData, ChangeData, CommuteData, CommutedData}
use Rattle.repl_asks.specs.Transactions.{IntentData, same_name}
use Rattle.repl_asks.specs.Sends.{SendingData}

pub data AccessData : Type 0 where
  -- a ref was read, and this was its value
  got : RefNameData → Datum → AccessData
  -- a ref was set to this value
  put : RefNameData → Datum → AccessData
  -- a function was applied to the value of a ref, and gave this
  commuted : RefNameData → CommuteData → Datum → AccessData
  -- nobody else is to change a ref, and this was its value
  ensured : RefNameData → Datum → AccessData
  -- this is sent to an agent, once the attempt is committed
  sent : SendingData → AccessData

abbrev pub with_now : RefNameData → Datum → Option ChangeData
with_now name d = Some (record { name = name; now = d })

-- the ref that an access names, with its value; what is sent names none
abbrev pub value_accessed : AccessData → Option ChangeData
value_accessed (got n d) = with_now n d
value_accessed (put n d) = with_now n d
value_accessed (commuted n c d) = with_now n d
value_accessed (ensured n d) = with_now n d
value_accessed (sent s) = None

-- What an attempt has.
pub record AttemptData : Type 0 where
  -- the value of each ref that it named
  pub value : RefNameData → Option Datum
  -- what it applied to the value of each ref, in order
  pub commutes : RefNameData → List CommuteData
  -- the refs that it set, each once, in the order in which they were first set
  pub sets : List RefNameData
  -- those that it ensured, and those that it commuted, likewise
  pub ensured : List RefNameData
  pub commuted : List RefNameData
  -- what it sends, in order
  pub sends : List SendingData

-- before its first access
abbrev pub nothing_noted : AttemptData
nothing_noted = record {
  value = λ n. None;
  commutes = λ n. [];
  sets = [];
  ensured = [];
  commuted = [];
  sends = [];
}

abbrev pub is_among : RefNameData → List RefNameData → Bool
is_among name names = list_any (same_name name) names

-- these names and this one, which is not there twice
abbrev pub with_name : RefNameData → List RefNameData → List RefNameData
with_name name names = if is_among name names then names else names ++ name ∷ []

-- the value of a ref in the attempt is that of the last access that named it
abbrev pub with_ref_value : RefNameData → Datum → AttemptData → AttemptData
with_ref_value name d a = record a { value = λ n. if same_name name n then Some d else a.value n }

abbrev pub with_commute : RefNameData → CommuteData → AttemptData → AttemptData
with_commute name c a = record a {
  commutes = λ n. if same_name name n then a.commutes n ++ c ∷ [] else a.commutes n;
  commuted = with_name name a.commuted;
}

-- one access more
unfoldable pub noted : AccessData → AttemptData → AttemptData
noted (got n d) a = with_ref_value n d a
noted (put n d) a = with_ref_value n d (record a { sets = with_name n a.sets })
noted (commuted n c d) a = with_ref_value n d (with_commute n c a)
noted (ensured n d) a = with_ref_value n d (record a { ensured = with_name n a.ensured })
noted (sent s) a = record a { sends = a.sends ++ s ∷ [] }

unfoldable pub attempt_value : RefNameData → AttemptData → Option Datum
attempt_value name a = a.value name

-- a ref that was commuted is set no more
unfoldable pub is_commuted : RefNameData → AttemptData → Bool
is_commuted name a = is_among name a.commuted

-- a ref gets the value that it has in the attempt
abbrev pub change_of : AttemptData → RefNameData → Option ChangeData
change_of a name = option_map (λ d. record { name = name; now = d }) (a.value name)

abbrev pub commutes_of : AttemptData → RefNameData → CommutedData
commutes_of a name = record { name = name; commutes = a.commutes name }

-- What the attempt wants committed: each ref that was set, with its value; those that were ensured;
-- what was applied to each that was commuted and not set; and what it sends.
unfoldable pub intent_of : AttemptData → IntentData
intent_of a = record {
  sets = filter_map (change_of a) a.sets;
  ensured = a.ensured;
  commuted = map (commutes_of a) (filter (λ name. not (is_among name a.sets)) a.commuted);
  sends = a.sends;
}
