-- The commit of an attempt (the Clojure reference, Refs and Transactions). Where it meets a newer
-- version of what it set or ensured, it changes no ref. Otherwise what was commuted alone is made
-- again, of the newest values; and each ref that was set or commuted gets one version more, or, at
-- the first fault, none does. The attempt ends in each case.
use Rattle.std.specs.Prelude.{ℕ, suc, ◌+◌, List, [], ◌∷◌, ◌++◌, Bool, true, false, not, ◌&&◌, ◌||◌}
use Rattle.std.specs.List.{list_any, list_all}
use Rattle.std.specs.Prelude.{Option, None, Some, is_some, map, Result, Ok, Err, length}
use Rattle.std.specs.Prelude.{if◌then◌else◌}
use Rattle.value_data.specs.Datum.{Datum, nil, OwnerData}
use Rattle.repl_values.specs.Failure.{Failure, ◌>>=◌, broken_rule}
use Rattle.repl_values.specs.declared.rule.Rule.{Rule}
use Rattle.core_functions.specs.Names as names
use Rattle.core_functions.specs.ApplyOutcome.{ApplyOutcome, gives, fails}
use Rattle.core_functions.specs.Meaning.{meaning}
use Rattle.repl_asks.specs.Transactions.{RefNameData, ChangeData, CommuteData, CommutedData}
use Rattle.repl_asks.specs.Transactions.{IntentData, same_name, may_hold}
use Rattle.repl_asks.specs.Exchange.{verdict, committed, conflict, faulted}
use Rattle.ref_history.specs.Versioned.{Ref, is_newer, with_version}
use Rattle.ref_table.specs.Store.{Store, ref_named, newest_value, with_changed_ref, left_attempt}
use Rattle.ref_table.specs.Performed.{Performed, as_was, tells}

-- the refs that nobody else may have changed
abbrev pub guarded_refs : IntentData → List RefNameData
guarded_refs intent = map (λ c. c.name) intent.sets ++ intent.ensured

-- the refs that the intent names
abbrev pub touched_refs : IntentData → List RefNameData
touched_refs intent = guarded_refs intent ++ map (λ c. c.name) intent.commuted

abbrev pub all_there : List RefNameData → Store → Bool
all_there [] s = true
all_there (name ∷ names) s = is_some (ref_named name s) && all_there names s

abbrev pub all_fit : List ChangeData → Bool
all_fit [] = true
all_fit (c ∷ cs) = may_hold c.name.owner c.now && all_fit cs

-- each ref is set once, to its last value
abbrev pub refs_are_distinct : List RefNameData → Bool
refs_are_distinct [] = true
refs_are_distinct (name ∷ names) = not (list_any (same_name name) names) && refs_are_distinct names

-- the refs that change, each once
abbrev pub changing_refs : IntentData → List RefNameData
changing_refs intent = map (λ c. c.name) intent.sets ++ map (λ c. c.name) intent.commuted

-- each function takes the value of the ref and its arguments
abbrev pub takes_its_arguments : CommuteData → Bool
takes_its_arguments c = names.fits c.function (suc (length c.arguments))

abbrev pub all_take : List CommutedData → Bool
all_take cs = list_all (λ c. list_all takes_its_arguments c.commutes) cs

abbrev pub intent_fits : IntentData → Bool
intent_fits intent =
    all_fit intent.sets && refs_are_distinct (changing_refs intent) && all_take intent.commuted

abbrev pub is_newer_ref : ℕ → Option Ref → Bool
is_newer_ref point None = false
is_newer_ref point (Some r) = is_newer point r.versions

abbrev pub any_newer : ℕ → List RefNameData → Store → Bool
any_newer point [] s = false
any_newer point (name ∷ names) s = is_newer_ref point (ref_named name s) || any_newer point names s

-- What was commuted is made again: each function is applied to what the one before it gave, the
-- first to the newest value of the ref. What they print is dropped.

abbrev pub result_of : ApplyOutcome → Result Datum Failure
result_of (gives d text) = Ok d
result_of (fails f) = Err f

abbrev pub folded_value : List CommuteData → Datum → Result Datum Failure
folded_value [] d = Ok d
folded_value (c ∷ cs) d = result_of (meaning c.function (d ∷ c.arguments)) >>= folded_value cs

abbrev pub if_may_hold : OwnerData → Datum → Result Datum Failure
if_may_hold owner d = if may_hold owner d then Ok d else Err (broken_rule Rule.SharedRefsArePlain)

-- from what the ref has; one that is there has a value
abbrev pub folded_from : CommutedData → Option Datum → Result Datum Failure
folded_from c None = Ok nil
folded_from c (Some d) = folded_value c.commutes d >>= if_may_hold c.name.owner

-- one ref after another, up to the first fault, where this is what refs have
abbrev pub all_folded
    : (RefNameData → Option Datum) → List CommutedData → Result (List ChangeData) Failure
all_folded value [] = Ok []
all_folded value (c ∷ cs) = folded_from c (value c.name) >>= λ d.
    (all_folded value cs >>= λ changes. Ok (record { name = c.name; now = d } ∷ changes))

-- each ref that changes gets one version with this stamp
abbrev pub with_changes : ℕ → List ChangeData → Store → Store
with_changes stamp [] s = s
with_changes stamp (c ∷ cs) s = with_changes stamp cs
    (with_changed_ref c.name (with_version (record { stamp = stamp; content = c.now })) s)

abbrev pub with_raised_counter : Store → Store
with_raised_counter s =
    record s { around = record { counter = s.around.counter + 1; refs = s.around.refs } }

-- the counter rises where a ref changes
abbrev pub with_all : List ChangeData → Store → Store
with_all [] s = s
with_all (c ∷ cs) s = with_changes (s.around.counter + 1) (c ∷ cs) (with_raised_counter s)

abbrev pub concluded_commit
    : ℕ → List ChangeData → Store → Result (List ChangeData) Failure → Performed Store
concluded_commit seat sets s (Err f) = tells (verdict (faulted f)) (left_attempt seat s)
concluded_commit seat sets s (Ok changes) =
    tells (verdict committed) (left_attempt seat (with_all (sets ++ changes) s))

abbrev pub checked_commit : ℕ → IntentData → Store → Bool → Bool → Performed Store
checked_commit seat intent s false newer = as_was s None
checked_commit seat intent s true true = tells (verdict conflict) (left_attempt seat s)
checked_commit seat intent s true false =
    concluded_commit seat intent.sets s (all_folded (λ name. newest_value name s) intent.commuted)

-- at the read point of the actor's attempt
abbrev pub commit_by : ℕ → IntentData → Store → Option ℕ → Performed Store
commit_by seat intent s None = as_was s None
commit_by seat intent s (Some point) = checked_commit seat intent s
    (all_there (touched_refs intent) s && intent_fits intent)
    (any_newer point (guarded_refs intent) s)
