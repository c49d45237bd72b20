-- What commits make of refs, over the steps of a server (the Clojure reference, Refs and
-- Transactions): each ref's newest value is the fold of the changes that were committed, in order.
use Rattle.std.specs.Prelude.{◌≡◌, ℕ, ◌==◌, List, [], ◌∷◌, Bool, false, Option, None, Some}
use Rattle.std.specs.Prelude.{option_and_then, slice_get, if◌then◌else◌, Result, Ok, Err}
use Rattle.std.specs.List.{list_any}
use Rattle.value_data.specs.Datum as datum
use Rattle.value_data.specs.Datum.{Datum, OwnerData, shared, tenant}
use Rattle.repl_values.specs.Failure.{Failure}
use Rattle.repl_asks.specs.Transactions.{RefNameData, ChangeData, CommutedData, IntentData}
use Rattle.repl_asks.specs.Transactions.{same_name}
use Rattle.repl_asks.specs.Exchange.{AskData, AnswerData, new_ref, commit, value, verdict}
use Rattle.repl_asks.specs.Exchange.{committed}
use Rattle.ref_table.specs.Numbered as numbered
use Rattle.ref_history.specs.Versioned.{Ref, newest}
use Rattle.ref_table.specs.Commit.{guarded_refs, is_newer_ref, folded_from}
use Rattle.server_rules.specs.Ground.{Ground}
use Rattle.server_rules.specs.Tenant.{seat_of}
use Rattle.server_rules.specs.Plan.{StepAnswer, asks_for, ask_answered}
use Rattle.server_rules.specs.Machine.World.{TenantData, World, Step, does, closes, Stepped}
use Rattle.server_rules.specs.Machine.World.{accepted}
use Rattle.server_rules.specs.Machine.World.{refused, step, world_or, run}
use Rattle.server_rules.specs.declared.actor.Actor.{Actor}
use Rattle.repl_core.specs.Standing.{open_in}

-- Refs of a server

abbrev pub kept_refs : Option TenantData → List Ref
kept_refs None = []
kept_refs (Some kept) = kept.mine.refs

abbrev pub refs_in : OwnerData → World → List Ref
refs_in shared w = w.around.refs
refs_in (tenant t) w = kept_refs (open_in t w)

abbrev pub ref_in_world : RefNameData → World → Option Ref
ref_in_world name w = slice_get (refs_in name.owner w) name.number

abbrev pub newest_in : RefNameData → World → Option Datum
newest_in name w = option_and_then (λ r. newest r.versions) (ref_in_world name w)

-- A commit that was answered so met no version that is newer than its read point, of a ref that it
-- set or ensured

abbrev pub point_in : ℕ → Actor → World → Option ℕ
point_in t a w =
    option_and_then (λ kept. numbered.part_under (seat_of a) kept.mine.points) (open_in t w)

pub record MetNoNewer (w : World) (t : ℕ) (a : Actor) (intent : IntentData) : Type 0 where
  pub point : ℕ
  pub began : point_in t a w ≡ Some point
  pub none_newer : list_any (λ name. is_newer_ref point (ref_in_world name w))
      (guarded_refs intent) ≡ false

abbrev pub CommittedMetNoNewer : Type 0
CommittedMetNoNewer =
    (g : Ground) (w after : World) (t : ℕ) (a : Actor) (intent : IntentData)
    → step g w (does t (asks_for a (commit intent)))
    ≡ accepted after (ask_answered (verdict committed))
    → MetNoNewer w t a intent

-- What a step gives a ref, that had a value or none before

abbrev pub last_set : RefNameData → List ChangeData → Option Datum → Option Datum
last_set name [] before = before
last_set name (c ∷ cs) before =
    last_set name cs (if same_name name c.name then Some c.now else before)

-- what a fold came to; where it is a fault nothing is committed, and all stays
abbrev pub folded_or : Option Datum → Result Datum Failure → Option Datum
folded_or before (Ok d) = Some d
folded_or before (Err f) = before

-- a ref that was commuted gets the fold of its commutes over what it had
abbrev pub last_commuted : RefNameData → List CommutedData → Option Datum → Option Datum
last_commuted name [] before = before
last_commuted name (c ∷ cs) before = last_commuted name cs
    (if same_name name c.name then folded_or before (folded_from c before) else before)

-- whether the value is the ref of this name
abbrev pub is_ref_named : RefNameData → Datum → Bool
is_ref_named name (datum.ref owner n) = same_name name (record { owner = owner; number = n })
is_ref_named name _ = false

abbrev pub given_by : RefNameData → AskData → AnswerData → Option Datum → Option Datum
given_by name (commit intent) (verdict committed) before =
    last_commuted name intent.commuted (last_set name intent.sets before)
given_by name (new_ref d least most) (value made) before =
    if is_ref_named name made then Some d else before
given_by name _ _ before = before

-- whether the tenant's refs go with it
abbrev pub goes_with : ℕ → OwnerData → Bool
goes_with t shared = false
goes_with t (tenant u) = u == t

abbrev pub newest_after : RefNameData → Step → StepAnswer → Option Datum → Option Datum
newest_after name (does t (asks_for a ask)) (ask_answered answer) before =
    given_by name ask answer before
newest_after name (closes t) _ before = if goes_with t name.owner then None else before
newest_after name _ _ before = before

abbrev pub newest_behind : RefNameData → Step → Stepped → Option Datum → Option Datum
newest_behind name s (accepted w answer) before = newest_after name s answer before
newest_behind name s (refused why) before = before

abbrev pub newest_through : RefNameData → Ground → World → List Step → Option Datum → Option Datum
newest_through name g w [] before = before
newest_through name g w (s ∷ ss) before =
    newest_through name g (world_or w (step g w s)) ss (newest_behind name s (step g w s) before)

abbrev pub NewestIsTheFoldOfWhatWasCommitted : Type 0
NewestIsTheFoldOfWhatWasCommitted =
    (g : Ground) (w : World) (steps : List Step) (name : RefNameData)
    → newest_in name (run g w steps) ≡ newest_through name g w steps (newest_in name w)
