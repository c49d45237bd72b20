-- What comes of a call over what a tenant can see. A shared ref is not there.
use Rattle.std.proofs.Common.{ℕ, ◌+◌, ◌-◌, ◌==◌, List, [], ◌∷◌, ◌++◌, Bool, true, false, ◌&&◌, ◌||◌}
use Rattle.std.proofs.Common.{Option, None, Some, is_some, nat_lt, length, take, drop, map}
use Rattle.std.proofs.Common.{slice_get, if◌then◌else◌}
use Rattle.std.specs.Prelude.{option_map, ⊤, Result, Ok, Err}
use Rattle.value_data.specs.Datum as datum
use Rattle.value_data.specs.Datum.{Datum, OwnerData, shared, tenant}
use Rattle.repl_values.specs.Failure.{Failure}
use Rattle.repl_asks.specs.Transactions.{RefNameData, ChangeData, IntentData}
use Rattle.repl_asks.specs.Exchange as exchange
use Rattle.repl_asks.specs.Exchange.{AnswerData, done, value, reading, found, retry, verdict}
use Rattle.repl_asks.specs.Exchange.{committed, conflict}
use Rattle.ref_table.specs.Numbered as numbered
use Rattle.ref_table.specs.Numbered.{changed_at, entry, without}
use Rattle.server_rules.specs.Isolation.View.{map_entry}
use Rattle.ref_history.specs.Versioned.{RefOf, new_ref, with_version, with_failed_read, with_least}
use Rattle.ref_history.specs.Versioned.{with_most}
use Rattle.ref_table.specs.Performed.{Performed, as_was, tells}
use Rattle.ref_table.specs.Commit.{guarded_refs, touched_refs, intent_fits, all_folded}
use Rattle.ref_table.specs.Calls.{StoreCall, nothing, makes, begins, leaves_attempt, reads, counts}
use Rattle.ref_table.specs.Calls.{tells_least, tells_most, sets_least, sets_most, commits}
use Rattle.ref_table.specs.Calls.{inside, outside, told_inside, told_outside}
use Rattle.ref_table.specs.Calls.{gives_up, number_told}
use Rattle.server_rules.specs.Isolation.View.{Seen}
use Rattle.server_rules.specs.Isolation.Privacy.{IsOwned, AreOwned}

abbrev pub first : List Datum → Option Datum
first [] = None
first (d ∷ ds) = Some d

-- the newest of the first n versions ever, where it is still kept
abbrev pub readable_seen : RefOf Datum → ℕ → Option Datum
readable_seen r n = first (drop (length r.versions - n) (take (r.kept + 1) r.versions))

abbrev pub ref_seen : ℕ → OwnerData → ℕ → Seen → Option (RefOf Datum)
ref_seen t shared n s = None
ref_seen t (tenant u) n s = if u == t then slice_get s.refs n else None

abbrev pub named_seen : ℕ → RefNameData → Seen → Option (RefOf Datum)
named_seen t name s = ref_seen t name.owner name.number s

abbrev pub changed_seen_of : ℕ → OwnerData → ℕ → (RefOf Datum → RefOf Datum) → Seen → Seen
changed_seen_of t shared n f s = s
changed_seen_of t (tenant u) n f s = record {
  refs = if u == t then changed_at n f s.refs else s.refs;
  attempts = s.attempts;
}

abbrev pub changed_seen : ℕ → RefNameData → (RefOf Datum → RefOf Datum) → Seen → Seen
changed_seen t name f s = changed_seen_of t name.owner name.number f s

abbrev pub left_seen : ℕ → Seen → Seen
left_seen seat s = record { refs = s.refs; attempts = without seat s.attempts }

abbrev pub begun_seen : ℕ → Seen → Option (List ℕ) → Performed Seen
begun_seen seat s (Some ns) = as_was s None
begun_seen seat s None = tells done (record {
  refs = s.refs;
  attempts = entry seat (map (λ r. length r.versions) s.refs) ∷ s.attempts;
})

abbrev pub made_seen : ℕ → Seen → Datum → ℕ → ℕ → Performed Seen
made_seen t s d least most = tells (value (datum.ref (tenant t) (length s.refs))) (record {
  refs = s.refs ++ new_ref d least most ∷ [];
  attempts = map (map_entry (λ ns. ns ++ 1 ∷ [])) s.attempts;
})

abbrev pub read_at_seen : ℕ → ℕ → RefNameData → Seen → Option Datum → Performed Seen
read_at_seen t seat name s (Some d) = tells (reading (found d)) s
read_at_seen t seat name s None =
    tells (reading retry) (left_seen seat (changed_seen t name with_failed_read s))

abbrev pub read_in_seen : ℕ → ℕ → RefNameData → Seen → RefOf Datum → Option ℕ → Performed Seen
read_in_seen t seat name s r None = as_was s None
read_in_seen t seat name s r (Some n) = read_at_seen t seat name s (readable_seen r n)

abbrev pub read_by_seen
    : ℕ → ℕ → RefNameData → Seen → Option (List ℕ) → Option (RefOf Datum) → Performed Seen
read_by_seen t seat name s ns None = as_was s None
read_by_seen t seat name s None (Some r) =
    as_was s (option_map (λ d. reading (found d)) (first r.versions))
read_by_seen t seat name s (Some ns) (Some r) =
    read_in_seen t seat name s r (slice_get ns name.number)

abbrev pub bound_seen
    : ℕ → RefNameData → OwnerData → (RefOf Datum → RefOf Datum) → Seen → Option (RefOf Datum)
    → Performed Seen
bound_seen t name owner f s None = as_was s None
bound_seen t name shared f s (Some r) = as_was s None
bound_seen t name (tenant u) f s (Some r) =
    tells (value (datum.ref (tenant u) name.number)) (changed_seen t name f s)

abbrev pub all_there_seen : ℕ → List RefNameData → Seen → Bool
all_there_seen t [] s = true
all_there_seen t (name ∷ names) s = is_some (named_seen t name s) && all_there_seen t names s

abbrev pub is_newer_seen : Option ℕ → Option (RefOf Datum) → Bool
is_newer_seen n None = false
is_newer_seen None (Some r) = false
is_newer_seen (Some n) (Some r) = nat_lt n (length r.versions)

abbrev pub any_newer_seen : ℕ → List ℕ → List RefNameData → Seen → Bool
any_newer_seen t ns [] s = false
any_newer_seen t ns (name ∷ names) s =
    is_newer_seen (slice_get ns name.number) (named_seen t name s) || any_newer_seen t ns names s

abbrev pub with_changes_seen : ℕ → List ChangeData → Seen → Seen
with_changes_seen t [] s = s
with_changes_seen t (c ∷ cs) s =
    with_changes_seen t cs (changed_seen t c.name (with_version c.now) s)

abbrev pub value_in_seen : Option (RefOf Datum) → Option Datum
value_in_seen None = None
value_in_seen (Some r) = first r.versions

abbrev pub value_seen : ℕ → Seen → RefNameData → Option Datum
value_seen t s name = value_in_seen (named_seen t name s)

abbrev pub concluded_seen
    : ℕ → ℕ → List ChangeData → Seen → Result (List ChangeData) Failure → Performed Seen
concluded_seen t seat sets s (Err f) = tells (verdict (exchange.faulted f)) (left_seen seat s)
concluded_seen t seat sets s (Ok changes) =
    tells (verdict committed) (left_seen seat (with_changes_seen t (sets ++ changes) s))

abbrev pub checked_seen : ℕ → ℕ → IntentData → Seen → Bool → Bool → Performed Seen
checked_seen t seat intent s false newer = as_was s None
checked_seen t seat intent s true true = tells (verdict conflict) (left_seen seat s)
checked_seen t seat intent s true false =
    concluded_seen t seat intent.sets s (all_folded (value_seen t s) intent.commuted)

abbrev pub commit_seen : ℕ → ℕ → IntentData → Seen → Option (List ℕ) → Performed Seen
commit_seen t seat intent s None = as_was s None
commit_seen t seat intent s (Some ns) = checked_seen t seat intent s
    (all_there_seen t (touched_refs intent) s && intent_fits intent)
    (any_newer_seen t ns (guarded_refs intent) s)

abbrev pub given_up_seen : ℕ → Seen → Option AnswerData → Performed Seen
given_up_seen seat s None = as_was s None
given_up_seen seat s (Some answer) = tells done (left_seen seat s)

abbrev pub performed_seen : ℕ → Seen → StoreCall → Performed Seen
performed_seen t s nothing = tells done s
performed_seen t s (makes d least most) = made_seen t s d least most
performed_seen t s (begins seat) = begun_seen seat s (numbered.part_under seat s.attempts)
performed_seen t s (leaves_attempt seat) = tells done (left_seen seat s)
performed_seen t s (reads seat name) =
    read_by_seen t seat name s (numbered.part_under seat s.attempts) (named_seen t name s)
performed_seen t s (counts seat name) =
    as_was s (option_map (λ r. number_told r.kept) (named_seen t name s))
performed_seen t s (tells_least name) =
    as_was s (option_map (λ r. number_told r.least) (named_seen t name s))
performed_seen t s (tells_most name) =
    as_was s (option_map (λ r. number_told r.most) (named_seen t name s))
performed_seen t s (sets_least name n) =
    bound_seen t name name.owner (with_least n) s (named_seen t name s)
performed_seen t s (sets_most name n) =
    bound_seen t name name.owner (with_most n) s (named_seen t name s)
performed_seen t s (commits seat intent) =
    commit_seen t seat intent s (numbered.part_under seat s.attempts)
performed_seen t s (inside seat) =
    as_was s (told_inside (numbered.part_under seat s.attempts))
performed_seen t s (outside seat) =
    as_was s (told_outside (numbered.part_under seat s.attempts))
performed_seen t s (gives_up seat call) = given_up_seen seat s (performed_seen t s call).told

-- the call names no shared ref
abbrev pub IsPrivateCall : StoreCall → Type 0
IsPrivateCall (reads seat name) = IsOwned name.owner
IsPrivateCall (counts seat name) = IsOwned name.owner
IsPrivateCall (tells_least name) = IsOwned name.owner
IsPrivateCall (tells_most name) = IsOwned name.owner
IsPrivateCall (sets_least name n) = IsOwned name.owner
IsPrivateCall (sets_most name n) = IsOwned name.owner
IsPrivateCall (commits seat intent) = AreOwned (touched_refs intent)
IsPrivateCall (gives_up seat call) = IsPrivateCall call
IsPrivateCall nothing = ⊤
IsPrivateCall (makes d least most) = ⊤
IsPrivateCall (begins seat) = ⊤
IsPrivateCall (inside seat) = ⊤
IsPrivateCall (outside seat) = ⊤
IsPrivateCall (leaves_attempt seat) = ⊤
