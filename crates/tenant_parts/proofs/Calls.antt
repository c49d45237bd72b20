-- What calls of the refs leave as it was.
use Rattle.std.proofs.Common.{◌≡◌, ◌+◌, ℕ, List, [], ◌∷◌, ◌++◌, Bool, true, false, ◌&&◌, Option}
use Rattle.std.proofs.Common.{None, Some, refl, sym, ap, ◌∙◌, ◌==◌, if◌then◌else◌}
use Rattle.std.specs.Prelude.{option_map, Result, Ok, Err}
use Rattle.value_data.specs.Datum.{Datum, OwnerData, shared, tenant}
use Rattle.repl_asks.specs.Transactions.{RefNameData, ChangeData, IntentData}
use Rattle.repl_values.specs.Failure.{Failure}
use Rattle.repl_asks.specs.Exchange as exchange
use Rattle.repl_asks.specs.Exchange.{AnswerData, reading, found, retry, verdict}
use Rattle.ref_table.specs.Numbered as numbered
use Rattle.ref_table.specs.Numbered.{without}
use Rattle.ref_history.specs.Versioned.{Ref, with_failed_read, with_least, with_most, with_version}
use Rattle.ref_history.specs.Versioned.{readable, newest}
use Rattle.ref_table.specs.Store.{Store, ref_named, newest_value, changed_of, with_changed_ref}
use Rattle.ref_table.specs.Store.{left_attempt}
use Rattle.ref_table.specs.Commit.{guarded_refs, touched_refs, all_there, intent_fits, any_newer}
use Rattle.ref_table.specs.Commit.{all_folded, with_changes, with_raised_counter, with_all}
use Rattle.ref_table.specs.Commit.{concluded_commit, checked_commit, commit_by}
use Rattle.ref_table.specs.Calls.{StoreCall, nothing, makes, begins, leaves_attempt, reads, counts}
use Rattle.ref_table.specs.Calls.{inside, outside}
use Rattle.ref_table.specs.Calls.{tells_least, tells_most, sets_least, sets_most, commits}
use Rattle.server_rules.specs.Asking.{may_send_call}
use Rattle.ref_table.specs.Performed.{as_was}
use Rattle.ref_table.specs.Calls.{gives_up, performed_begin, read_at, read_by, performed_bound_set}
use Rattle.ref_table.specs.Calls.{given_up, performed}

-- the same tenant with the same attempts
pub record Same (old new : Store) : Type 0 where
  pub tenant : new.tenant ≡ old.tenant
  pub points : new.mine.points ≡ old.mine.points

same-all : (s : Store) → Same s s
same-all s = record { tenant = refl; points = refl }

same-then : (a b c : Store) → Same a b → Same b c → Same a c
same-then a b c first more = record {
  tenant = more.tenant ∙ first.tenant;
  points = more.points ∙ first.points;
}

changed_of-same : (o : OwnerData) (n : ℕ) (f : Ref → Ref) (s : Store) → Same s (changed_of o n f s)
changed_of-same shared n f s = record { tenant = refl; points = refl }
changed_of-same (tenant t) n f s = record { tenant = refl; points = refl }

pub with_changed_ref-same : (name : RefNameData) (f : Ref → Ref) (s : Store) → Same s (with_changed_ref name f s)
with_changed_ref-same name f s = changed_of-same name.owner name.number f s

changes-same : (stamp : ℕ) (cs : List ChangeData) (s : Store) → Same s (with_changes stamp cs s)
changes-same stamp [] s = same-all s
changes-same stamp (c ∷ cs) s =
    let f : Ref → Ref = with_version (record { stamp = stamp; content = c.now }) in
    same-then s (with_changed_ref c.name f s) (with_changes stamp cs (with_changed_ref c.name f s))
    (with_changed_ref-same c.name f s) (changes-same stamp cs (with_changed_ref c.name f s))

with_all-same : (cs : List ChangeData) (s : Store) → Same s (with_all cs s)
with_all-same [] s = same-all s
with_all-same (c ∷ cs) s =
    let more = changes-same (s.around.counter + 1) (c ∷ cs) (with_raised_counter s) in
    record { tenant = more.tenant; points = more.points }

-- The tenant

performed_begin-tenant : (seat : ℕ) (s : Store) (o : Option ℕ) → (performed_begin seat s o).store.tenant ≡ s.tenant
performed_begin-tenant seat s None = refl
performed_begin-tenant seat s (Some point) = refl

read-tenant : (seat : ℕ) (name : RefNameData) (s : Store) (point : Option ℕ) (o : Option Ref)
    → (read_by seat name s point o).store.tenant ≡ s.tenant
read-tenant seat name s point None = refl
read-tenant seat name s None (Some r) = refl
read-tenant seat name s (Some point) (Some r) = by (readable point r) where
  by : (o : Option Datum) → (read_at seat name s o).store.tenant ≡ s.tenant
  by (Some d) = refl
  by None = (with_changed_ref-same name with_failed_read s).tenant

bound-tenant : (name : RefNameData) (owner : OwnerData) (f : Ref → Ref) (s : Store) (o : Option Ref)
    → (performed_bound_set name owner f s o).store.tenant ≡ s.tenant
bound-tenant name owner f s None = refl
bound-tenant name shared f s (Some r) = refl
bound-tenant name (tenant t) f s (Some r) = (with_changed_ref-same name f s).tenant

concluded_commit-tenant : (seat : ℕ) (sets : List ChangeData) (s : Store)
    (folds : Result (List ChangeData) Failure)
    → (concluded_commit seat sets s folds).store.tenant ≡ s.tenant
concluded_commit-tenant seat sets s (Err f) = refl
concluded_commit-tenant seat sets s (Ok changes) = (with_all-same (sets ++ changes) s).tenant

checked_commit-tenant : (seat : ℕ) (intent : IntentData) (s : Store) (fit newer : Bool)
    → (checked_commit seat intent s fit newer).store.tenant ≡ s.tenant
checked_commit-tenant seat intent s false newer = refl
checked_commit-tenant seat intent s true true = refl
checked_commit-tenant seat intent s true false =
    concluded_commit-tenant seat intent.sets s (all_folded (λ name. newest_value name s) intent.commuted)

commit-tenant : (seat : ℕ) (intent : IntentData) (s : Store) (o : Option ℕ)
    → (commit_by seat intent s o).store.tenant ≡ s.tenant
commit-tenant seat intent s None = refl
commit-tenant seat intent s (Some point) = checked_commit-tenant seat intent s
    (all_there (touched_refs intent) s && intent_fits intent) (any_newer point (guarded_refs intent) s)

given-tenant : (seat : ℕ) (s : Store) (o : Option AnswerData)
    → (given_up seat s o).store.tenant ≡ s.tenant
given-tenant seat s None = refl
given-tenant seat s (Some answer) = refl

pub performed-tenant : (s : Store) (call : StoreCall) → (performed s call).store.tenant ≡ s.tenant
performed-tenant s nothing = refl
performed-tenant s (makes d least most) = refl
performed-tenant s (begins seat) = performed_begin-tenant seat s (numbered.part_under seat s.mine.points)
performed-tenant s (leaves_attempt seat) = refl
performed-tenant s (reads seat name) =
    read-tenant seat name s (numbered.part_under seat s.mine.points) (ref_named name s)
performed-tenant s (counts seat name) = refl
performed-tenant s (inside seat) = refl
performed-tenant s (outside seat) = refl
performed-tenant s (tells_least name) = refl
performed-tenant s (tells_most name) = refl
performed-tenant s (sets_least name n) = bound-tenant name name.owner (with_least n) s (ref_named name s)
performed-tenant s (sets_most name n) = bound-tenant name name.owner (with_most n) s (ref_named name s)
performed-tenant s (commits seat intent) =
    commit-tenant seat intent s (numbered.part_under seat s.mine.points)
performed-tenant s (gives_up seat call) = given-tenant seat s (performed s call).told

-- What is told of nothing

pub none-some : {A : Type 0} {x : A} → ◌≡◌ {A = Option A} None (Some x) → ⊥
none-some e = cc

performed_begin-untold : (seat : ℕ) (s : Store) (o : Option ℕ) → None ≡ (performed_begin seat s o).told
    → (performed_begin seat s o).store ≡ s
performed_begin-untold seat s None e = absurd (none-some e)
performed_begin-untold seat s (Some point) e = refl

read-untold : (seat : ℕ) (name : RefNameData) (s : Store) (point : Option ℕ) (o : Option Ref)
    → None ≡ (read_by seat name s point o).told → (read_by seat name s point o).store ≡ s
read-untold seat name s point None e = refl
read-untold seat name s None (Some r) e = refl
read-untold seat name s (Some point) (Some r) e = by (readable point r) e where
  by : (o : Option Datum) → None ≡ (read_at seat name s o).told → (read_at seat name s o).store ≡ s
  by (Some d) e = refl
  by None e = absurd (none-some e)

bound-untold : (name : RefNameData) (owner : OwnerData) (f : Ref → Ref) (s : Store) (o : Option Ref)
    → None ≡ (performed_bound_set name owner f s o).told → (performed_bound_set name owner f s o).store ≡ s
bound-untold name owner f s None e = refl
bound-untold name shared f s (Some r) e = refl
bound-untold name (tenant t) f s (Some r) e = absurd (none-some e)

concluded_commit-untold : (seat : ℕ) (sets : List ChangeData) (s : Store)
    (folds : Result (List ChangeData) Failure) → None ≡ (concluded_commit seat sets s folds).told
    → (concluded_commit seat sets s folds).store ≡ s
concluded_commit-untold seat sets s (Err f) e = absurd (none-some e)
concluded_commit-untold seat sets s (Ok changes) e = absurd (none-some e)

checked_commit-untold : (seat : ℕ) (intent : IntentData) (s : Store) (fit newer : Bool)
    → None ≡ (checked_commit seat intent s fit newer).told
    → (checked_commit seat intent s fit newer).store ≡ s
checked_commit-untold seat intent s false newer e = refl
checked_commit-untold seat intent s true true e = absurd (none-some e)
checked_commit-untold seat intent s true false e =
    concluded_commit-untold seat intent.sets s (all_folded (λ name. newest_value name s) intent.commuted) e

commit-untold : (seat : ℕ) (intent : IntentData) (s : Store) (o : Option ℕ)
    → None ≡ (commit_by seat intent s o).told → (commit_by seat intent s o).store ≡ s
commit-untold seat intent s None e = refl
commit-untold seat intent s (Some point) e = checked_commit-untold seat intent s
    (all_there (touched_refs intent) s && intent_fits intent) (any_newer point (guarded_refs intent) s) e

given-untold : (seat : ℕ) (s : Store) (o : Option AnswerData)
    → None ≡ (given_up seat s o).told → (given_up seat s o).store ≡ s
given-untold seat s None e = refl
given-untold seat s (Some answer) e = absurd (none-some e)

-- where nothing is told, all is as it was
pub untold-stays : (s : Store) (call : StoreCall) → None ≡ (performed s call).told
    → (performed s call).store ≡ s
untold-stays s nothing e = absurd (none-some e)
untold-stays s (makes d least most) e = absurd (none-some e)
untold-stays s (begins seat) e = performed_begin-untold seat s (numbered.part_under seat s.mine.points) e
untold-stays s (leaves_attempt seat) e = absurd (none-some e)
untold-stays s (reads seat name) e =
    read-untold seat name s (numbered.part_under seat s.mine.points) (ref_named name s) e
untold-stays s (counts seat name) e = refl
untold-stays s (inside seat) e = refl
untold-stays s (outside seat) e = refl
untold-stays s (tells_least name) e = refl
untold-stays s (tells_most name) e = refl
untold-stays s (sets_least name n) e = bound-untold name name.owner (with_least n) s (ref_named name s) e
untold-stays s (sets_most name n) e = bound-untold name name.owner (with_most n) s (ref_named name s) e
untold-stays s (commits seat intent) e =
    commit-untold seat intent s (numbered.part_under seat s.mine.points) e
untold-stays s (gives_up seat call) e = given-untold seat s (performed s call).told e

-- Reads

pub read-found : (s : Store) (seat : ℕ) (name : RefNameData) (d : Datum)
    → Some (reading (found d)) ≡ (performed s (reads seat name)).told
    → (performed s (reads seat name)).store ≡ s
read-found s seat name d e = by (numbered.part_under seat s.mine.points) (ref_named name s) e where
  at : (o : Option Datum) → Some (reading (found d)) ≡ (read_at seat name s o).told
      → (read_at seat name s o).store ≡ s
  at (Some x) e = refl
  at None e = absurd (cc)

  by : (point : Option ℕ) (o : Option Ref)
      → Some (reading (found d)) ≡ (read_by seat name s point o).told
      → (read_by seat name s point o).store ≡ s
  by point None e = refl
  by None (Some r) e = refl
  by (Some point) (Some r) e = at (readable point r) e

-- the attempt that is to be made again is over
pub read-retried : (s : Store) (seat : ℕ) (name : RefNameData)
    → Some (reading retry) ≡ (performed s (reads seat name)).told
    → (performed s (reads seat name)).store.mine.points ≡ without seat s.mine.points
read-retried s seat name e = by (numbered.part_under seat s.mine.points) (ref_named name s) e where
  never : (o : Option Datum) → Some (reading retry) ≡ option_map (λ d. reading (found d)) o → ⊥
  never None e = none-some (sym e)
  never (Some d) e = cc

  at : (o : Option Datum) → Some (reading retry) ≡ (read_at seat name s o).told
      → (read_at seat name s o).store.mine.points ≡ without seat s.mine.points
  at (Some x) e = absurd (cc)
  at None e = ap (without seat) (with_changed_ref-same name with_failed_read s).points

  by : (point : Option ℕ) (o : Option Ref)
      → Some (reading retry) ≡ (read_by seat name s point o).told
      → (read_by seat name s point o).store.mine.points ≡ without seat s.mine.points
  by point None e = absurd (none-some (sym e))
  by None (Some r) e = absurd (never (newest r.versions) e)
  by (Some point) (Some r) e = at (readable point r) e

-- Commits

pub commit-told : (s : Store) (seat : ℕ) (intent : IntentData) (v : AnswerData)
    → Some v ≡ (performed s (commits seat intent)).told
    → (performed s (commits seat intent)).store.mine.points ≡ without seat s.mine.points
commit-told s seat intent v e = by (numbered.part_under seat s.mine.points) e where
  at : (fit newer : Bool) → Some v ≡ (checked_commit seat intent s fit newer).told
      → (checked_commit seat intent s fit newer).store.mine.points ≡ without seat s.mine.points
  at false newer e = absurd (none-some (sym e))
  at true true e = refl
  at true false e = left (all_folded (λ name. newest_value name s) intent.commuted) where
    left : (folds : Result (List ChangeData) Failure)
        → (concluded_commit seat intent.sets s folds).store.mine.points ≡ without seat s.mine.points
    left (Err f) = refl
    left (Ok changes) = ap (without seat) (with_all-same (intent.sets ++ changes) s).points

  by : (o : Option ℕ) → Some v ≡ (commit_by seat intent s o).told
      → (commit_by seat intent s o).store.mine.points ≡ without seat s.mine.points
  by None e = absurd (none-some (sym e))
  by (Some point) e = at (all_there (touched_refs intent) s && intent_fits intent)
      (any_newer point (guarded_refs intent) s) e

-- a fault of what was commuted ends the attempt, and no more
pub commit-faulted : (s : Store) (seat : ℕ) (intent : IntentData) (f : Failure)
    → Some (verdict (exchange.faulted f)) ≡ (performed s (commits seat intent)).told
    → (performed s (commits seat intent)).store ≡ left_attempt seat s
commit-faulted s seat intent f e = by (numbered.part_under seat s.mine.points) e where
  ended : (folds : Result (List ChangeData) Failure)
      → Some (verdict (exchange.faulted f)) ≡ (concluded_commit seat intent.sets s folds).told
      → (concluded_commit seat intent.sets s folds).store ≡ left_attempt seat s
  ended (Err g) e = refl
  ended (Ok changes) e = absurd (cc)

  at : (fit newer : Bool)
      → Some (verdict (exchange.faulted f)) ≡ (checked_commit seat intent s fit newer).told
      → (checked_commit seat intent s fit newer).store ≡ left_attempt seat s
  at false newer e = absurd (none-some (sym e))
  at true true e = refl
  at true false e = ended (all_folded (λ name. newest_value name s) intent.commuted) e

  by : (o : Option ℕ) → Some (verdict (exchange.faulted f)) ≡ (commit_by seat intent s o).told
      → (commit_by seat intent s o).store ≡ left_attempt seat s
  by None e = absurd (none-some (sym e))
  by (Some point) e = at (all_there (touched_refs intent) s && intent_fits intent)
      (any_newer point (guarded_refs intent) s) e

-- Bounds that are set

pub bound-points : (name : RefNameData) (owner : OwnerData) (f : Ref → Ref) (s : Store)
    (o : Option Ref) → (performed_bound_set name owner f s o).store.mine.points ≡ s.mine.points
bound-points name owner f s None = refl
bound-points name shared f s (Some r) = refl
bound-points name (tenant t) f s (Some r) = (with_changed_ref-same name f s).points

-- whether something may be sent is told of no ref
pub send-told : (seat : ℕ) (s : Store)
    → as_was s (performed s (may_send_call seat)).told ≡ performed s (may_send_call seat)
send-told seat s = by (seat == 0) where
  call_by : Bool → StoreCall
  call_by b = if b then nothing else inside seat

  by : (b : Bool) → as_was s (performed s (call_by b)).told ≡ performed s (call_by b)
  by true = refl
  by false = refl
