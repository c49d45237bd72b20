-- What a step may ask of the refs, and what comes of it.
use Rattle.std.specs.Prelude.{ℕ, pos, [], ◌∷◌, ◌++◌, length, Option, None, Some}
use Rattle.std.specs.Prelude.{option_map}
use Rattle.value_data.specs.Datum as datum
use Rattle.value_data.specs.Datum.{Datum, OwnerData, shared, tenant}
use Rattle.repl_asks.specs.Transactions.{RefNameData, IntentData}
use Rattle.repl_asks.specs.Exchange.{AnswerData, done, value, reading, found, retry}
use Rattle.ref_table.specs.Numbered as numbered
use Rattle.ref_table.specs.Numbered.{entry}
use Rattle.ref_history.specs.Versioned.{Ref, new_ref, with_failed_read, with_least, with_most}
use Rattle.ref_history.specs.Versioned.{readable, newest}
use Rattle.ref_table.specs.Store.{Store, ref_named, with_changed_ref, with_refs, with_points}
use Rattle.ref_table.specs.Store.{left_attempt}
use Rattle.ref_table.specs.Performed.{Performed, as_was, tells}
use Rattle.ref_table.specs.Commit.{commit_by}

-- An actor is named by its seat. What it asks is of its own attempt, if one runs.
pub data StoreCall : Type 0 where
  nothing : StoreCall
  -- a new ref, with this value and these bounds
  makes : Datum → ℕ → ℕ → StoreCall
  begins : ℕ → StoreCall
  leaves_attempt : ℕ → StoreCall
  reads : ℕ → RefNameData → StoreCall
  counts : ℕ → RefNameData → StoreCall
  tells_least : RefNameData → StoreCall
  tells_most : RefNameData → StoreCall
  sets_least : RefNameData → ℕ → StoreCall
  sets_most : RefNameData → ℕ → StoreCall
  commits : ℕ → IntentData → StoreCall
  -- nothing, where an attempt runs; and where none does
  inside : ℕ → StoreCall
  outside : ℕ → StoreCall
  -- the attempt is left, where this could be asked
  gives_up : ℕ → StoreCall → StoreCall

-- Making

abbrev pub performed_make : Store → Datum → ℕ → ℕ → Performed Store
performed_make s d least most = tells (value (datum.ref (tenant s.tenant) (length s.mine.refs)))
    (with_refs (s.mine.refs ++ new_ref (record { stamp = 0; content = d }) least most ∷ []) s)

-- Beginning: the read point is what the counter says

abbrev pub performed_begin : ℕ → Store → Option ℕ → Performed Store
performed_begin seat s (Some point) = as_was s None
performed_begin seat s None = tells done
    (with_points (entry seat s.around.counter ∷ s.mine.points) s)

-- Reading: in an attempt as at its read point, and outside of one the newest

abbrev pub read_at : ℕ → RefNameData → Store → Option Datum → Performed Store
read_at seat name s (Some d) = tells (reading (found d)) s
read_at seat name s None = tells (reading retry)
    (left_attempt seat (with_changed_ref name with_failed_read s))

abbrev pub read_by : ℕ → RefNameData → Store → Option ℕ → Option Ref → Performed Store
read_by seat name s point None = as_was s None
read_by seat name s None (Some r) =
    as_was s (option_map (λ d. reading (found d)) (newest r.versions))
read_by seat name s (Some point) (Some r) = read_at seat name s (readable point r)

-- Histories

abbrev pub number_told : ℕ → AnswerData
number_told n = value (datum.integer (pos n))

-- in an attempt a shared ref's history is not told
abbrev pub count_told : OwnerData → Option ℕ → Option Ref → Option AnswerData
count_told shared (Some point) r = None
count_told _ _ r = option_map (λ r. number_told r.kept) r

-- a shared ref's bounds are not set
abbrev pub performed_bound_set
    : RefNameData → OwnerData → (Ref → Ref) → Store → Option Ref → Performed Store
performed_bound_set name owner f s None = as_was s None
performed_bound_set name shared f s (Some r) = as_was s None
performed_bound_set name (tenant t) f s (Some r) =
    tells (value (datum.ref (tenant t) name.number)) (with_changed_ref name f s)

-- Standing in an attempt, or in none

abbrev pub told_inside : {A : Type 0} → Option A → Option AnswerData
told_inside None = None
told_inside (Some point) = Some done

abbrev pub told_outside : {A : Type 0} → Option A → Option AnswerData
told_outside None = Some done
told_outside (Some point) = None

-- Giving up

abbrev pub given_up : ℕ → Store → Option AnswerData → Performed Store
given_up seat s None = as_was s None
given_up seat s (Some answer) = tells done (left_attempt seat s)

-- What a call comes to. Nothing is told where it names a ref or an attempt that is not there, or
-- breaks a rule; then all stays.
abbrev pub performed : Store → StoreCall → Performed Store
performed s nothing = tells done s
performed s (makes d least most) = performed_make s d least most
performed s (begins seat) = performed_begin seat s (numbered.part_under seat s.mine.points)
performed s (leaves_attempt seat) = tells done (left_attempt seat s)
performed s (reads seat name) =
    read_by seat name s (numbered.part_under seat s.mine.points) (ref_named name s)
performed s (counts seat name) =
    as_was s (count_told name.owner (numbered.part_under seat s.mine.points) (ref_named name s))
performed s (tells_least name) = as_was s (option_map (λ r. number_told r.least) (ref_named name s))
performed s (tells_most name) = as_was s (option_map (λ r. number_told r.most) (ref_named name s))
performed s (sets_least name n) =
    performed_bound_set name name.owner (with_least n) s (ref_named name s)
performed s (sets_most name n) =
    performed_bound_set name name.owner (with_most n) s (ref_named name s)
performed s (commits seat intent) = commit_by seat intent s (numbered.part_under seat s.mine.points)
performed s (inside seat) = as_was s (told_inside (numbered.part_under seat s.mine.points))
performed s (outside seat) = as_was s (told_outside (numbered.part_under seat s.mine.points))
performed s (gives_up seat call) = given_up seat s (performed s call).told
