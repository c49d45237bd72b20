-- Whether the refs would tell what is asked.
use Rattle.std.proofs.Common.{◌≡◌, ℕ, Bool, true, false, not, ◌&&◌, Option, None, Some, refl, sym}
use Rattle.std.proofs.Common.{ap, ◌∙◌, is_some}
use Rattle.std.specs.Prelude.{List, option_map, Result, Ok, Err}
use Rattle.value_data.specs.Datum.{Datum, OwnerData, shared, tenant}
use Rattle.repl_values.specs.Failure.{Failure}
use Rattle.repl_asks.specs.Transactions.{RefNameData, ChangeData, IntentData}
use Rattle.repl_asks.specs.Exchange.{reading, found}
use Rattle.ref_table.specs.Numbered as numbered
use Rattle.ref_history.specs.Versioned.{Ref, readable, newest, with_least, with_most}
use Rattle.ref_table.specs.Store.{Store, ref_named, newest_value}
use Rattle.ref_table.specs.Commit.{guarded_refs, touched_refs, all_there, intent_fits, any_newer}
use Rattle.ref_table.specs.Commit.{all_folded, concluded_commit, checked_commit, commit_by}
use Rattle.ref_table.specs.Calls.{performed, begins, reads, commits, performed_begin, read_at}
use Rattle.ref_table.specs.Calls.{read_by, count_told, performed_bound_set, number_told}
use Rattle.tenant_parts.specs.Bounds.{least_call, most_call, is_bounded}
use Rattle.tenant_parts.specs.Sound.{ReachesSound}
use Rattle.tenant_parts.proofs.Soundness.{ref_named-sound}

is_some-mapped : {A B : Type 0} (f : A → B) (o : Option A) → is_some (option_map f o) ≡ is_some o
is_some-mapped f None = refl
is_some-mapped f (Some x) = refl

-- an attempt begins where none runs
pub begins-told : (s : Store) (seat : ℕ) (point : Option ℕ) → numbered.part_under seat s.mine.points ≡ point
    → not (is_some point) ≡ is_some (performed s (begins seat)).told
begins-told s seat point is = by point ∙ ap (λ o. is_some (performed_begin seat s o).told) (sym is) where
  by : (o : Option ℕ) → not (is_some o) ≡ is_some (performed_begin seat s o).told
  by None = refl
  by (Some p) = refl

-- each ref that is there is read
pub reads-told : (s : Store) (seat : ℕ) (name : RefNameData) → ReachesSound s
    → is_some (ref_named name s) ≡ is_some (performed s (reads seat name)).told
reads-told s seat name sound = by (numbered.part_under seat s.mine.points) (ref_named name s) refl where
  at : (o : Option Datum) → true ≡ is_some (read_at seat name s o).told
  at (Some d) = refl
  at None = refl

  by : (point : Option ℕ) (o : Option Ref) → ref_named name s ≡ o
      → is_some o ≡ is_some (read_by seat name s point o).told
  by point None is = refl
  by None (Some r) is =
      sym (is_some-mapped (λ d. reading (found d)) (newest r.versions)
      ∙ (ref_named-sound s name r sound is).value)
  by (Some p) (Some r) is = at (readable p r)

pub counts-told : (owner : OwnerData) (point : Option ℕ) (o : Option Ref)
    → is_some o ≡ is_some (count_told owner None o)
counts-told shared point None = refl
counts-told shared point (Some r) = refl
counts-told (tenant t) point None = refl
counts-told (tenant t) point (Some r) = refl

pub least-told : (s : Store) (name : RefNameData) (set : Option ℕ)
    → is_bounded (is_some set) name.owner (ref_named name s)
    ≡ is_some (performed s (least_call name set)).told
least-told s name None = by name.owner (ref_named name s) where
  by : (owner : OwnerData) (o : Option Ref)
      → is_bounded false owner o ≡ is_some (option_map (λ r. number_told r.least) o)
  by owner None = refl
  by owner (Some r) = refl
least-told s name (Some n) = by name.owner (ref_named name s) where
  by : (owner : OwnerData) (o : Option Ref)
      → is_bounded true owner o ≡ is_some (performed_bound_set name owner (with_least n) s o).told
  by shared None = refl
  by shared (Some r) = refl
  by (tenant t) None = refl
  by (tenant t) (Some r) = refl

pub most-told : (s : Store) (name : RefNameData) (set : Option ℕ)
    → is_bounded (is_some set) name.owner (ref_named name s)
    ≡ is_some (performed s (most_call name set)).told
most-told s name None = by name.owner (ref_named name s) where
  by : (owner : OwnerData) (o : Option Ref)
      → is_bounded false owner o ≡ is_some (option_map (λ r. number_told r.most) o)
  by owner None = refl
  by owner (Some r) = refl
most-told s name (Some n) = by name.owner (ref_named name s) where
  by : (owner : OwnerData) (o : Option Ref)
      → is_bounded true owner o ≡ is_some (performed_bound_set name owner (with_most n) s o).told
  by shared None = refl
  by shared (Some r) = refl
  by (tenant t) None = refl
  by (tenant t) (Some r) = refl

-- a commit is told where an attempt runs and all fits
pub commits-told : (s : Store) (seat : ℕ) (intent : IntentData) (point : ℕ) (fit : Bool)
    → numbered.part_under seat s.mine.points ≡ Some point
    → fit ≡ (all_there (touched_refs intent) s && intent_fits intent)
    → fit ≡ is_some (performed s (commits seat intent)).told
commits-told s seat intent point fit runs is =
    by fit (any_newer point (guarded_refs intent) s)
    ∙ ap (λ b. is_some (checked_commit seat intent s b (any_newer point (guarded_refs intent) s)).told) is
    ∙ ap (λ o. is_some (commit_by seat intent s o).told) (sym runs)
  where
    by : (fit newer : Bool) → fit ≡ is_some (checked_commit seat intent s fit newer).told
    by false newer = refl
    by true true = refl
    by true false = ended (all_folded (λ name. newest_value name s) intent.commuted) where
      ended : (folds : Result (List ChangeData) Failure)
          → true ≡ is_some (concluded_commit seat intent.sets s folds).told
      ended (Err f) = refl
      ended (Ok changes) = refl

pub commits-untold : (s : Store) (seat : ℕ) (intent : IntentData)
    → numbered.part_under seat s.mine.points ≡ None
    → false ≡ is_some (performed s (commits seat intent)).told
commits-untold s seat intent none = ap (λ o. is_some (commit_by seat intent s o).told) (sym none)
