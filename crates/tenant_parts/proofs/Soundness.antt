-- Refs of which all can be told, through the calls of the refs.
use Rattle.std.proofs.Common.{◌≡◌, ◌<◌, ◌+◌, ◌==◌, ◌^◌, ℕ, zero, suc, List, [], ◌∷◌, ◌++◌, Bool}
use Rattle.std.proofs.Common.{true, false, ◌&&◌, ◌||◌, nat_lt, refl, sym, subst, Option, None, Some}
use Rattle.std.proofs.Common.{slice_get, if◌then◌else◌, arith}
use Rattle.std.specs.Prelude.{⊤, Result, Ok, Err}
use Rattle.std.specs.List.{AllByRecursion}
use Rattle.std.proofs.lemmas.Bool.{ltb-true}
use Rattle.value_data.specs.Datum.{Datum, OwnerData, shared, tenant}
use Rattle.repl_values.specs.Failure.{Failure}
use Rattle.repl_asks.specs.Transactions.{RefNameData, ChangeData, IntentData}
use Rattle.repl_asks.specs.Exchange.{AnswerData}
use Rattle.ref_table.specs.Numbered as numbered
use Rattle.ref_table.specs.Numbered.{changed_at}
use Rattle.ref_history.specs.Versioned.{Version, Ref, new_ref, grows, with_failed_read, with_least}
use Rattle.ref_history.specs.Versioned.{with_most, with_version, readable}
use Rattle.ref_table.specs.Store.{Store, ref_of, ref_named, newest_value, changed_of}
use Rattle.ref_table.specs.Store.{with_changed_ref}
use Rattle.ref_table.specs.Commit.{guarded_refs, touched_refs, all_there, intent_fits, any_newer}
use Rattle.ref_table.specs.Commit.{all_folded, with_changes, with_raised_counter, with_all}
use Rattle.ref_table.specs.Commit.{concluded_commit, checked_commit, commit_by}
use Rattle.ref_table.specs.Calls.{StoreCall, nothing, makes, begins, leaves_attempt, reads, counts}
use Rattle.ref_table.specs.Calls.{inside, outside}
use Rattle.ref_table.specs.Calls.{tells_least, tells_most, sets_least, sets_most, commits}
use Rattle.ref_table.specs.Calls.{gives_up, performed_begin, read_at, read_by, performed_bound_set}
use Rattle.ref_table.specs.Calls.{given_up, performed}
use Rattle.ref_table.specs.Refs.{TableRefs, store_of, refs_after}
use Rattle.tenant_parts.specs.Sound.{IsSoundRef, AreSound, ReachesSound}

abbrev All : List Ref → Type 0
All = AllByRecursion IsSoundRef

-- Changes of a ref

abbrev pub Keeps : (Ref → Ref) → Type 0
Keeps f = (r : Ref) → IsSoundRef r → IsSoundRef (f r)

with_failed_read-keeps : Keeps with_failed_read
with_failed_read-keeps r s = record { kept = s.kept; least = s.least; most = s.most; value = s.value }

least-keeps : (n : ℕ) → n < 2 ^ 63 → Keeps (with_least n)
least-keeps n intent_fits r s = record { kept = s.kept; least = intent_fits; most = s.most; value = s.value }

most-keeps : (n : ℕ) → n < 2 ^ 63 → Keeps (with_most n)
most-keeps n intent_fits r s = record { kept = s.kept; least = s.least; most = intent_fits; value = s.value }

next-below : (k n m : ℕ) → nat_lt k n ≡ true → n < m → k + 1 < m
next-below k n m less below = let first = ltb-true k n less in omega (arith, first, below)

grown : (r : Ref) (b : Bool) → grows r ≡ b → IsSoundRef r → (if b then r.kept + 1 else r.kept) < 2 ^ 63
grown r false is s = s.kept
grown r true is s = by (nat_lt 0 r.faults) (nat_lt r.kept r.most) refl (nat_lt r.kept r.least) refl is
  where
    by : (a b : Bool) → nat_lt r.kept r.most ≡ b → (c : Bool) → nat_lt r.kept r.least ≡ c
        → ((a && b) || c) ≡ true → r.kept + 1 < 2 ^ 63
    by a b most true least e = next-below r.kept r.least (2 ^ 63) least s.least
    by true true most false least e = next-below r.kept r.most (2 ^ 63) most s.most
    by true false most false least e = absurd (cc)
    by false b most false least e = absurd (cc)

version-keeps : (v : Version) → Keeps (with_version v)
version-keeps v r s = record {
  kept = grown r (grows r) refl s;
  least = s.least;
  most = s.most;
  value = refl;
}

-- Lists of refs

changed-all : (f : Ref → Ref) → Keeps f → (n : ℕ) (rs : List Ref) → All rs → All (changed_at n f rs)
changed-all f keeps n [] all = tt
changed-all f keeps zero (r ∷ rs) all = (keeps r all.0, all.1)
changed-all f keeps (suc n) (r ∷ rs) all = (all.0, changed-all f keeps n rs all.1)

added-all : (rs : List Ref) (r : Ref) → All rs → IsSoundRef r → All (rs ++ r ∷ [])
added-all [] r all s = (s, tt)
added-all (x ∷ rs) r all s = (all.0, added-all rs r all.1 s)

got-sound : (rs : List Ref) (n : ℕ) (r : Ref) → All rs → slice_get rs n ≡ Some r → IsSoundRef r
got-sound [] n r all e = absurd (cc)
got-sound (x ∷ rs) zero r all e =
    let same : x ≡ r = cc in subst IsSoundRef same all.0
got-sound (x ∷ rs) (suc n) r all e = got-sound rs n r all.1 e

-- what a tenant names
pub ref_named-sound : (s : Store) (name : RefNameData) (r : Ref) → ReachesSound s
    → ref_named name s ≡ Some r → IsSoundRef r
ref_named-sound s name r sound e = by name.owner e where
  mine : (b : Bool) → (if b then slice_get s.mine.refs name.number else None) ≡ Some r → IsSoundRef r
  mine true e = got-sound s.mine.refs name.number r sound.1 e
  mine false e = absurd (cc)

  by : (o : OwnerData) → ref_of o name.number s ≡ Some r → IsSoundRef r
  by shared e = got-sound s.around.refs name.number r sound.0 e
  by (tenant t) e = mine (t == s.tenant) e

-- Stores

changed_of-sound : (o : OwnerData) (n : ℕ) (f : Ref → Ref) (s : Store) → Keeps f → ReachesSound s
    → ReachesSound (changed_of o n f s)
changed_of-sound shared n f s keeps sound = (changed-all f keeps n s.around.refs sound.0, sound.1)
changed_of-sound (tenant t) n f s keeps sound = (sound.0, mine (t == s.tenant)) where
  mine : (b : Bool) → All (if b then changed_at n f s.mine.refs else s.mine.refs)
  mine true = changed-all f keeps n s.mine.refs sound.1
  mine false = sound.1

with_changed_ref-sound : (name : RefNameData) (f : Ref → Ref) (s : Store) → Keeps f → ReachesSound s
    → ReachesSound (with_changed_ref name f s)
with_changed_ref-sound name f s keeps sound = changed_of-sound name.owner name.number f s keeps sound

changes-sound : (stamp : ℕ) (cs : List ChangeData) (s : Store) → ReachesSound s
    → ReachesSound (with_changes stamp cs s)
changes-sound stamp [] s sound = sound
changes-sound stamp (c ∷ cs) s sound =
    let v : Version = record { stamp = stamp; content = c.now } in
    changes-sound stamp cs (with_changed_ref c.name (with_version v) s)
    (with_changed_ref-sound c.name (with_version v) s (version-keeps v) sound)

with_all-sound : (cs : List ChangeData) (s : Store) → ReachesSound s → ReachesSound (with_all cs s)
with_all-sound [] s sound = sound
with_all-sound (c ∷ cs) s sound = changes-sound (s.around.counter + 1) (c ∷ cs) (with_raised_counter s) sound

performed_begin-sound : (seat : ℕ) (s : Store) (o : Option ℕ) → ReachesSound s
    → ReachesSound (performed_begin seat s o).store
performed_begin-sound seat s None sound = sound
performed_begin-sound seat s (Some point) sound = sound

read-sound : (seat : ℕ) (name : RefNameData) (s : Store) (point : Option ℕ) (o : Option Ref)
    → ReachesSound s → ReachesSound (read_by seat name s point o).store
read-sound seat name s point None sound = sound
read-sound seat name s None (Some r) sound = sound
read-sound seat name s (Some point) (Some r) sound = by (readable point r) where
  by : (o : Option Datum) → ReachesSound (read_at seat name s o).store
  by (Some d) = sound
  by None = let there = with_changed_ref-sound name with_failed_read s with_failed_read-keeps sound in (there.0, there.1)

bound-sound : (name : RefNameData) (owner : OwnerData) (f : Ref → Ref) (s : Store) (o : Option Ref)
    → Keeps f → ReachesSound s → ReachesSound (performed_bound_set name owner f s o).store
bound-sound name owner f s None keeps sound = sound
bound-sound name shared f s (Some r) keeps sound = sound
bound-sound name (tenant t) f s (Some r) keeps sound = with_changed_ref-sound name f s keeps sound

concluded_commit-sound : (seat : ℕ) (sets : List ChangeData) (s : Store)
    (folds : Result (List ChangeData) Failure) → ReachesSound s
    → ReachesSound (concluded_commit seat sets s folds).store
concluded_commit-sound seat sets s (Err f) sound = sound
concluded_commit-sound seat sets s (Ok changes) sound =
    let there = with_all-sound (sets ++ changes) s sound in (there.0, there.1)

checked_commit-sound : (seat : ℕ) (intent : IntentData) (s : Store) (fit newer : Bool) → ReachesSound s
    → ReachesSound (checked_commit seat intent s fit newer).store
checked_commit-sound seat intent s false newer sound = sound
checked_commit-sound seat intent s true true sound = sound
checked_commit-sound seat intent s true false sound =
    concluded_commit-sound seat intent.sets s (all_folded (λ name. newest_value name s) intent.commuted) sound

commit-sound : (seat : ℕ) (intent : IntentData) (s : Store) (o : Option ℕ) → ReachesSound s
    → ReachesSound (commit_by seat intent s o).store
commit-sound seat intent s None sound = sound
commit-sound seat intent s (Some point) sound = checked_commit-sound seat intent s
    (all_there (touched_refs intent) s && intent_fits intent) (any_newer point (guarded_refs intent) s) sound

given-sound : (seat : ℕ) (s : Store) (o : Option AnswerData) → ReachesSound s
    → ReachesSound (given_up seat s o).store
given-sound seat s None sound = sound
given-sound seat s (Some answer) sound = sound

-- the bounds that are given are numbers of the language
abbrev pub MayBe : StoreCall → Type 0
MayBe (makes d least most) = (least < 2 ^ 63) × (most < 2 ^ 63)
MayBe (sets_least name n) = n < 2 ^ 63
MayBe (sets_most name n) = n < 2 ^ 63
MayBe _ = ⊤

pub performed-sound : (s : Store) (call : StoreCall) → MayBe call → ReachesSound s
    → ReachesSound (performed s call).store
performed-sound s nothing may sound = sound
performed-sound s (makes d least most) may sound = (
  sound.0,
  added-all s.mine.refs (new_ref (record { stamp = 0; content = d }) least most) sound.1
      (record { kept = (omega arith); least = may.0; most = may.1; value = refl }),
)
performed-sound s (begins seat) may sound =
    performed_begin-sound seat s (numbered.part_under seat s.mine.points) sound
performed-sound s (leaves_attempt seat) may sound = sound
performed-sound s (reads seat name) may sound =
    read-sound seat name s (numbered.part_under seat s.mine.points) (ref_named name s) sound
performed-sound s (counts seat name) may sound = sound
performed-sound s (inside seat) may sound = sound
performed-sound s (outside seat) may sound = sound
performed-sound s (tells_least name) may sound = sound
performed-sound s (tells_most name) may sound = sound
performed-sound s (sets_least name n) may sound =
    bound-sound name name.owner (with_least n) s (ref_named name s) (least-keeps n may) sound
performed-sound s (sets_most name n) may sound =
    bound-sound name name.owner (with_most n) s (ref_named name s) (most-keeps n may) sound
performed-sound s (commits seat intent) may sound =
    commit-sound seat intent s (numbered.part_under seat s.mine.points) sound
performed-sound s (gives_up seat call) may sound = given-sound seat s (performed s call).told sound

-- The refs of all

pub reaches-sound : (caller : ℕ) (s : Store) (r : TableRefs) → s ≡ store_of caller s.mine.points r
    → AreSound r → ReachesSound s
reaches-sound caller s r is sound =
    subst ReachesSound (sym is) (sound shared, sound (tenant caller))

pub refs_after-sound : (s : Store) (r : TableRefs) → ReachesSound s → AreSound r → AreSound (refs_after s r)
refs_after-sound s r mine sound shared = mine.0
refs_after-sound s r mine sound (tenant t) = by (t == s.tenant) where
  by : (b : Bool) → All (if b then s.mine.refs else r.owned (tenant t))
  by true = mine.1
  by false = sound (tenant t)
