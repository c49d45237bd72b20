-- Stamps and read points stay at most the counter, which never falls.
use Rattle.std.proofs.Common.{◌≡◌, ℕ, zero, suc, ◌+◌, ◌≤◌, List, [], ◌∷◌, ◌++◌, Bool, true, false}
use Rattle.std.proofs.Common.{Option, Some, None, refl, sym, ◌∙◌, ◌==◌, ◌&&◌, arith, if◌then◌else◌}
use Rattle.std.specs.Prelude.{Result, Ok, Err}
use Rattle.value_data.specs.Datum.{Datum, OwnerData, shared, tenant}
use Rattle.repl_values.specs.Failure.{Failure}
use Rattle.repl_asks.specs.Transactions.{RefNameData, ChangeData, IntentData}
use Rattle.ref_table.specs.Numbered.{changed_at, Entry, part_under, without}
use Rattle.ref_history.specs.Versioned.{Ref, new_ref, with_version, with_failed_read, with_least}
use Rattle.ref_history.specs.Versioned.{with_most, readable}
use Rattle.ref_table.specs.Store.{Own, Store, ref_named, newest_value, with_changed_ref}
use Rattle.ref_table.specs.Store.{changed_of, left_attempt}
use Rattle.ref_table.specs.Commit.{guarded_refs, touched_refs, all_there, intent_fits, any_newer}
use Rattle.ref_table.specs.Commit.{all_folded, with_changes, with_raised_counter, with_all}
use Rattle.ref_table.specs.Commit.{concluded_commit, checked_commit, commit_by}
use Rattle.ref_table.specs.Calls.{StoreCall, nothing, makes, begins, leaves_attempt, reads, counts}
use Rattle.ref_table.specs.Calls.{tells_least, tells_most, sets_least, sets_most, commits}
use Rattle.ref_table.specs.Calls.{inside, outside}
use Rattle.ref_table.specs.Calls.{gives_up, performed_begin, read_at, read_by, performed_bound_set}
use Rattle.ref_table.specs.Calls.{given_up, performed}
use Rattle.repl_asks.specs.Exchange.{AnswerData}
use Rattle.server_rules.proofs.Counting.{Fall, Fall-higher}

abbrev pub AllFall : ℕ → List Ref → Type 0
AllFall top [] = Unit {0}
AllFall top (r ∷ refs) = Fall top r.versions × AllFall top refs

abbrev pub AllBelow : ℕ → List (Entry ℕ) → Type 0
AllBelow top [] = Unit {0}
AllBelow top (e ∷ es) = (e.part ≤ top) × AllBelow top es

-- stamps and points are at most the counter
pub record Sound (counter : ℕ) (o : Own) : Type 0 where
  pub stamps : AllFall counter o.refs
  pub points : AllBelow counter o.points

AllFall-higher : (a b : ℕ) (refs : List Ref) → a ≤ b → AllFall a refs → AllFall b refs
AllFall-higher a b [] above f = tt
AllFall-higher a b (r ∷ refs) above f =
    (Fall-higher a b r.versions above f.0, AllFall-higher a b refs above f.1)

AllBelow-higher : (a b : ℕ) (es : List (Entry ℕ)) → a ≤ b → AllBelow a es → AllBelow b es
AllBelow-higher a b [] above f = tt
AllBelow-higher a b (e ∷ es) above f = (omega (arith, f.0), AllBelow-higher a b es above f.1)

pub Sound-higher : (a b : ℕ) (o : Own) → a ≤ b → Sound a o → Sound b o
Sound-higher a b o above s = record {
  stamps = AllFall-higher a b o.refs above s.stamps;
  points = AllBelow-higher a b o.points above s.points;
}

-- a change of a ref that keeps its stamps falling
abbrev pub KeepsFalling : ℕ → (Ref → Ref) → Type 0
KeepsFalling top f = (r : Ref) → Fall top r.versions → Fall top (f r).versions

AllFall-changed : (top n : ℕ) (f : Ref → Ref) (refs : List Ref) → KeepsFalling top f
    → AllFall top refs → AllFall top (changed_at n f refs)
AllFall-changed top n f [] keeps fall = tt
AllFall-changed top zero f (r ∷ refs) keeps fall = (keeps r fall.0, fall.1)
AllFall-changed top (suc n) f (r ∷ refs) keeps fall =
    (fall.0, AllFall-changed top n f refs keeps fall.1)

AllFall-made : (top : ℕ) (refs : List Ref) (r : Ref) → AllFall top refs → Fall top r.versions
    → AllFall top (refs ++ r ∷ [])
AllFall-made top [] r fall here = (here, tt)
AllFall-made top (q ∷ refs) r fall here = (fall.0, AllFall-made top refs r fall.1 here)

AllBelow-without : (top n : ℕ) (es : List (Entry ℕ)) → AllBelow top es
    → AllBelow top (without n es)
AllBelow-without top n [] below = tt
AllBelow-without top n (e ∷ es) below =
    elim (n == e.number)
    as (λ b. AllBelow top (if b then without n es else e ∷ without n es)) [
      | true ↦ AllBelow-without top n es below.1
      | false ↦ (below.0, AllBelow-without top n es below.1)
    ]

-- the counter is at least so much, and what the tenant has is sound
pub record Rises (counter : ℕ) (s : Store) : Type 0 where
  pub rises : counter ≤ s.around.counter
  pub sound : Sound s.around.counter s.mine

left-rises : (counter seat : ℕ) (s : Store) → Rises counter s
    → Rises counter (left_attempt seat s)
left-rises counter seat s h = record {
  rises = h.rises;
  sound = record {
    stamps = h.sound.stamps;
    points = AllBelow-without s.around.counter seat s.mine.points h.sound.points;
  };
}

changed_of-rises : (counter n : ℕ) (owner : OwnerData) (f : Ref → Ref) (s : Store)
    → KeepsFalling s.around.counter f → Rises counter s → Rises counter (changed_of owner n f s)
changed_of-rises counter n shared f s keeps h = record { rises = h.rises; sound = h.sound }
changed_of-rises counter n (tenant t) f s keeps h = record {
  rises = h.rises;
  sound = record {
    stamps = elim (t == s.tenant)
        as (λ b. AllFall s.around.counter (if b then changed_at n f s.mine.refs else s.mine.refs)) [
          | true ↦ AllFall-changed s.around.counter n f s.mine.refs keeps h.sound.stamps
          | false ↦ h.sound.stamps
        ];
    points = h.sound.points;
  };
}

with_changed_ref-rises : (counter : ℕ) (name : RefNameData) (f : Ref → Ref) (s : Store)
    → KeepsFalling s.around.counter f → Rises counter s → Rises counter (with_changed_ref name f s)
with_changed_ref-rises counter name f s keeps h =
    changed_of-rises counter name.number name.owner f s keeps h

pub counter-kept : (owner : OwnerData) (n : ℕ) (f : Ref → Ref) (s : Store)
    → (changed_of owner n f s).around.counter ≡ s.around.counter
counter-kept shared n f s = refl
counter-kept (tenant t) n f s = refl

abbrev pub version_with : ℕ → ChangeData → Ref → Ref
version_with stamp c = with_version (record { stamp = stamp; content = c.now })

changes-rise : (counter stamp : ℕ) (cs : List ChangeData) (s : Store)
    → stamp ≡ s.around.counter → Rises counter s → Rises counter (with_changes stamp cs s)
changes-rise counter stamp [] s now h = h
changes-rise counter stamp (c ∷ cs) s now h =
    changes-rise counter stamp cs (with_changed_ref c.name (version_with stamp c) s)
    (now ∙ sym (counter-kept c.name.owner c.name.number (version_with stamp c) s))
    (with_changed_ref-rises counter c.name (version_with stamp c) s
    (λ r fall. (
      omega (arith, now),
      Fall-higher s.around.counter stamp r.versions (omega (arith, now)) fall,
    )) h)

all-rise : (counter : ℕ) (cs : List ChangeData) (s : Store) → Rises counter s
    → Rises counter (with_all cs s)
all-rise counter [] s h = h
all-rise counter (c ∷ cs) s h =
    changes-rise counter (s.around.counter + 1) (c ∷ cs) (with_raised_counter s) refl (record {
      rises = omega (arith, h.rises);
      sound = Sound-higher s.around.counter (s.around.counter + 1) s.mine (omega arith) h.sound;
    })

performed_begin-rises : (counter seat : ℕ) (s : Store) (point : Option ℕ) → Rises counter s
    → Rises counter (performed_begin seat s point).store
performed_begin-rises counter seat s (Some p) h = h
performed_begin-rises counter seat s None h = record {
  rises = h.rises;
  sound = record { stamps = h.sound.stamps; points = (omega arith, h.sound.points) };
}

read_at-rises : (counter seat : ℕ) (name : RefNameData) (s : Store) (d : Option Datum)
    → Rises counter s → Rises counter (read_at seat name s d).store
read_at-rises counter seat name s (Some d) h = h
read_at-rises counter seat name s None h =
    left-rises counter seat (with_changed_ref name with_failed_read s)
    (with_changed_ref-rises counter name with_failed_read s (λ r fall. fall) h)

read_by-rises
    : (counter seat : ℕ) (name : RefNameData) (s : Store) (point : Option ℕ) (r : Option Ref)
    → Rises counter s → Rises counter (read_by seat name s point r).store
read_by-rises counter seat name s None None h = h
read_by-rises counter seat name s (Some p) None h = h
read_by-rises counter seat name s None (Some r) h = h
read_by-rises counter seat name s (Some p) (Some r) h =
    read_at-rises counter seat name s (readable p r) h

bound-rises
    : (counter : ℕ) (name : RefNameData) (owner : OwnerData) (f : Ref → Ref) (s : Store)
    (r : Option Ref) → KeepsFalling s.around.counter f → Rises counter s
    → Rises counter (performed_bound_set name owner f s r).store
bound-rises counter name owner f s None keeps h = h
bound-rises counter name shared f s (Some r) keeps h = h
bound-rises counter name (tenant t) f s (Some r) keeps h = with_changed_ref-rises counter name f s keeps h

concluded_commit-rises
    : (counter seat : ℕ) (sets : List ChangeData) (s : Store)
    (folds : Result (List ChangeData) Failure) → Rises counter s
    → Rises counter (concluded_commit seat sets s folds).store
concluded_commit-rises counter seat sets s (Err f) h = left-rises counter seat s h
concluded_commit-rises counter seat sets s (Ok changes) h =
    left-rises counter seat (with_all (sets ++ changes) s)
    (all-rise counter (sets ++ changes) s h)

checked_commit-rises
    : (counter seat : ℕ) (intent : IntentData) (s : Store) (intent_fits newer : Bool) → Rises counter s
    → Rises counter (checked_commit seat intent s intent_fits newer).store
checked_commit-rises counter seat intent s false newer h = h
checked_commit-rises counter seat intent s true true h = left-rises counter seat s h
checked_commit-rises counter seat intent s true false h =
    concluded_commit-rises counter seat intent.sets s
    (all_folded (λ name. newest_value name s) intent.commuted) h

commit-rises
    : (counter seat : ℕ) (intent : IntentData) (s : Store) (point : Option ℕ) → Rises counter s
    → Rises counter (commit_by seat intent s point).store
commit-rises counter seat intent s None h = h
commit-rises counter seat intent s (Some p) h =
    checked_commit-rises counter seat intent s
    (all_there (touched_refs intent) s && intent_fits intent) (any_newer p (guarded_refs intent) s) h

given_up-rises : (counter seat : ℕ) (s : Store) (told : Option AnswerData) → Rises counter s
    → Rises counter (given_up seat s told).store
given_up-rises counter seat s None h = h
given_up-rises counter seat s (Some answer) h = left-rises counter seat s h

pub performed-rises : (counter : ℕ) (s : Store) (call : StoreCall) → Rises counter s
    → Rises counter (performed s call).store
performed-rises counter s nothing h = h
performed-rises counter s (makes d least most) h = record {
  rises = h.rises;
  sound = record {
    stamps = AllFall-made s.around.counter s.mine.refs
        (new_ref (record { stamp = 0; content = d }) least most) h.sound.stamps (omega arith, tt);
    points = h.sound.points;
  };
}
performed-rises counter s (begins seat) h =
    performed_begin-rises counter seat s (part_under seat s.mine.points) h
performed-rises counter s (leaves_attempt seat) h = left-rises counter seat s h
performed-rises counter s (reads seat name) h =
    read_by-rises counter seat name s (part_under seat s.mine.points) (ref_named name s) h
performed-rises counter s (counts seat name) h = h
performed-rises counter s (tells_least name) h = h
performed-rises counter s (tells_most name) h = h
performed-rises counter s (sets_least name n) h =
    bound-rises counter name name.owner (with_least n) s (ref_named name s) (λ r fall. fall) h
performed-rises counter s (sets_most name n) h =
    bound-rises counter name name.owner (with_most n) s (ref_named name s) (λ r fall. fall) h
performed-rises counter s (commits seat intent) h =
    commit-rises counter seat intent s (part_under seat s.mine.points) h
performed-rises counter s (inside seat) h = h
performed-rises counter s (outside seat) h = h
performed-rises counter s (gives_up seat call) h =
    given_up-rises counter seat s (performed s call).told h
