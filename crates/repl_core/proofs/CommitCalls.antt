-- The newest values of refs, through calls of the refs.
use Rattle.std.proofs.Common.{◌≡◌, ℕ, ◌+◌, ◌==◌, List, [], ◌∷◌, ◌++◌, length, Bool, true, false}
use Rattle.std.proofs.Common.{◌&&◌, map, Option, Some, None, is_some, slice_get, refl, sym, ap}
use Rattle.std.proofs.Common.{subst, ◌∙◌, if◌then◌else◌, true≢false}
use Rattle.std.specs.Prelude.{option_map, option_and_then, Result, Ok, Err}
use Rattle.std.proofs.lemmas.Bool.{eqb-true, eqb-false, eq-eqb, ne_eqb, and_parts}
use Rattle.value_data.specs.Datum as datum
use Rattle.value_data.specs.Datum.{Datum, OwnerData, shared, tenant}
use Rattle.repl_values.specs.Failure.{Failure}
use Rattle.repl_asks.specs.Transactions.{RefNameData, ChangeData, IntentData, same_name}
use Rattle.repl_asks.specs.Exchange as exchange
use Rattle.repl_asks.specs.Exchange.{AskData, AnswerData, value, verdict, committed, conflict}
use Rattle.ref_table.specs.Numbered as numbered
use Rattle.ref_table.specs.Numbered.{Entry, entry, changed_at, without}
use Rattle.ref_history.specs.Versioned.{Ref, new_ref, with_failed_read, with_least, with_most}
use Rattle.ref_history.specs.Versioned.{readable, newest}
use Rattle.ref_table.specs.Store.{Store, ref_of, ref_named, newest_in_ref, newest_value}
use Rattle.ref_table.specs.Store.{changed_of, with_changed_ref, with_points, left_attempt}
use Rattle.ref_table.specs.Commit.{guarded_refs, touched_refs, changing_refs, all_there, all_fit}
use Rattle.ref_table.specs.Commit.{all_take, refs_are_distinct, intent_fits, any_newer}
use Rattle.value_data.specs.Same.{same_owner}
use Rattle.ref_table.specs.Commit.{all_folded, with_changes, with_raised_counter, with_all}
use Rattle.ref_table.specs.Commit.{concluded_commit, checked_commit, commit_by}
use Rattle.ref_table.specs.Calls.{performed_make, performed_begin, read_at, read_by}
use Rattle.ref_table.specs.Calls.{performed_bound_set, nothing, inside, performed}
use Rattle.server_rules.specs.Asking.{call_of, may_send_call}
use Rattle.server_rules.proofs.Sound.{version_with}
use Rattle.ref_table.proofs.Owners.{some-same, none-some, slice_get-changed, slice_get-added}
use Rattle.ref_table.proofs.Owners.{slice_get-changed_other, slice_get-added_other}
use Rattle.ref_table.proofs.Committing.{changed-names}
use Rattle.repl_core.specs.Commits.{last_set, is_ref_named, given_by}
use Rattle.repl_core.proofs.CommitFolds.{same_name-true, changes-gave, changed-none}

-- A ref is changed

abbrev changed_if : Bool → (Ref → Ref) → Option Ref → Option Ref
changed_if b f o = if b then option_map f o else o

place-changed : (n m : ℕ) (f : Ref → Ref) (refs : List Ref)
    → slice_get (changed_at m f refs) n ≡ changed_if (n == m) f (slice_get refs n)
place-changed n m f refs = by (n == m) refl
  where
    by : (b : Bool) → (n == m) ≡ b
        → slice_get (changed_at m f refs) n ≡ changed_if b f (slice_get refs n)
    by true same = subst
        (λ k. slice_get (changed_at k f refs) n ≡ option_map f (slice_get refs n))
        (eqb-true n m same) (slice_get-changed n f refs)
    by false apart = slice_get-changed_other n m f refs (eqb-false n m apart)

none-changed : (b : Bool) (f : Ref → Ref) → None ≡ changed_if b f None
none-changed true f = refl
none-changed false f = refl

ref_named-with_changed_ref : (a b : RefNameData) (f : Ref → Ref) (s : Store)
    → ref_named a (with_changed_ref b f s) ≡ changed_if (same_name a b) f (ref_named a s)
ref_named-with_changed_ref a b f s = by a.owner b.owner
  where
    mine : (t u : ℕ) (here there : Bool) → (t == s.tenant) ≡ here → (u == s.tenant) ≡ there
        → (if here
        then slice_get (if there then changed_at b.number f s.mine.refs else s.mine.refs) a.number
        else None)
        ≡ changed_if (t == u && a.number == b.number) f
        (if here then slice_get s.mine.refs a.number else None)
    mine t u false there apart is = none-changed (t == u && a.number == b.number) f
    mine t u true true same is =
        place-changed a.number b.number f s.mine.refs
        ∙ ap (λ k. changed_if (k && a.number == b.number) f (slice_get s.mine.refs a.number))
        (sym (eq-eqb t u (eqb-true t s.tenant same ∙ sym (eqb-true u s.tenant is))))
    mine t u true false same apart =
        sym (ap (λ k. changed_if (k && a.number == b.number) f (slice_get s.mine.refs a.number))
        (ne_eqb t u (λ e. eqb-false u s.tenant apart (sym e ∙ eqb-true t s.tenant same))))

    by : (o p : OwnerData) → ref_of o a.number (changed_of p b.number f s)
        ≡ changed_if (same_owner o p && a.number == b.number) f (ref_of o a.number s)
    by shared shared = place-changed a.number b.number f s.around.refs
    by shared (tenant u) = refl
    by (tenant t) shared = refl
    by (tenant t) (tenant u) = mine t u (t == s.tenant) (u == s.tenant) refl refl

there-with_changed_ref : (a b : RefNameData) (f : Ref → Ref) (s : Store)
    → is_some (ref_named a (with_changed_ref b f s)) ≡ is_some (ref_named a s)
there-with_changed_ref a b f s = ap is_some (ref_named-with_changed_ref a b f s) ∙ by (same_name a b) (ref_named a s)
  where
    by : (b : Bool) (o : Option Ref) → is_some (changed_if b f o) ≡ is_some o
    by true None = refl
    by true (Some r) = refl
    by false o = refl

all_there-as : (names : List RefNameData) (s new : Store)
    → ((name : RefNameData) → is_some (ref_named name new) ≡ is_some (ref_named name s))
    → all_there names new ≡ all_there names s
all_there-as [] s new same = refl
all_there-as (name ∷ names) s new same =
    ap (λ b. b && all_there names new) (same name)
    ∙ ap (λ b. is_some (ref_named name s) && b) (all_there-as names s new same)

pub all_there-parts : (names more : List RefNameData) (s : Store)
    → all_there (names ++ more) s ≡ true → (all_there names s ≡ true) × (all_there more s ≡ true)
all_there-parts [] more s e = (refl, e)
all_there-parts (name ∷ names) more s e =
    let parts = and_parts (is_some (ref_named name s)) (all_there (names ++ more) s) e in
    let behind = all_there-parts names more s parts.1 in
    (ap (λ b. b && all_there names s) parts.0 ∙ behind.0, behind.1)

all_there-both : (names more : List RefNameData) (s : Store) → all_there names s ≡ true
    → all_there more s ≡ true → all_there (names ++ more) s ≡ true
all_there-both [] more s here there = there
all_there-both (name ∷ names) more s here there =
    let parts = and_parts (is_some (ref_named name s)) (all_there names s) here in
    ap (λ b. b && all_there (names ++ more) s) parts.0 ∙ all_there-both names more s parts.1 there

-- the refs that change are there where all that are named are
changing_refs-there : (intent : IntentData) (s : Store) → all_there (touched_refs intent) s ≡ true
    → all_there (changing_refs intent) s ≡ true
changing_refs-there intent s there =
    let sets = map (λ c. c.name) intent.sets in
    let commuted = map (λ c. c.name) intent.commuted in
    let all = all_there-parts (guarded_refs intent) commuted s there in
    all_there-both sets commuted s (all_there-parts sets intent.ensured s all.0).0 all.1

-- What is newest

abbrev pub newest_of : Option Ref → Option Datum
newest_of o = option_and_then (λ r. newest r.versions) o

abbrev pub newest_at : RefNameData → Store → Option Datum
newest_at name s = newest_of (ref_named name s)

-- a change that adds no version
kept-newest : (name other : RefNameData) (f : Ref → Ref) (s : Store)
    → ((r : Ref) → newest (f r).versions ≡ newest r.versions)
    → newest_at name (with_changed_ref other f s) ≡ newest_at name s
kept-newest name other f s keeps =
    ap newest_of (ref_named-with_changed_ref name other f s) ∙ by (same_name name other) (ref_named name s)
  where
    by : (b : Bool) (o : Option Ref) → newest_of (changed_if b f o) ≡ newest_of o
    by true None = refl
    by true (Some r) = keeps r
    by false o = refl

-- a change that adds one
version-newest : (name : RefNameData) (c : ChangeData) (stamp : ℕ) (s : Store)
    → is_some (ref_named c.name s) ≡ true
    → newest_at name (with_changed_ref c.name (version_with stamp c) s)
    ≡ (if same_name name c.name then Some c.now else newest_at name s)
version-newest name c stamp s there =
    ap newest_of (ref_named-with_changed_ref name c.name (version_with stamp c) s)
    ∙ by (same_name name c.name) refl
  where
    added : (o : Option Ref) → is_some o ≡ true
        → newest_of (option_map (version_with stamp c) o) ≡ Some c.now
    added None e = absurd (true≢false (sym e))
    added (Some r) e = refl

    by : (b : Bool) → same_name name c.name ≡ b
        → newest_of (changed_if b (version_with stamp c) (ref_named name s))
        ≡ (if b then Some c.now else newest_at name s)
    by true same =
        added (ref_named name s)
        (ap (λ other. is_some (ref_named other s)) (same_name-true name c.name same) ∙ there)
    by false apart = refl

changes-newest : (name : RefNameData) (stamp : ℕ) (cs : List ChangeData) (s : Store)
    → all_there (map (λ c. c.name) cs) s ≡ true
    → newest_at name (with_changes stamp cs s) ≡ last_set name cs (newest_at name s)
changes-newest name stamp [] s there = refl
changes-newest name stamp (c ∷ cs) s there =
    let behind : Store = with_changed_ref c.name (version_with stamp c) s in
    let parts = and_parts (is_some (ref_named c.name s)) (all_there (map (λ c. c.name) cs) s) there in
    changes-newest name stamp cs behind
    (all_there-as (map (λ c. c.name) cs) s behind
    (λ other. there-with_changed_ref other c.name (version_with stamp c) s) ∙ parts.1)
    ∙ ap (last_set name cs) (version-newest name c stamp s parts.0)

with_raised_counter-ref_named : (name : RefNameData) (s : Store) → ref_named name (with_raised_counter s) ≡ ref_named name s
with_raised_counter-ref_named name s = by name.owner
  where
    by : (o : OwnerData) → ref_of o name.number (with_raised_counter s) ≡ ref_of o name.number s
    by shared = refl
    by (tenant t) = refl

all-newest : (name : RefNameData) (cs : List ChangeData) (s : Store)
    → all_there (map (λ c. c.name) cs) s ≡ true
    → newest_at name (with_all cs s) ≡ last_set name cs (newest_at name s)
all-newest name [] s there = refl
all-newest name (c ∷ cs) s there =
    changes-newest name (s.around.counter + 1) (c ∷ cs) (with_raised_counter s)
    (all_there-as (map (λ c. c.name) (c ∷ cs)) s (with_raised_counter s)
    (λ other. ap is_some (with_raised_counter-ref_named other s)) ∙ there)
    ∙ ap (λ o. last_set name (c ∷ cs) (newest_of o)) (with_raised_counter-ref_named name s)

-- Each call

points-newest : (name : RefNameData) (points : List (Entry ℕ)) (s : Store)
    → newest_at name (with_points points s) ≡ newest_at name s
points-newest name points s = by name.owner
  where
    by : (o : OwnerData) → newest_of (ref_of o name.number (with_points points s))
        ≡ newest_of (ref_of o name.number s)
    by shared = refl
    by (tenant t) = refl

pub left-newest : (name : RefNameData) (seat : ℕ) (s : Store)
    → newest_at name (left_attempt seat s) ≡ newest_at name s
left-newest name seat s = points-newest name (without seat s.mine.points) s

performed_make-newest : (name : RefNameData) (d : Datum) (least most : ℕ) (s : Store)
    → newest_at name (performed_make s d least most).store
    ≡ given_by name (exchange.new_ref d least most) (value (datum.ref (tenant s.tenant) (length s.mine.refs)))
    (newest_at name s)
performed_make-newest name d least most s = by name.owner
  where
    last : (b : Bool) → (name.number == length s.mine.refs) ≡ b
        → newest_of (slice_get
        (s.mine.refs ++ new_ref (record { stamp = 0; content = d }) least most ∷ []) name.number)
        ≡ (if b then Some d else newest_of (slice_get s.mine.refs name.number))
    last true same =
        let r : Ref = new_ref (record { stamp = 0; content = d }) least most in
        ap newest_of (ap (slice_get (s.mine.refs ++ r ∷ []))
        (eqb-true name.number (length s.mine.refs) same) ∙ slice_get-added s.mine.refs r)
    last false apart = ap newest_of (slice_get-added_other name.number s.mine.refs
        (new_ref (record { stamp = 0; content = d }) least most)
        (eqb-false name.number (length s.mine.refs) apart))

    mine : (b : Bool) → newest_of (if b then slice_get
        (s.mine.refs ++ new_ref (record { stamp = 0; content = d }) least most ∷ []) name.number
        else None)
        ≡ (if b && name.number == length s.mine.refs then Some d
        else newest_of (if b then slice_get s.mine.refs name.number else None))
    mine true = last (name.number == length s.mine.refs) refl
    mine false = refl

    by : (o : OwnerData) → newest_of (ref_of o name.number (performed_make s d least most).store)
        ≡ (if same_owner o (tenant s.tenant) && name.number == length s.mine.refs then Some d
        else newest_of (ref_of o name.number s))
    by shared = refl
    by (tenant t) = mine (t == s.tenant)

performed_begin-newest : (name : RefNameData) (seat : ℕ) (s : Store) (point : Option ℕ)
    → newest_at name (performed_begin seat s point).store ≡ newest_at name s
performed_begin-newest name seat s None =
    points-newest name (entry seat s.around.counter ∷ s.mine.points) s
performed_begin-newest name seat s (Some point) = refl

read-newest : (name other : RefNameData) (seat : ℕ) (s : Store) (point : Option ℕ) (o : Option Ref)
    → newest_at name (read_by seat other s point o).store ≡ newest_at name s
read-newest name other seat s point None = refl
read-newest name other seat s None (Some r) = refl
read-newest name other seat s (Some point) (Some r) = by (readable point r)
  where
    by : (o : Option Datum) → newest_at name (read_at seat other s o).store ≡ newest_at name s
    by (Some d) = refl
    by None =
        left-newest name seat (with_changed_ref other with_failed_read s)
        ∙ kept-newest name other with_failed_read s (λ r. refl)

bound-newest : (name other : RefNameData) (owner : OwnerData) (f : Ref → Ref) (s : Store)
    (o : Option Ref) → ((r : Ref) → newest (f r).versions ≡ newest r.versions)
    → newest_at name (performed_bound_set other owner f s o).store ≡ newest_at name s
bound-newest name other owner f s None keeps = refl
bound-newest name other shared f s (Some r) keeps = refl
bound-newest name other (tenant t) f s (Some r) keeps = kept-newest name other f s keeps

value-newest : (o : Option Ref) → newest_of o ≡ newest_in_ref o
value-newest None = refl
value-newest (Some r) = refl

concluded_commit-newest : (name : RefNameData) (seat : ℕ) (intent : IntentData) (answer : AnswerData)
    (s : Store) (folds : Result (List ChangeData) Failure)
    → (all_there (touched_refs intent) s && intent_fits intent) ≡ true
    → all_folded (λ other. newest_value other s) intent.commuted ≡ folds
    → (concluded_commit seat intent.sets s folds).told ≡ Some answer
    → newest_at name (concluded_commit seat intent.sets s folds).store
    ≡ given_by name (exchange.commit intent) answer (newest_at name s)
concluded_commit-newest name seat intent answer s (Err f) fit is told =
    left-newest name seat s
    ∙ ap (λ v. given_by name (exchange.commit intent) v (newest_at name s))
    (some-same (verdict (exchange.faulted f)) answer told)
concluded_commit-newest name seat intent answer s (Ok changes) fit is told =
    let parts = and_parts (all_there (touched_refs intent) s) (intent_fits intent) fit in
    let once = and_parts (all_fit intent.sets) (refs_are_distinct (changing_refs intent))
    (and_parts (all_fit intent.sets && refs_are_distinct (changing_refs intent)) (all_take intent.commuted)
    parts.1).0 in
    left-newest name seat (with_all (intent.sets ++ changes) s)
    ∙ all-newest name (intent.sets ++ changes) s
    (ap (λ names. all_there names s) (changed-names (λ other. newest_value other s) intent changes is)
    ∙ changing_refs-there intent s parts.0)
    ∙ changes-gave name (λ other. newest_value other s) intent.sets intent.commuted changes
    (newest_at name s) once.1 is (λ among. value-newest (ref_named name s))
    ∙ ap (λ v. given_by name (exchange.commit intent) v (newest_at name s))
    (some-same (verdict committed) answer told)

checked_commit-newest : (name : RefNameData) (seat : ℕ) (intent : IntentData) (answer : AnswerData)
    (s : Store) (fit newer : Bool) → (all_there (touched_refs intent) s && intent_fits intent) ≡ fit
    → (checked_commit seat intent s fit newer).told ≡ Some answer
    → newest_at name (checked_commit seat intent s fit newer).store
    ≡ given_by name (exchange.commit intent) answer (newest_at name s)
checked_commit-newest name seat intent answer s false newer is told = absurd (none-some told)
checked_commit-newest name seat intent answer s true true is told =
    left-newest name seat s
    ∙ ap (λ v. given_by name (exchange.commit intent) v (newest_at name s))
    (some-same (verdict conflict) answer told)
checked_commit-newest name seat intent answer s true false is told =
    concluded_commit-newest name seat intent answer s
    (all_folded (λ other. newest_value other s) intent.commuted) is refl told

commit-newest : (name : RefNameData) (seat : ℕ) (intent : IntentData) (answer : AnswerData)
    (s : Store) (point : Option ℕ) → (commit_by seat intent s point).told ≡ Some answer
    → newest_at name (commit_by seat intent s point).store
    ≡ given_by name (exchange.commit intent) answer (newest_at name s)
commit-newest name seat intent answer s None told = absurd (none-some told)
commit-newest name seat intent answer s (Some point) told =
    checked_commit-newest name seat intent answer s (all_there (touched_refs intent) s && intent_fits intent)
    (any_newer point (guarded_refs intent) s) refl told

-- whether something may be sent is told of no ref
pub send-stays : (seat : ℕ) (s : Store) → (performed s (may_send_call seat)).store ≡ s
send-stays seat s = by (seat == 0) where
  by : (b : Bool) → (performed s (if b then nothing else inside seat)).store ≡ s
  by true = refl
  by false = refl

-- what an ask that is answered makes of each ref
pub asked-newest : (name : RefNameData) (seat : ℕ) (ask : AskData) (answer : AnswerData)
    (s : Store) → (performed s (call_of seat ask)).told ≡ Some answer
    → newest_at name (performed s (call_of seat ask)).store
    ≡ given_by name ask answer (newest_at name s)
asked-newest name seat (exchange.resolve namespace symbol) answer s told = refl
asked-newest name seat (exchange.define namespace defined binding) answer s told = refl
asked-newest name seat (exchange.enter namespace) answer s told = refl
asked-newest name seat (exchange.new_ref d least most) answer s told =
    performed_make-newest name d least most s
    ∙ ap (λ v. given_by name (exchange.new_ref d least most) v (newest_at name s))
    (some-same (value (datum.ref (tenant s.tenant) (length s.mine.refs))) answer told)
asked-newest name seat exchange.begin answer s told =
    performed_begin-newest name seat s (numbered.part_under seat s.mine.points)
asked-newest name seat (exchange.read other) answer s told =
    read-newest name other seat s (numbered.part_under seat s.mine.points) (ref_named other s)
asked-newest name seat (exchange.history other) answer s told = refl
asked-newest name seat (exchange.min_history other None) answer s told = refl
asked-newest name seat (exchange.min_history other (Some n)) answer s told =
    bound-newest name other other.owner (with_least n) s (ref_named other s) (λ r. refl)
asked-newest name seat (exchange.max_history other None) answer s told = refl
asked-newest name seat (exchange.max_history other (Some n)) answer s told =
    bound-newest name other other.owner (with_most n) s (ref_named other s) (λ r. refl)
asked-newest name seat (exchange.commit intent) answer s told =
    commit-newest name seat intent answer s (numbered.part_under seat s.mine.points) told
asked-newest name seat (exchange.new_atom d) answer s told = refl
asked-newest name seat (exchange.read_atom n) answer s told = refl
asked-newest name seat (exchange.set_atom n d) answer s told = refl
asked-newest name seat (exchange.try_atom n seen next) answer s told = refl
asked-newest name seat (exchange.new_agent d) answer s told = refl
asked-newest name seat (exchange.read_agent n) answer s told = refl
asked-newest name seat (exchange.agent_fault n) answer s told = refl
asked-newest name seat (exchange.restart_agent n d) answer s told = refl
asked-newest name seat (exchange.send x) answer s told = refl
asked-newest name seat (exchange.may_send x) answer s told =
    ap (newest_at name) (send-stays seat s)
asked-newest name seat (exchange.await ns) answer s told = refl

-- What is given to a ref that has no value

pub given-none : (name : RefNameData) (ask : AskData) (answer : AnswerData) (before : Option Datum)
    → given_by name ask answer None ≡ None → given_by name ask answer before ≡ before
given-none name (exchange.commit intent) (verdict committed) before e =
    changed-none name intent.sets intent.commuted before e
given-none name (exchange.new_ref d least most) (value it) before e = by (is_ref_named name it) e
  where
    by : (b : Bool) → ◌≡◌ {A = Option Datum} (if b then Some d else None) None
        → (if b then Some d else before) ≡ before
    by true h = absurd (none-some (sym h))
    by false h = refl
given-none name _ _ before e = refl
