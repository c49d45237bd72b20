-- What is seen of a call is the call over what is seen.
use Rattle.std.proofs.Common.{◌≡◌, ℕ, zero, suc, ◌+◌, ◌<◌, ◌≤◌, ◌==◌, List, [], ◌∷◌, ◌++◌, Bool}
use Rattle.std.proofs.Common.{true, false, ◌&&◌, ◌||◌, if◌then◌else◌, Option, Some, None, refl, sym}
use Rattle.std.proofs.Common.{ap, ap₂, ◌∙◌, subst, map, length, is_some, slice_get, arith}
use Rattle.std.specs.Prelude.{option_map, Result, Ok, Err}
use Rattle.std.proofs.lemmas.List.{length-map, map-append}
use Rattle.std.proofs.lemmas.Bool.{le-leb}
use Rattle.value_data.specs.Datum as datum
use Rattle.value_data.specs.Datum.{Datum, OwnerData, shared, tenant}
use Rattle.repl_values.specs.Failure.{Failure, ◌>>=◌}
use Rattle.repl_asks.specs.Transactions.{RefNameData, ChangeData, CommutedData, IntentData}
use Rattle.repl_asks.specs.Exchange as exchange
use Rattle.repl_asks.specs.Exchange.{AnswerData}
use Rattle.ref_table.specs.Numbered.{changed_at, Entry, entry, part_under}
use Rattle.server_rules.specs.Isolation.View.{map_entry}
use Rattle.ref_history.specs.Versioned.{RefOf, new_ref, with_version, with_failed_read, with_least}
use Rattle.ref_history.specs.Versioned.{with_most, Ref, readable}
use Rattle.ref_table.specs.Store.{Store, ref_of, ref_named, newest_in_ref, newest_value}
use Rattle.ref_table.specs.Store.{with_changed_ref, changed_of, left_attempt}
use Rattle.ref_table.specs.Performed.{Performed, as_was, tells}
use Rattle.ref_table.specs.Commit.{guarded_refs, touched_refs, all_there, intent_fits}
use Rattle.ref_table.specs.Commit.{is_newer_ref, any_newer, folded_from, all_folded}
use Rattle.ref_table.specs.Commit.{with_changes, with_raised_counter, with_all, concluded_commit}
use Rattle.ref_table.specs.Commit.{checked_commit, commit_by}
use Rattle.ref_table.proofs.Folds.{in_front, folded-names}
use Rattle.ref_table.specs.Calls.{StoreCall, nothing, makes, begins, leaves_attempt, reads, counts}
use Rattle.ref_table.specs.Calls.{tells_least, tells_most, sets_least, sets_most, commits}
use Rattle.ref_table.specs.Calls.{inside, outside, told_inside, told_outside}
use Rattle.ref_table.specs.Calls.{gives_up, performed_begin, read_at, read_by, number_told}
use Rattle.ref_table.specs.Calls.{count_told, performed_bound_set, given_up, performed}
use Rattle.server_rules.specs.Isolation.View.{map_ref, content_of, count_at, counts_at, Seen, seen_of}
use Rattle.server_rules.specs.Isolation.Privacy.{IsOwned, AreOwned}
use Rattle.server_rules.proofs.Numbered.{none-some, some-same, slice_get-map, changed_at-map}
use Rattle.server_rules.proofs.Numbered.{changed_at-unseen, part_under-map, without-map}
use Rattle.server_rules.proofs.Seen.{ref_seen, changed_seen_of, left_seen, begun_seen, read_at_seen}
use Rattle.server_rules.proofs.Seen.{read_in_seen, read_by_seen, bound_seen, all_there_seen}
use Rattle.server_rules.proofs.Seen.{is_newer_seen, any_newer_seen, with_changes_seen}
use Rattle.server_rules.proofs.Seen.{value_in_seen, value_seen, concluded_seen, checked_seen}
use Rattle.server_rules.proofs.Seen.{commit_seen, given_up_seen, performed_seen, IsPrivateCall}
use Rattle.server_rules.proofs.Counting.{Fall, count_at-all, read-count, newer-count, newest-first}
use Rattle.server_rules.proofs.Counting.{count_at-later}
use Rattle.server_rules.proofs.Sound.{AllFall, AllBelow, Sound, version_with}

-- what is seen of what a call comes to
abbrev pub seen_performed : Performed Store → Performed Seen
seen_performed p = record { told = p.told; store = seen_of p.store.mine }

abbrev contents : List Ref → List (RefOf Datum)
contents refs = map (map_ref content_of) refs

-- an equation of what is seen, by its parts
seen-parts : (r q : List (RefOf Datum)) (a b : List (Entry (List ℕ))) → r ≡ q → a ≡ b
    → ◌≡◌ {A = Seen} (record { refs = r; attempts = a }) (record { refs = q; attempts = b })
seen-parts r q a b e f =
    ap₂ (λ refs attempts. let s : Seen = record { refs = refs; attempts = attempts } in s) e f

-- the stamps of one ref fall
fall_at : (top n : ℕ) (refs : List Ref) (r : Ref) → AllFall top refs → slice_get refs n ≡ Some r
    → Fall top r.versions
fall_at top n [] r fall here = absurd (none-some here)
fall_at top zero (q ∷ refs) r fall here =
    subst (λ x. Fall top x.versions) (some-same q r here) fall.0
fall_at top (suc n) (q ∷ refs) r fall here = fall_at top n refs r fall.1 here

-- all versions are before a point that is as high as the counter
counts-all : (top : ℕ) (refs : List Ref) → AllFall top refs
    → counts_at refs top ≡ map (λ r. length r.versions) (contents refs)
counts-all top [] fall = refl
counts-all top (r ∷ refs) fall =
    ap₂ (λ n ns. n ∷ ns)
    (count_at-all top top r.versions fall.0 (omega arith) ∙ sym (length-map r.versions content_of))
    (counts-all top refs fall.1)

-- attempts see the same where each count stays, for the points below the counter
attempts-below : (top : ℕ) (old new : List Ref)
    → ((p : ℕ) → p ≤ top → counts_at new p ≡ counts_at old p)
    → (points : List (Entry ℕ)) → AllBelow top points
    → map (map_entry (counts_at new)) points ≡ map (map_entry (counts_at old)) points
attempts-below top old new same [] below = refl
attempts-below top old new same (e ∷ es) below =
    ap₂ (λ n rest. entry e.number n ∷ rest)
    (same e.part below.0) (attempts-below top old new same es below.1)

-- Names

ref-seen_of : (owner : OwnerData) (n : ℕ) (s : Store) → IsOwned owner
    → ref_seen s.tenant owner n (seen_of s.mine) ≡ option_map (map_ref content_of) (ref_of owner n s)
ref-seen_of shared n s private = absurd private
ref-seen_of (tenant u) n s private =
    elim (u == s.tenant) as (λ b.
    (if b then slice_get (contents s.mine.refs) n else None)
    ≡ option_map (map_ref content_of) (if b then slice_get s.mine.refs n else None)) [
      | true ↦ slice_get-map (map_ref content_of) n s.mine.refs
      | false ↦ refl
    ]

ref-there : (owner : OwnerData) (n : ℕ) (s : Store) (r : Ref) → IsOwned owner
    → ref_of owner n s ≡ Some r → slice_get s.mine.refs n ≡ Some r
ref-there shared n s r private here = absurd private
ref-there (tenant u) n s r private here = by (u == s.tenant) here where
  by : (b : Bool) → (if b then slice_get s.mine.refs n else None) ≡ Some r
      → slice_get s.mine.refs n ≡ Some r
  by true here = here
  by false here = absurd (none-some here)

-- Changes of a ref

pub record IsSeenAs (top : ℕ) (f : Ref → Ref) (g : RefOf Datum → RefOf Datum) : Type 0 where
  pub same : (r : Ref) → map_ref content_of (f r) ≡ g (map_ref content_of r)
  pub kept : (p : ℕ) → p ≤ top → (r : Ref)
      → count_at p (f r).versions ≡ count_at p r.versions

change-seen_of
    : (top : ℕ) (owner : OwnerData) (n : ℕ) (f : Ref → Ref) (g : RefOf Datum → RefOf Datum)
    (s : Store) → IsSeenAs top f g → AllBelow top s.mine.points → IsOwned owner
    → seen_of (changed_of owner n f s).mine ≡ changed_seen_of s.tenant owner n g (seen_of s.mine)
change-seen_of top shared n f g s seen_as below private = absurd private
change-seen_of top (tenant u) n f g s seen_as below private =
    elim (u == s.tenant) as (λ b.
    seen_of (record {
      refs = if b then changed_at n f s.mine.refs else s.mine.refs;
      points = s.mine.points;
    }) ≡ (let after : Seen = record {
      refs = if b then changed_at n g (contents s.mine.refs) else contents s.mine.refs;
      attempts = (seen_of s.mine).attempts;
    } in after)) [
      | true ↦ seen-parts _ _ _ _
          (changed_at-map (map_ref content_of) f g seen_as.same n s.mine.refs)
          (attempts-below top s.mine.refs (changed_at n f s.mine.refs)
          (λ p h. changed_at-unseen (λ r. count_at p r.versions) f (seen_as.kept p h) n
          s.mine.refs) s.mine.points below)
      | false ↦ refl
    ]

unstamped : (top : ℕ) (f : Ref → Ref) (g : RefOf Datum → RefOf Datum)
    → ((r : Ref) → map_ref content_of (f r) ≡ g (map_ref content_of r))
    → ((r : Ref) → (f r).versions ≡ r.versions) → IsSeenAs top f g
unstamped top f g same versions =
    record { same = same; kept = λ p h r. ap (count_at p) (versions r) }

-- Leaving an attempt

left-seen_of : (seat : ℕ) (s : Store) → seen_of (left_attempt seat s).mine ≡ left_seen seat (seen_of s.mine)
left-seen_of seat s =
    seen-parts _ _ _ _ refl (sym (without-map (counts_at s.mine.refs) seat s.mine.points))

points-kept : (owner : OwnerData) (n : ℕ) (f : Ref → Ref) (s : Store)
    → (changed_of owner n f s).mine.points ≡ s.mine.points
points-kept shared n f s = refl
points-kept (tenant u) n f s = refl

tenant-kept : (owner : OwnerData) (n : ℕ) (f : Ref → Ref) (s : Store)
    → (changed_of owner n f s).tenant ≡ s.tenant
tenant-kept shared n f s = refl
tenant-kept (tenant u) n f s = refl

-- Making

made-attempts : (refs : List Ref) (r : Ref) → ((p : ℕ) → count_at p r.versions ≡ 1)
    → (points : List (Entry ℕ))
    → map (map_entry (counts_at (refs ++ r ∷ []))) points
    ≡ map (map_entry (λ ns. ns ++ 1 ∷ [])) (map (map_entry (counts_at refs)) points)
made-attempts refs r one [] = refl
made-attempts refs r one (e ∷ es) =
    ap₂ (λ n rest. entry e.number n ∷ rest)
    (map-append (λ r. count_at e.part r.versions) refs (r ∷ [])
    ∙ ap (λ n. counts_at refs e.part ++ n ∷ []) (one e.part))
    (made-attempts refs r one es)

-- Reading

read_at-seen_of
    : (seat : ℕ) (name : RefNameData) (s : Store) (d : Option Datum)
    → AllBelow s.around.counter s.mine.points → IsOwned name.owner
    → read_at_seen s.tenant seat name (seen_of s.mine) d ≡ seen_performed (read_at seat name s d)
read_at-seen_of seat name s (Some d) below private = refl
read_at-seen_of seat name s None below private =
    ap (λ after. let p : Performed Seen = tells (exchange.reading exchange.retry) after in p)
    (ap (left_seen seat) (sym (change-seen_of s.around.counter name.owner name.number with_failed_read with_failed_read s
    (unstamped s.around.counter with_failed_read with_failed_read (λ r. refl) (λ r. refl)) below private))
    ∙ sym (left-seen_of seat (with_changed_ref name with_failed_read s)))

read_in-seen_of
    : (seat p : ℕ) (name : RefNameData) (s : Store) (r : Ref) → Sound s.around.counter s.mine
    → IsOwned name.owner → ref_named name s ≡ Some r
    → read_in_seen s.tenant seat name (seen_of s.mine) (map_ref content_of r)
    (slice_get (counts_at s.mine.refs p) name.number)
    ≡ seen_performed (read_at seat name s (readable p r))
read_in-seen_of seat p name s r sound private here =
    let there = ref-there name.owner name.number s r private here in
    ap (read_in_seen s.tenant seat name (seen_of s.mine) (map_ref content_of r))
    (slice_get-map (λ r. count_at p r.versions) name.number s.mine.refs
    ∙ ap (option_map (λ r. count_at p r.versions)) there)
    ∙ ap (read_at_seen s.tenant seat name (seen_of s.mine))
    (read-count s.around.counter p (r.kept + 1) r.versions
    (fall_at s.around.counter name.number s.mine.refs r sound.stamps there))
    ∙ read_at-seen_of seat name s (readable p r) sound.points private

read-seen_of
    : (seat : ℕ) (name : RefNameData) (s : Store) (point : Option ℕ) (r : Option Ref)
    → Sound s.around.counter s.mine → IsOwned name.owner → ref_named name s ≡ r
    → read_by_seen s.tenant seat name (seen_of s.mine) (option_map (counts_at s.mine.refs) point)
    (option_map (map_ref content_of) r) ≡ seen_performed (read_by seat name s point r)
read-seen_of seat name s None None sound private here = refl
read-seen_of seat name s (Some p) None sound private here = refl
read-seen_of seat name s None (Some r) sound private here =
    ap (λ d. as_was (seen_of s.mine) (option_map (λ d. exchange.reading (exchange.found d)) d))
    (newest-first r.versions)
read-seen_of seat name s (Some p) (Some r) sound private here =
    read_in-seen_of seat p name s r sound private here

-- Histories

told-seen_of : (f : Ref → AnswerData) (g : RefOf Datum → AnswerData)
    → ((r : Ref) → g (map_ref content_of r) ≡ f r) → (s : Store) (r : Option Ref)
    → as_was (seen_of s.mine) (option_map g (option_map (map_ref content_of) r))
    ≡ as_was (seen_of s.mine) (option_map f r)
told-seen_of f g same s None = refl
told-seen_of f g same s (Some r) = ap (λ a. as_was (seen_of s.mine) (Some a)) (same r)

count-told : (owner : OwnerData) (point : Option ℕ) (r : Option Ref) → IsOwned owner
    → count_told owner point r ≡ option_map (λ r. number_told r.kept) r
count-told shared point r private = absurd private
count-told (tenant u) point r private = refl

bound-seen_of
    : (name : RefNameData) (owner : OwnerData) (f : Ref → Ref) (g : RefOf Datum → RefOf Datum)
    (s : Store) (r : Option Ref) → owner ≡ name.owner → IsOwned owner
    → IsSeenAs s.around.counter f g → AllBelow s.around.counter s.mine.points
    → bound_seen s.tenant name owner g (seen_of s.mine) (option_map (map_ref content_of) r)
    ≡ seen_performed (performed_bound_set name owner f s r)
bound-seen_of name owner f g s None is private seen_as below = refl
bound-seen_of name shared f g s (Some r) is private seen_as below = absurd private
bound-seen_of name (tenant u) f g s (Some r) is private seen_as below =
    ap (tells (exchange.value (datum.ref (tenant u) name.number)))
    (sym (change-seen_of s.around.counter name.owner name.number f g s seen_as below
    (subst IsOwned is private)))

-- Committing

all_there-seen_of : (s : Store) (names : List RefNameData) → AreOwned names
    → all_there_seen s.tenant names (seen_of s.mine) ≡ all_there names s
all_there-seen_of s [] private = refl
all_there-seen_of s (name ∷ names) private =
    ap₂ ◌&&◌
    (ap is_some (ref-seen_of name.owner name.number s private.0) ∙ is_some-map (ref_named name s))
    (all_there-seen_of s names private.1) where
      is_some-map : (r : Option Ref) → is_some (option_map (map_ref content_of) r) ≡ is_some r
      is_some-map None = refl
      is_some-map (Some r) = refl

newer-seen
    : (s : Store) (p : ℕ) (name : RefNameData) (r : Option Ref) → Sound s.around.counter s.mine
    → IsOwned name.owner → ref_named name s ≡ r
    → is_newer_seen (slice_get (counts_at s.mine.refs p) name.number)
    (option_map (map_ref content_of) r) ≡ is_newer_ref p r
newer-seen s p name None sound private here = refl
newer-seen s p name (Some r) sound private here =
    let there = ref-there name.owner name.number s r private here in
    ap (λ n. is_newer_seen n (Some (map_ref content_of r)))
    (slice_get-map (λ r. count_at p r.versions) name.number s.mine.refs
    ∙ ap (option_map (λ r. count_at p r.versions)) there)
    ∙ newer-count s.around.counter p r.versions
    (fall_at s.around.counter name.number s.mine.refs r sound.stamps there)

any_newer-seen_of
    : (s : Store) (p : ℕ) (names : List RefNameData) → Sound s.around.counter s.mine
    → AreOwned names
    → any_newer_seen s.tenant (counts_at s.mine.refs p) names (seen_of s.mine) ≡ any_newer p names s
any_newer-seen_of s p [] sound private = refl
any_newer-seen_of s p (name ∷ names) sound private =
    ap₂ ◌||◌
    (ap (is_newer_seen (slice_get (counts_at s.mine.refs p) name.number))
    (ref-seen_of name.owner name.number s private.0)
    ∙ newer-seen s p name (ref_named name s) sound private.0 refl)
    (any_newer-seen_of s p names sound private.1)

version-seen : (below stamp : ℕ) (c : ChangeData) → below < stamp
    → IsSeenAs below (version_with stamp c) (with_version c.now)
version-seen below stamp c under = record {
  same = λ r. refl;
  kept = λ p h r. count_at-later p stamp c.now r (omega (arith, h, under));
}

changes-seen_of
    : (below stamp : ℕ) (cs : List ChangeData) (s : Store)
    → below < stamp → AllBelow below s.mine.points → AreOwned (map (λ c. c.name) cs)
    → seen_of (with_changes stamp cs s).mine ≡ with_changes_seen s.tenant cs (seen_of s.mine)
changes-seen_of below stamp [] s under points private = refl
changes-seen_of below stamp (c ∷ cs) s under points private =
    let f = version_with stamp c in
    let kept = points-kept c.name.owner c.name.number f s in
    let whose = tenant-kept c.name.owner c.name.number f s in
    changes-seen_of below stamp cs (with_changed_ref c.name f s) under
    (subst (AllBelow below) (sym kept) points) private.1
    ∙ ap (λ t. with_changes_seen t cs (seen_of (with_changed_ref c.name f s).mine)) whose
    ∙ ap (with_changes_seen s.tenant cs)
    (change-seen_of below c.name.owner c.name.number f (with_version c.now) s
    (version-seen below stamp c under) points private.0)

all-seen_of
    : (cs : List ChangeData) (s : Store)
    → AllBelow s.around.counter s.mine.points → AreOwned (map (λ c. c.name) cs)
    → seen_of (with_all cs s).mine ≡ with_changes_seen s.tenant cs (seen_of s.mine)
all-seen_of [] s points private = refl
all-seen_of (c ∷ cs) s points private =
    changes-seen_of s.around.counter (s.around.counter + 1) (c ∷ cs) (with_raised_counter s) (omega arith)
    points private

-- What is commuted

owned-both : (xs ys : List RefNameData) → AreOwned (xs ++ ys) → AreOwned xs × AreOwned ys
owned-both [] ys private = (tt, private)
owned-both (x ∷ xs) ys private =
    let both = owned-both xs ys private.1 in ((private.0, both.0), both.1)

owned-append : (xs ys : List RefNameData) → AreOwned xs → AreOwned ys → AreOwned (xs ++ ys)
owned-append [] ys own more = more
owned-append (x ∷ xs) ys own more = (own.0, owned-append xs ys own.1 more)

value-seen_of : (s : Store) (name : RefNameData) → IsOwned name.owner
    → value_seen s.tenant (seen_of s.mine) name ≡ newest_value name s
value-seen_of s name private =
    ap value_in_seen (ref-seen_of name.owner name.number s private) ∙ by (ref_named name s) where
      by : (r : Option Ref) → value_in_seen (option_map (map_ref content_of) r) ≡ newest_in_ref r
      by None = refl
      by (Some r) = newest-first r.versions

-- one value more, in front
-- only the values of the refs that are commuted count
folded-same : (value known : RefNameData → Option Datum) (cs : List CommutedData)
    → AreOwned (map (λ c. c.name) cs)
    → ((name : RefNameData) → IsOwned name.owner → value name ≡ known name)
    → all_folded value cs ≡ all_folded known cs
folded-same value known [] private same = refl
folded-same value known (c ∷ cs) private same =
    ap₂ (λ o rest. in_front c.name (folded_from c o) rest)
    (same c.name private.0) (folded-same value known cs private.1 same)

concluded_commit-seen_of
    : (seat : ℕ) (sets : List ChangeData) (s : Store) (folds : Result (List ChangeData) Failure)
    → AllBelow s.around.counter s.mine.points
    → ((changes : List ChangeData) → folds ≡ Ok changes
    → AreOwned (map (λ c. c.name) (sets ++ changes)))
    → concluded_seen s.tenant seat sets (seen_of s.mine) folds
    ≡ seen_performed (concluded_commit seat sets s folds)
concluded_commit-seen_of seat sets s (Err f) points private =
    ap (tells (exchange.verdict (exchange.faulted f))) (sym (left-seen_of seat s))
concluded_commit-seen_of seat sets s (Ok changes) points private =
    ap (tells (exchange.verdict exchange.committed))
    (ap (left_seen seat) (sym (all-seen_of (sets ++ changes) s points (private changes refl)))
    ∙ sym (left-seen_of seat (with_all (sets ++ changes) s)))

checked_commit-seen_of
    : (seat : ℕ) (intent : IntentData) (s : Store) (intent_fits newer : Bool)
    → AllBelow s.around.counter s.mine.points → AreOwned (touched_refs intent)
    → checked_seen s.tenant seat intent (seen_of s.mine) intent_fits newer
    ≡ seen_performed (checked_commit seat intent s intent_fits newer)
checked_commit-seen_of seat intent s false newer points private = refl
checked_commit-seen_of seat intent s true true points private =
    ap (tells (exchange.verdict exchange.conflict)) (sym (left-seen_of seat s))
checked_commit-seen_of seat intent s true false points private =
    let all = owned-both (guarded_refs intent) (map (λ c. c.name) intent.commuted) private in
    let sets = owned-both (map (λ c. c.name) intent.sets) intent.ensured all.0 in
    let value : RefNameData → Option Datum = λ name. newest_value name s in
    ap (concluded_seen s.tenant seat intent.sets (seen_of s.mine))
    (folded-same (value_seen s.tenant (seen_of s.mine)) value intent.commuted all.1 (value-seen_of s))
    ∙ concluded_commit-seen_of seat intent.sets s (all_folded value intent.commuted) points
    (λ changes e. subst AreOwned (sym (map-append (λ c. c.name) intent.sets changes))
    (owned-append (map (λ c. c.name) intent.sets) (map (λ c. c.name) changes) sets.0
    (subst AreOwned (sym (folded-names value intent.commuted changes e)) all.1)))

commit-seen_of
    : (seat : ℕ) (intent : IntentData) (s : Store) (point : Option ℕ)
    → Sound s.around.counter s.mine → AreOwned (touched_refs intent)
    → commit_seen s.tenant seat intent (seen_of s.mine) (option_map (counts_at s.mine.refs) point)
    ≡ seen_performed (commit_by seat intent s point)
commit-seen_of seat intent s None sound private = refl
commit-seen_of seat intent s (Some p) sound private =
    ap₂ (λ there newer.
    checked_seen s.tenant seat intent (seen_of s.mine) (there && intent_fits intent) newer)
    (all_there-seen_of s (touched_refs intent) private) (any_newer-seen_of s p (guarded_refs intent) sound
    (owned-both (guarded_refs intent) (map (λ c. c.name) intent.commuted) private).0)
    ∙ checked_commit-seen_of seat intent s (all_there (touched_refs intent) s && intent_fits intent)
    (any_newer p (guarded_refs intent) s) sound.points private

-- Each call

performed_begin-seen_of : (seat : ℕ) (s : Store) (point : Option ℕ) → Sound s.around.counter s.mine
    → begun_seen seat (seen_of s.mine) (option_map (counts_at s.mine.refs) point)
    ≡ seen_performed (performed_begin seat s point)
performed_begin-seen_of seat s (Some p) sound = refl
performed_begin-seen_of seat s None sound =
    ap (λ ns. let after : Seen = record {
      refs = contents s.mine.refs;
      attempts = entry seat ns ∷ map (map_entry (counts_at s.mine.refs)) s.mine.points;
    } in tells exchange.done after)
    (sym (counts-all s.around.counter s.mine.refs sound.stamps))

given_up-seen_of : (seat : ℕ) (s : Store) (told : Option AnswerData)
    → given_up_seen seat (seen_of s.mine) told ≡ seen_performed (given_up seat s told)
given_up-seen_of seat s None = refl
given_up-seen_of seat s (Some answer) = ap (tells exchange.done) (sym (left-seen_of seat s))

told_inside-map : {A B : Type 0} (f : A → B) (found : Option A)
    → told_inside (option_map f found) ≡ told_inside found
told_inside-map f None = refl
told_inside-map f (Some a) = refl

told_outside-map : {A B : Type 0} (f : A → B) (found : Option A)
    → told_outside (option_map f found) ≡ told_outside found
told_outside-map f None = refl
told_outside-map f (Some a) = refl

pub performed-seen_of
    : (s : Store) (call : StoreCall) → Sound s.around.counter s.mine → IsPrivateCall call
    → performed_seen s.tenant (seen_of s.mine) call ≡ seen_performed (performed s call)
performed-seen_of s nothing sound private = refl
performed-seen_of s (makes d least most) sound private =
    let r : Ref = new_ref (record { stamp = 0; content = d }) least most in
    ap₂ (λ n after. let p : Performed Seen =
    tells (exchange.value (datum.ref (tenant s.tenant) n)) after in p)
    (length-map s.mine.refs (map_ref content_of))
    (seen-parts _ _ _ _
    (sym (map-append (map_ref content_of) s.mine.refs (r ∷ [])))
    (sym (made-attempts s.mine.refs r
    (λ p. ap (λ b. if b then 1 else 0) (le-leb 0 p (omega arith))) s.mine.points)))
performed-seen_of s (begins seat) sound private =
    ap (begun_seen seat (seen_of s.mine)) (part_under-map (counts_at s.mine.refs) seat s.mine.points)
    ∙ performed_begin-seen_of seat s (part_under seat s.mine.points) sound
performed-seen_of s (leaves_attempt seat) sound private =
    ap (tells exchange.done) (sym (left-seen_of seat s))
performed-seen_of s (reads seat name) sound private =
    ap₂ (read_by_seen s.tenant seat name (seen_of s.mine))
    (part_under-map (counts_at s.mine.refs) seat s.mine.points)
    (ref-seen_of name.owner name.number s private)
    ∙ read-seen_of seat name s (part_under seat s.mine.points) (ref_named name s) sound private refl
performed-seen_of s (counts seat name) sound private =
    ap (λ r. as_was (seen_of s.mine) (option_map (λ r. number_told r.kept) r))
    (ref-seen_of name.owner name.number s private)
    ∙ told-seen_of (λ r. number_told r.kept) (λ r. number_told r.kept) (λ r. refl) s (ref_named name s)
    ∙ ap (as_was (seen_of s.mine))
    (sym (count-told name.owner (part_under seat s.mine.points) (ref_named name s) private))
performed-seen_of s (tells_least name) sound private =
    ap (λ r. as_was (seen_of s.mine) (option_map (λ r. number_told r.least) r))
    (ref-seen_of name.owner name.number s private)
    ∙ told-seen_of (λ r. number_told r.least) (λ r. number_told r.least) (λ r. refl) s (ref_named name s)
performed-seen_of s (tells_most name) sound private =
    ap (λ r. as_was (seen_of s.mine) (option_map (λ r. number_told r.most) r))
    (ref-seen_of name.owner name.number s private)
    ∙ told-seen_of (λ r. number_told r.most) (λ r. number_told r.most) (λ r. refl) s (ref_named name s)
performed-seen_of s (sets_least name n) sound private =
    ap (bound_seen s.tenant name name.owner (with_least n) (seen_of s.mine))
    (ref-seen_of name.owner name.number s private)
    ∙ bound-seen_of name name.owner (with_least n) (with_least n) s (ref_named name s) refl private
    (unstamped s.around.counter (with_least n) (with_least n) (λ r. refl) (λ r. refl)) sound.points
performed-seen_of s (sets_most name n) sound private =
    ap (bound_seen s.tenant name name.owner (with_most n) (seen_of s.mine))
    (ref-seen_of name.owner name.number s private)
    ∙ bound-seen_of name name.owner (with_most n) (with_most n) s (ref_named name s) refl private
    (unstamped s.around.counter (with_most n) (with_most n) (λ r. refl) (λ r. refl)) sound.points
performed-seen_of s (commits seat intent) sound private =
    ap (commit_seen s.tenant seat intent (seen_of s.mine))
    (part_under-map (counts_at s.mine.refs) seat s.mine.points)
    ∙ commit-seen_of seat intent s (part_under seat s.mine.points) sound private
performed-seen_of s (inside seat) sound private =
    ap (λ found. as_was (seen_of s.mine) (told_inside found))
    (part_under-map (counts_at s.mine.refs) seat s.mine.points)
    ∙ ap (as_was (seen_of s.mine))
    (told_inside-map (counts_at s.mine.refs) (part_under seat s.mine.points))
performed-seen_of s (outside seat) sound private =
    ap (λ found. as_was (seen_of s.mine) (told_outside found))
    (part_under-map (counts_at s.mine.refs) seat s.mine.points)
    ∙ ap (as_was (seen_of s.mine))
    (told_outside-map (counts_at s.mine.refs) (part_under seat s.mine.points))
performed-seen_of s (gives_up seat call) sound private =
    ap (λ p. let q : Performed Seen = p in given_up_seen seat (seen_of s.mine) q.told)
    (performed-seen_of s call sound private)
    ∙ given_up-seen_of seat s (performed s call).told
