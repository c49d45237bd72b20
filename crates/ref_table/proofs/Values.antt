-- What a commit means to those who read refs.
use Rattle.std.proofs.Common.{◌≡◌, ◌≢◌, ℕ, zero, suc, ◌+◌, ◌<◌, List, [], ◌∷◌, length, Bool, true}
use Rattle.std.proofs.Common.{false, ◌++◌, not, ◌&&◌, ◌||◌, ◌==◌, is_some, Option, Some, None}
use Rattle.std.proofs.Common.{slice_get, slice_index_or, map, refl, sym, ap, ap₂, ◌∙◌, subst}
use Rattle.std.proofs.Common.{if◌then◌else◌, arith, inl, inr}
use Rattle.std.specs.Prelude.{option_map, Contains, Result, Ok, Err}
use Rattle.std.specs.List.{list_any}
use Rattle.std.proofs.lemmas.Bool.{cases_Bool, eqb-true, eq-eqb}
use Rattle.std.proofs.lemmas.List.Elements.{Contains-append_left, Contains-append_right}
use Rattle.value_data.specs.Datum.{Datum, OwnerData, shared, tenant}
use Rattle.repl_values.specs.Failure.{Failure, ◌>>=◌}
use Rattle.repl_asks.specs.Transactions.{RefNameData, ChangeData, CommutedData, IntentData}
use Rattle.repl_asks.specs.Transactions.{same_name}
use Rattle.repl_asks.specs.Exchange.{verdict, committed}
use Rattle.ref_history.specs.Versioned.{Version, Ref, with_version}
use Rattle.ref_table.specs.Store.{Store, ref_of, ref_named, newest_in_ref, newest_value}
use Rattle.ref_table.specs.Store.{changed_of, with_changed_ref, left_attempt}
use Rattle.ref_table.specs.Commit.{guarded_refs, touched_refs, changing_refs, all_there, all_fit}
use Rattle.ref_table.specs.Commit.{all_take, refs_are_distinct, intent_fits, is_newer_ref}
use Rattle.value_data.specs.Same.{same_owner}
use Rattle.ref_table.specs.Commit.{any_newer, folded_from, all_folded, with_changes}
use Rattle.ref_table.specs.Commit.{with_raised_counter, with_all, concluded_commit}
use Rattle.ref_table.specs.Commit.{checked_commit, commit_by}
use Rattle.ref_table.specs.Numbered.{changed_at}
use Rattle.ref_table.proofs.Owners.{slice_get-changed, slice_get-changed_other}
use Rattle.ref_table.proofs.Once.{both_true, same_owner-true, same_owner-refl}
use Rattle.ref_table.proofs.Committing.{changed-names}

-- Changes of one ref, as they are seen

left-ref_named : (seat : ℕ) (name : RefNameData) (s : Store)
    → ref_named name (left_attempt seat s) ≡ ref_named name s
left-ref_named seat name s = by name.owner where
  by : (o : OwnerData) → ref_of o name.number (left_attempt seat s) ≡ ref_of o name.number s
  by shared = refl
  by (tenant t) = refl

with_raised_counter-ref_named : (name : RefNameData) (s : Store) → ref_named name (with_raised_counter s) ≡ ref_named name s
with_raised_counter-ref_named name s = by name.owner where
  by : (o : OwnerData) → ref_of o name.number (with_raised_counter s) ≡ ref_of o name.number s
  by shared = refl
  by (tenant t) = refl

changed_of-here : (w : OwnerData) (n : ℕ) (f : Ref → Ref) (s : Store)
    → ref_of w n (changed_of w n f s) ≡ option_map f (ref_of w n s)
changed_of-here shared n f s = slice_get-changed n f s.around.refs
changed_of-here (tenant t) n f s = by (t == s.tenant) where
  by : (b : Bool)
      → (if b then slice_get (if b then changed_at n f s.mine.refs else s.mine.refs) n else None)
      ≡ option_map f (if b then slice_get s.mine.refs n else None)
  by true = slice_get-changed n f s.mine.refs
  by false = refl

changed_of-there : (w o : OwnerData) (n m : ℕ) (f : Ref → Ref) (s : Store)
    → ((o ≡ w) × (m ≡ n) → ⊥) → ref_of o m (changed_of w n f s) ≡ ref_of o m s
changed_of-there shared shared n m f s differs =
    slice_get-changed_other m n f s.around.refs (λ e. differs (refl, e))
changed_of-there shared (tenant u) n m f s differs = refl
changed_of-there (tenant t) shared n m f s differs = refl
changed_of-there (tenant t) (tenant u) n m f s differs =
    by (u == s.tenant) (t == s.tenant) (λ e. eqb-true u s.tenant e) (λ e. eqb-true t s.tenant e) where
      by : (b c : Bool) → (b ≡ true → u ≡ s.tenant) → (c ≡ true → t ≡ s.tenant)
          → (if b then slice_get (if c then changed_at n f s.mine.refs else s.mine.refs) m else None)
          ≡ (if b then slice_get s.mine.refs m else None)
      by true true mine its = slice_get-changed_other m n f s.mine.refs
          (λ e. differs (ap tenant (mine refl ∙ sym (its refl)), e))
      by true false mine its = refl
      by false c mine its = refl

same_name-here : (a b : RefNameData) → (a.owner ≡ b.owner) × (a.number ≡ b.number)
    → same_name a b ≡ true
same_name-here a b e =
    ap₂ ◌&&◌ (same_owner-refl a.owner b.owner e.0) (eq-eqb a.number b.number e.1)

same_name-true : (a b : RefNameData) → same_name a b ≡ true
    → (a.owner ≡ b.owner) × (a.number ≡ b.number)
same_name-true a b e =
    let parts = both_true (same_owner a.owner b.owner) (a.number == b.number) e in
    (same_owner-true a.owner b.owner parts.0, eqb-true a.number b.number parts.1)

same-data : (a b : RefNameData) → (a.owner ≡ b.owner) × (a.number ≡ b.number) → a ≡ b
same-data a b e =
    let name : OwnerData → ℕ → RefNameData = λ o n. record { owner = o; number = n } in
    ap₂ name e.0 e.1

clash : (x : Bool) → x ≡ false → x ≡ true → ⊥
clash x e g = cc

other-ref_named : (a b : RefNameData) (f : Ref → Ref) (s : Store) → same_name b a ≡ false
    → ref_named b (with_changed_ref a f s) ≡ ref_named b s
other-ref_named a b f s differs = changed_of-there a.owner b.owner a.number b.number f s
    (λ e. clash (same_name b a) differs (same_name-here b a e))

-- a ref is there after a change of another, and after its own
still-there : (a b : RefNameData) (f : Ref → Ref) (s : Store)
    → is_some (ref_named b (with_changed_ref a f s)) ≡ is_some (ref_named b s)
still-there a b f s = elim (cases_Bool (same_name b a)) [
  | inl same ↦
      subst (λ b. is_some (ref_named b (with_changed_ref a f s)) ≡ is_some (ref_named b s))
      (sym (same-data b a (same_name-true b a same)))
      (ap is_some (changed_of-here a.owner a.number f s) ∙ mapped (ref_named a s))
  | inr differs ↦ ap is_some (other-ref_named a b f s differs)
] where
  mapped : (o : Option Ref) → is_some (option_map f o) ≡ is_some o
  mapped None = refl
  mapped (Some r) = refl

all-still_there : (a : RefNameData) (f : Ref → Ref) (names : List RefNameData) (s : Store)
    → all_there names (with_changed_ref a f s) ≡ all_there names s
all-still_there a f [] s = refl
all-still_there a f (b ∷ names) s =
    ap₂ ◌&&◌ (still-there a b f s) (all-still_there a f names s)

with_raised_counter-there : (names : List RefNameData) (s : Store)
    → all_there names (with_raised_counter s) ≡ all_there names s
with_raised_counter-there [] s = refl
with_raised_counter-there (b ∷ names) s = ap₂ ◌&&◌ (ap is_some (with_raised_counter-ref_named b s)) (with_raised_counter-there names s)

there-append : (xs ys : List RefNameData) (s : Store)
    → all_there (xs ++ ys) s ≡ (all_there xs s && all_there ys s)
there-append [] ys s = refl
there-append (x ∷ xs) ys s =
    ap (λ b. is_some (ref_named x s) && b) (there-append xs ys s)
    ∙ groups (is_some (ref_named x s)) (all_there xs s) (all_there ys s) where
      groups : (a b c : Bool) → (a && (b && c)) ≡ ((a && b) && c)
      groups true b c = refl
      groups false b c = refl

-- the refs that change are there where all that are named are
changing_refs-there : (intent : IntentData) (s : Store) → all_there (touched_refs intent) s ≡ true
    → all_there (changing_refs intent) s ≡ true
changing_refs-there intent s e =
    let sets = map (λ c. c.name) intent.sets in
    let commuted = map (λ c. c.name) intent.commuted in
    let all = both_true (all_there (guarded_refs intent) s) (all_there commuted s)
    (sym (there-append (guarded_refs intent) commuted s) ∙ e) in
    let first = both_true (all_there sets s) (all_there intent.ensured s)
    (sym (there-append sets intent.ensured s) ∙ all.0) in
    there-append sets commuted s ∙ ap₂ ◌&&◌ first.0 all.1

-- Changes of many

neither : (a b : Bool) → (a || b) ≡ false → (a ≡ false) × (b ≡ false)
neither true b e = cc
neither false b e = (refl, e)

none-other : (name : RefNameData) (stamp : ℕ) (cs : List ChangeData) (s : Store)
    → list_any (same_name name) (map (λ c. c.name) cs) ≡ false
    → ref_named name (with_changes stamp cs s) ≡ ref_named name s
none-other name stamp [] s none = refl
none-other name stamp (c ∷ cs) s none =
    let both = neither (same_name name c.name) (list_any (same_name name) (map (λ c. c.name) cs))
    none in
    none-other name stamp cs
    (with_changed_ref c.name (with_version (record { stamp = stamp; content = c.now })) s) both.1
    ∙ other-ref_named c.name name (with_version (record { stamp = stamp; content = c.now })) s both.0

-- a change that is among these is read
set-value : (stamp : ℕ) (cs : List ChangeData) (c : ChangeData) (s : Store)
    → refs_are_distinct (map (λ c. c.name) cs) ≡ true → all_there (map (λ c. c.name) cs) s ≡ true
    → (k : ℕ) → k < length cs → slice_index_or cs k c ≡ c
    → newest_value c.name (with_changes stamp cs s) ≡ Some c.now
set-value stamp [] c s once there k below here = absurd (omega arith)
set-value stamp (d ∷ cs) c s once there zero below here =
    subst (λ c. newest_value c.name (with_changes stamp (d ∷ cs) s) ≡ Some c.now) here
    (ap newest_in_ref (none-other d.name stamp cs (with_changed_ref d.name (with_version v) s) (alone _ _ once)
    ∙ changed_of-here d.name.owner d.name.number (with_version v) s)
    ∙ newest_of (ref_named d.name s) (both_true _ _ there).0) where
      v : Version
      v = record { stamp = stamp; content = d.now }

      alone : (a b : Bool) → (not a && b) ≡ true → a ≡ false
      alone true b e = cc
      alone false b e = refl

      newest_of : (o : Option Ref) → is_some o ≡ true
          → newest_in_ref (option_map (with_version v) o) ≡ Some d.now
      newest_of None e = cc
      newest_of (Some r) e = refl
set-value stamp (d ∷ cs) c s once there (suc k) below here =
    set-value stamp cs c (with_changed_ref d.name (with_version (record { stamp = stamp; content = d.now })) s)
    (both_true _ _ once).1
    (all-still_there d.name (with_version (record { stamp = stamp; content = d.now }))
    (map (λ c. c.name) cs) s ∙ (both_true _ _ there).1)
    k (omega arith) here

-- What was commuted

pub record Folds (name : RefNameData) (first : Result Datum Failure)
    (rest : Result (List ChangeData) Failure) (changes : List ChangeData) : Type 0 where
  pub now : Datum
  pub is_first : first ≡ Ok now
  pub others : List ChangeData
  pub are_rest : rest ≡ Ok others
  pub all : changes ≡ record { name = name; now = now } ∷ others

folds-parted : (name : RefNameData) (first : Result Datum Failure)
    (rest : Result (List ChangeData) Failure) (changes : List ChangeData)
    → (first >>= λ d. (rest >>= λ ds. Ok (record { name = name; now = d } ∷ ds))) ≡ Ok changes
    → Folds name first rest changes
folds-parted name (Err f) rest changes e = cc
folds-parted name (Ok d) (Err f) changes e = cc
folds-parted name (Ok d) (Ok ds) changes e = record {
  now = d;
  is_first = refl;
  others = ds;
  are_rest = refl;
  all = same (record { name = name; now = d } ∷ ds) changes e;
} where
  same : (xs ys : List ChangeData)
      → ◌≡◌ {A = Result (List ChangeData) Failure} (Ok xs) (Ok ys) → ys ≡ xs
  same xs ys e = cc

-- each ref that was commuted is among those that change, with what its commutes make
folded-among
    : (value : RefNameData → Option Datum) (cs : List CommutedData) (changes : List ChangeData)
    (c : CommutedData) → all_folded value cs ≡ Ok changes
    → (k : ℕ) → k < length cs → slice_index_or cs k c ≡ c
    → (now : Datum) × (folded_from c (value c.name) ≡ Ok now)
    × Contains changes (record { name = c.name; now = now })
folded-among value [] changes c e k below here = absurd (omega arith)
folded-among value (b ∷ cs) changes c e zero below here =
    let parts = folds-parted b.name (folded_from b (value b.name)) (all_folded value cs) changes e
    in (
      parts.now,
      subst (λ b. folded_from b (value b.name) ≡ Ok parts.now) here parts.is_first,
      subst (λ b. Contains changes (record { name = b.name; now = parts.now })) here
          (subst (λ ds. Contains ds (record { name = b.name; now = parts.now })) (sym parts.all)
          (0, omega arith, refl)),
    )
folded-among value (b ∷ cs) changes c e (suc k) below here =
    let parts = folds-parted b.name (folded_from b (value b.name)) (all_folded value cs) changes e
    in
    let rest = folded-among value cs parts.others c parts.are_rest k (omega arith) here in (
      rest.0,
      rest.1,
      subst (λ ds. Contains ds (record { name = c.name; now = rest.0 })) (sym parts.all)
          (suc rest.2.0, omega (arith, rest.2.1), rest.2.2),
    )

-- What was told of a commit

-- what was committed was acceptable and met nothing newer, and its commutes gave values
pub record IsCommitted (intent : IntentData) (s : Store) (fit newer : Bool) : Type 0 where
  pub is_fit : fit ≡ true
  pub is_older : newer ≡ false
  pub changes : List ChangeData
  pub folded : all_folded (λ name. newest_value name s) intent.commuted ≡ Ok changes

parted : (seat : ℕ) (intent : IntentData) (s : Store) (b n : Bool)
    → (checked_commit seat intent s b n).told ≡ Some (verdict committed) → IsCommitted intent s b n
parted seat intent s false n e = cc
parted seat intent s true true e = cc
parted seat intent s true false e =
    let given = by (all_folded (λ name. newest_value name s) intent.commuted) e in
    record { is_fit = refl; is_older = refl; changes = given.0; folded = given.1 } where
      by : (folds : Result (List ChangeData) Failure)
          → (concluded_commit seat intent.sets s folds).told ≡ Some (verdict committed)
          → (changes : List ChangeData) × (folds ≡ Ok changes)
      by (Err f) e = cc
      by (Ok changes) e = (changes, refl)

none-newer : (point : ℕ) (names : List RefNameData) (s : Store) (name : RefNameData)
    → any_newer point names s ≡ false → (k : ℕ) → k < length names
    → slice_index_or names k name ≡ name → is_newer_ref point (ref_named name s) ≡ false
none-newer point [] s name none k below here = absurd (omega arith)
none-newer point (b ∷ names) s name none zero below here =
    subst (λ b. is_newer_ref point (ref_named b s) ≡ false) here
    (neither (is_newer_ref point (ref_named b s)) (any_newer point names s) none).0
none-newer point (b ∷ names) s name none (suc k) below here =
    none-newer point names s name
    (neither (is_newer_ref point (ref_named b s)) (any_newer point names s) none).1 k (omega arith) here

pub met-none_newer : (s : Store) (seat point : ℕ) (intent : IntentData) (name : RefNameData)
    → (commit_by seat intent s (Some point)).told ≡ Some (verdict committed)
    → Contains (guarded_refs intent) name → is_newer_ref point (ref_named name s) ≡ false
met-none_newer s seat point intent name told has =
    none-newer point (guarded_refs intent) s name
    (parted seat intent s (all_there (touched_refs intent) s && intent_fits intent)
    (any_newer point (guarded_refs intent) s) told).is_older has.0 has.1 has.2

all-value : (cs : List ChangeData) (c : ChangeData) (s : Store)
    → refs_are_distinct (map (λ c. c.name) cs) ≡ true → all_there (map (λ c. c.name) cs) s ≡ true
    → Contains cs c → newest_value c.name (with_all cs s) ≡ Some c.now
all-value [] c s once there has = absurd (omega (arith, has.1))
all-value (d ∷ cs) c s once there has =
    set-value (s.around.counter + 1) (d ∷ cs) c (with_raised_counter s) once
    (with_raised_counter-there (map (λ c. c.name) (d ∷ cs)) s ∙ there) has.0 has.1 has.2

-- a change of what was committed is read
change-is_read : (s : Store) (seat point : ℕ) (intent : IntentData) (c : ChangeData)
    (did : IsCommitted intent s (all_there (touched_refs intent) s && intent_fits intent)
    (any_newer point (guarded_refs intent) s)) → Contains (intent.sets ++ did.changes) c
    → newest_value c.name (commit_by seat intent s (Some point)).store ≡ Some c.now
change-is_read s seat point intent c did has =
    let there = all_there (touched_refs intent) s in
    let fit = both_true there (intent_fits intent) did.is_fit in
    let once = both_true (all_fit intent.sets) (refs_are_distinct (changing_refs intent))
    (both_true (all_fit intent.sets && refs_are_distinct (changing_refs intent)) (all_take intent.commuted)
    fit.1).0 in
    let all = intent.sets ++ did.changes in
    let names = changed-names (λ name. newest_value name s) intent did.changes did.folded in
    ap₂ (λ b n. newest_value c.name (checked_commit seat intent s b n).store) did.is_fit did.is_older
    ∙ ap (λ folds. newest_value c.name (concluded_commit seat intent.sets s folds).store) did.folded
    ∙ ap newest_in_ref (left-ref_named seat c.name (with_all all s))
    ∙ all-value all c s (ap refs_are_distinct names ∙ once.1)
    (ap (λ names. all_there names s) names ∙ changing_refs-there intent s fit.0) has

pub set-is_read : (s : Store) (seat point : ℕ) (intent : IntentData) (c : ChangeData)
    → (commit_by seat intent s (Some point)).told ≡ Some (verdict committed)
    → Contains intent.sets c
    → newest_value c.name (commit_by seat intent s (Some point)).store ≡ Some c.now
set-is_read s seat point intent c told has =
    let did = parted seat intent s (all_there (touched_refs intent) s && intent_fits intent)
    (any_newer point (guarded_refs intent) s) told in
    change-is_read s seat point intent c did
    (Contains-append_left intent.sets did.changes c has)

pub commuted-is_folded : (s : Store) (seat point : ℕ) (intent : IntentData) (c : CommutedData)
    → (commit_by seat intent s (Some point)).told ≡ Some (verdict committed)
    → Contains intent.commuted c
    → (now : Datum) × (folded_from c (newest_value c.name s) ≡ Ok now)
    × (newest_value c.name (commit_by seat intent s (Some point)).store ≡ Some now)
commuted-is_folded s seat point intent c told has =
    let did = parted seat intent s (all_there (touched_refs intent) s && intent_fits intent)
    (any_newer point (guarded_refs intent) s) told in
    let among = folded-among (λ name. newest_value name s) intent.commuted did.changes c did.folded
    has.0 has.1 has.2 in
    let change : ChangeData = record { name = c.name; now = among.0 } in (
      among.0,
      among.1,
      change-is_read s seat point intent change did
          (Contains-append_right intent.sets did.changes change among.2),
    )

-- no change is of this name
not_among : (name : RefNameData) (names : List RefNameData)
    → ((other : RefNameData) → Contains names other → other ≢ name)
    → list_any (same_name name) names ≡ false
not_among name [] none = refl
not_among name (b ∷ names) none = elim (cases_Bool (same_name name b)) [
  | inl same ↦ absurd (none b (0, omega arith, refl)
      (sym (same-data name b (same_name-true name b same))))
  | inr differs ↦ ap₂ ◌||◌ differs (not_among name names
      (λ other has. none other (suc has.0, omega (arith, has.1), has.2)))
]

all-others : (name : RefNameData) (cs : List ChangeData) (s : Store)
    → list_any (same_name name) (map (λ c. c.name) cs) ≡ false
    → ref_named name (with_all cs s) ≡ ref_named name s
all-others name [] s none = refl
all-others name (c ∷ cs) s none =
    none-other name (s.around.counter + 1) (c ∷ cs) (with_raised_counter s) none ∙ with_raised_counter-ref_named name s

pub others-ref_named : (s : Store) (seat point : ℕ) (intent : IntentData) (name : RefNameData)
    → ((other : RefNameData) → Contains (changing_refs intent) other → other ≢ name)
    → ref_named name (commit_by seat intent s (Some point)).store ≡ ref_named name s
others-ref_named s seat point intent name none =
    by (all_there (touched_refs intent) s && intent_fits intent) (any_newer point (guarded_refs intent) s) where
      concluded-so : (folds : Result (List ChangeData) Failure)
          → all_folded (λ name. newest_value name s) intent.commuted ≡ folds
          → ref_named name (concluded_commit seat intent.sets s folds).store ≡ ref_named name s
      concluded-so (Err f) is = left-ref_named seat name s
      concluded-so (Ok changes) is =
          left-ref_named seat name (with_all (intent.sets ++ changes) s)
          ∙ all-others name (intent.sets ++ changes) s
          (ap (list_any (same_name name))
          (changed-names (λ name. newest_value name s) intent changes is)
          ∙ not_among name (changing_refs intent) none)

      by : (b n : Bool) → ref_named name (checked_commit seat intent s b n).store ≡ ref_named name s
      by false n = refl
      by true true = left-ref_named seat name s
      by true false =
          concluded-so (all_folded (λ name. newest_value name s) intent.commuted) refl
