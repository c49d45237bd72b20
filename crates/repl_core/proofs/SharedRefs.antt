-- What shared refs show at a point that the commits have come to stays, whatever steps are made.
use Rattle.std.proofs.Common.{◌≡◌, ◌∙◌, ℕ, zero, suc, ◌+◌, ◌<◌, ◌≤◌, List, [], ◌∷◌, ◌++◌, Bool}
use Rattle.std.proofs.Common.{true, false, nat_le, ◌&&◌, Option, Some, None, slice_get, refl, sym}
use Rattle.std.proofs.Common.{ap, subst, arith, if◌then◌else◌}
use Rattle.std.specs.Prelude.{option_map, Result, Ok, Err}
use Rattle.std.proofs.lemmas.Bool.{lt-leb}
use Rattle.value_data.specs.Datum.{Datum, OwnerData, shared, tenant}
use Rattle.repl_values.specs.Failure.{Failure}
use Rattle.repl_asks.specs.Transactions.{RefNameData, ChangeData, IntentData}
use Rattle.repl_asks.specs.Exchange.{AnswerData}
use Rattle.ref_table.specs.Numbered.{changed_at, part_under}
use Rattle.ref_history.specs.Versioned.{Ref, at_point, readable, with_version, with_failed_read}
use Rattle.ref_history.specs.Versioned.{with_least, with_most}
use Rattle.ref_table.specs.Store.{Around, Store, ref_named, newest_value, with_changed_ref}
use Rattle.ref_table.specs.Store.{changed_of}
use Rattle.ref_table.specs.Commit.{guarded_refs, touched_refs, all_there, intent_fits, any_newer}
use Rattle.ref_table.specs.Commit.{all_folded, with_changes, with_raised_counter, with_all}
use Rattle.ref_table.specs.Commit.{concluded_commit, checked_commit, commit_by}
use Rattle.ref_table.specs.Calls.{StoreCall, nothing, makes, begins, leaves_attempt, reads, counts}
use Rattle.ref_table.specs.Calls.{inside, outside}
use Rattle.ref_table.specs.Calls.{tells_least, tells_most, sets_least, sets_most, commits}
use Rattle.ref_table.specs.Calls.{gives_up, performed_begin, read_at, read_by, performed_bound_set}
use Rattle.ref_table.specs.Calls.{given_up, performed}
use Rattle.server_rules.specs.Ground.{Ground}
use Rattle.server_rules.specs.Plan.{Deed, Outcome, refuses, leaves}
use Rattle.server_rules.specs.Deeds.{plan}
use Rattle.server_rules.specs.Machine.World.{TenantData, World, Step, opens, does, closes, refused}
use Rattle.server_rules.specs.Machine.World.{is_used, open_count, open_step, ended_as, deed_step}
use Rattle.server_rules.specs.Machine.World.{close_step, step, world_or, run}
use Rattle.server_rules.specs.declared.refusal.Refusal.{Refusal}
use Rattle.server_rules.proofs.Steps.{room}
use Rattle.repl_core.specs.Standing.{store_in}

-- what a ref held at a point, and the bounds of its history
pub record Shown : Type 0 where
  pub held : Option Datum
  pub least : ℕ
  pub most : ℕ

abbrev pub shown_at : ℕ → Ref → Shown
shown_at point r = record {
  held = at_point point r.versions;
  least = r.least;
  most = r.most;
}

abbrev pub shown_in : ℕ → ℕ → List Ref → Option Shown
shown_in number point refs = option_map (shown_at point) (slice_get refs number)

-- the counter is no less, and each shared ref shows the same
abbrev pub ShowsAt : ℕ → Around → Around → Type 0
ShowsAt point old new = (old.counter ≤ new.counter)
    × ((number : ℕ) → shown_in number point new.refs ≡ shown_in number point old.refs)

shows-same : (point : ℕ) (x : Around) → ShowsAt point x x
shows-same point x = (omega arith, λ number. refl)

shows-on : (point : ℕ) (x y z : Around) → ShowsAt point x y → ShowsAt point y z → ShowsAt point x z
shows-on point x y z h k = (omega (arith, h.0, k.0), λ number. k.1 number ∙ h.1 number)

-- a change that leaves what a ref shows at the point
abbrev Leaves : ℕ → (Ref → Ref) → Type 0
Leaves point f = (r : Ref) → shown_at point (f r) ≡ shown_at point r

shown-changed : (n m point : ℕ) (f : Ref → Ref) (refs : List Ref) → Leaves point f
    → shown_in m point (changed_at n f refs) ≡ shown_in m point refs
shown-changed n m point f [] keeps = refl
shown-changed zero zero point f (r ∷ refs) keeps = ap (λ x. Some x) (keeps r)
shown-changed zero (suc m) point f (r ∷ refs) keeps = refl
shown-changed (suc n) zero point f (r ∷ refs) keeps = refl
shown-changed (suc n) (suc m) point f (r ∷ refs) keeps = shown-changed n m point f refs keeps

changed-shows : (owner : OwnerData) (n point : ℕ) (f : Ref → Ref) (s : Store) → Leaves point f
    → ShowsAt point s.around (changed_of owner n f s).around
changed-shows shared n point f s keeps =
    (omega arith, λ m. shown-changed n m point f s.around.refs keeps)
changed-shows (tenant t) n point f s keeps = shows-same point s.around

abbrev with_held : Ref → Option Datum → Shown
with_held r o = record { held = o; least = r.least; most = r.most }

later-leaves : (stamp point : ℕ) (d : Datum) → point < stamp
    → Leaves point (with_version (record { stamp = stamp; content = d }))
later-leaves stamp point d later r =
    ap (λ (b : Bool). with_held r (if b then Some d else at_point point r.versions))
    (lt-leb stamp point later)

changes-show : (stamp point : ℕ) (cs : List ChangeData) (s : Store) → point < stamp
    → ShowsAt point s.around (with_changes stamp cs s).around
changes-show stamp point [] s later = shows-same point s.around
changes-show stamp point (c ∷ cs) s later =
    let made = with_version (record { stamp = stamp; content = c.now }) in
    let next : Store = with_changed_ref c.name made s in
    shows-on point s.around next.around (with_changes stamp cs next).around
    (changed-shows c.name.owner c.name.number point made s (later-leaves stamp point c.now later))
    (changes-show stamp point cs next later)

all-show : (point : ℕ) (cs : List ChangeData) (s : Store) → point ≤ s.around.counter
    → ShowsAt point s.around (with_all cs s).around
all-show point [] s reached = shows-same point s.around
all-show point (c ∷ cs) s reached =
    let raised : Store = with_raised_counter s in
    let all = with_changes (s.around.counter + 1) (c ∷ cs) raised in
    shows-on point s.around raised.around all.around (omega arith, λ number. refl)
    (changes-show (s.around.counter + 1) point (c ∷ cs) raised (omega (arith, reached)))

begin-shows : (point seat : ℕ) (s : Store) (o : Option ℕ)
    → ShowsAt point s.around (performed_begin seat s o).store.around
begin-shows point seat s (Some p) = shows-same point s.around
begin-shows point seat s None = shows-same point s.around

read-shows : (point seat : ℕ) (name : RefNameData) (s : Store) (o : Option ℕ) (r : Option Ref)
    → ShowsAt point s.around (read_by seat name s o r).store.around
read-shows point seat name s o None = shows-same point s.around
read-shows point seat name s None (Some r) = shows-same point s.around
read-shows point seat name s (Some p) (Some r) = by (readable p r)
  where
    by : (d : Option Datum) → ShowsAt point s.around (read_at seat name s d).store.around
    by (Some d) = shows-same point s.around
    by None = changed-shows name.owner name.number point with_failed_read s (λ r. refl)

-- nobody sets the bounds of a shared ref
bound-shows : (point : ℕ) (name : RefNameData) (f : Ref → Ref) (s : Store) (r : Option Ref)
    → ShowsAt point s.around (performed_bound_set name name.owner f s r).store.around
bound-shows point name f s None = shows-same point s.around
bound-shows point name f s (Some r) = by name.owner refl
  where
    by : (o : OwnerData) → name.owner ≡ o
        → ShowsAt point s.around (performed_bound_set name o f s (Some r)).store.around
    by shared is = shows-same point s.around
    by (tenant t) is =
        subst (λ o. ShowsAt point s.around (changed_of o name.number f s).around) (sym is)
        (shows-same point s.around)

commit-shows : (point seat : ℕ) (intent : IntentData) (s : Store) (o : Option ℕ)
    → point ≤ s.around.counter → ShowsAt point s.around (commit_by seat intent s o).store.around
commit-shows point seat intent s None reached = shows-same point s.around
commit-shows point seat intent s (Some p) reached =
    checked (all_there (touched_refs intent) s && intent_fits intent)
    (any_newer p (guarded_refs intent) s)
  where
    concluded : (folds : Result (List ChangeData) Failure)
        → ShowsAt point s.around (concluded_commit seat intent.sets s folds).store.around
    concluded (Err f) = shows-same point s.around
    concluded (Ok changes) = all-show point (intent.sets ++ changes) s reached

    checked : (fits newer : Bool)
        → ShowsAt point s.around (checked_commit seat intent s fits newer).store.around
    checked false newer = shows-same point s.around
    checked true true = shows-same point s.around
    checked true false = concluded (all_folded (λ name. newest_value name s) intent.commuted)

given_up-shows : (point seat : ℕ) (s : Store) (told : Option AnswerData)
    → ShowsAt point s.around (given_up seat s told).store.around
given_up-shows point seat s None = shows-same point s.around
given_up-shows point seat s (Some answer) = shows-same point s.around

call-shows : (point : ℕ) (s : Store) (call : StoreCall) → point ≤ s.around.counter
    → ShowsAt point s.around (performed s call).store.around
call-shows point s nothing reached = shows-same point s.around
call-shows point s (makes d least most) reached = shows-same point s.around
call-shows point s (begins seat) reached =
    begin-shows point seat s (part_under seat s.mine.points)
call-shows point s (leaves_attempt seat) reached = shows-same point s.around
call-shows point s (reads seat name) reached =
    read-shows point seat name s (part_under seat s.mine.points) (ref_named name s)
call-shows point s (counts seat name) reached = shows-same point s.around
call-shows point s (inside seat) reached = shows-same point s.around
call-shows point s (outside seat) reached = shows-same point s.around
call-shows point s (tells_least name) reached = shows-same point s.around
call-shows point s (tells_most name) reached = shows-same point s.around
call-shows point s (sets_least name n) reached =
    bound-shows point name (with_least n) s (ref_named name s)
call-shows point s (sets_most name n) reached =
    bound-shows point name (with_most n) s (ref_named name s)
call-shows point s (commits seat intent) reached =
    commit-shows point seat intent s (part_under seat s.mine.points) reached
call-shows point s (gives_up seat call) reached =
    given_up-shows point seat s (performed s call).told

ended-shows : (point : ℕ) (w : World) (t : ℕ) (s : Store) (o : Outcome)
    → ShowsAt point w.around s.around
    → ShowsAt point w.around (world_or w (ended_as w t s o)).around
ended-shows point w t s (refuses why) h = shows-same point w.around
ended-shows point w t s (leaves q answer) h = h

deed-shows : (point : ℕ) (g : Ground) (w : World) (t : ℕ) (d : Deed)
    (o : Option (Option TenantData))
    → point ≤ w.around.counter
    → ShowsAt point w.around (world_or w (deed_step g w t d o)).around
deed-shows point g w t d None reached = shows-same point w.around
deed-shows point g w t d (Some None) reached = shows-same point w.around
deed-shows point g w t d (Some (Some kept)) reached =
    let p = plan g t kept.state d in
    let s : Store = store_in w.around t kept.mine in
    let called = performed s p.call in
    ended-shows point w t called.store (p.next called.told) (call-shows point s p.call reached)

close-shows : (point : ℕ) (w : World) (t : ℕ) (o : Option (Option TenantData))
    → ShowsAt point w.around (world_or w (close_step w t o)).around
close-shows point w t None = shows-same point w.around
close-shows point w t (Some None) = shows-same point w.around
close-shows point w t (Some (Some kept)) = shows-same point w.around

open-shows : (point : ℕ) (g : Ground) (w : World) (t : ℕ)
    → ShowsAt point w.around (world_or w (open_step g w t)).around
open-shows point g w t =
    elim (is_used t w.tenants)
    as (λ b. ShowsAt point w.around (world_or w (if b then refused Refusal.NumberUsed
    else room g w t (nat_le g.places (open_count w.tenants)))).around) [
      | true ↦ shows-same point w.around
      | false ↦
          elim (nat_le g.places (open_count w.tenants))
          as (λ b. ShowsAt point w.around (world_or w (room g w t b)).around) [
            | true ↦ shows-same point w.around
            | false ↦ shows-same point w.around
          ]
    ]

pub step-shows : (point : ℕ) (g : Ground) (w : World) (s : Step) → point ≤ w.around.counter
    → ShowsAt point w.around (world_or w (step g w s)).around
unfolding step
step-shows point g w (opens t) reached = open-shows point g w t
step-shows point g w (does t d) reached = deed-shows point g w t d (part_under t w.tenants) reached
step-shows point g w (closes t) reached = close-shows point w t (part_under t w.tenants)

pub run-shows : (point : ℕ) (g : Ground) (steps : List Step) (w : World) → point ≤ w.around.counter
    → ShowsAt point w.around (run g w steps).around
run-shows point g [] w reached = shows-same point w.around
run-shows point g (s ∷ steps) w reached =
    let h = step-shows point g w s reached in
    let next = world_or w (step g w s) in
    shows-on point w.around next.around (run g next steps).around h
    (run-shows point g steps next (omega (arith, reached, h.0)))
