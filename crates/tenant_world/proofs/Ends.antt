-- An ending, beside the rules' step.
use Rattle.std.proofs.Common.{◌≡◌, ℕ, List, Bool, true, false, Option, None, Some, refl, sym, ap}
use Rattle.std.proofs.Common.{◌∙◌, if◌then◌else◌, option_and_then, subst, unwrap_or}
use Rattle.std.proofs.Common.{Result, Ok, Err, OnOk, IfErr}
use Rattle.repl_asks.specs.Exchange.{Exchanged}
use Rattle.repl_asks.specs.Job.{EndData, EndingData}
use Rattle.server_rules.specs.Ground.{Ground}
use Rattle.server_rules.specs.Request.{WorkInHand, Run}
use Rattle.server_rules.specs.Tenant.{ActorData, TenantState, is_held}
use Rattle.server_rules.specs.Ending.{end_of, end_running, end_checked, end_compared, end_accepted}
use Rattle.server_rules.specs.Ending.{with_left_attempt}
use Rattle.server_rules.specs.Starting.{interrupted_in}
use Rattle.server_rules.specs.Plan.{Plan, refuses, quietly}
use Rattle.ref_table.specs.Store.{Store}
use Rattle.server_rules.specs.declared.actor.Actor.{Actor}
use Rattle.server_rules.specs.declared.refusal.Refusal.{Refusal}
use Rattle.trace_comparison.specs.Difference.{DiffersFirstAt}
use Rattle.server_rules.specs.Grounds.{IsRight}
use Rattle.server_rules.specs.DeedResult.{carried_out}
use Rattle.tenant_world.specs.Comparing.{ending_refusal, difference_told, compared_run}
use Rattle.tenant_world.specs.Comparing.{PassesComparison, FailsComparison, refusal_in}
use Rattle.tenant_asks.specs.Acting.{RefusesOutcome}
use Rattle.tenant_asks.specs.Memories.{Remembers}
use Rattle.tenant_asks.specs.declared.memory.Remembered.{Remembered}
use Rattle.tenant_parts.specs.Attempts.{Reaches}
use Rattle.tenant_parts.specs.declared.attempts.Attempts.{Attempts}
use Rattle.std.specs.Result.{IsErrAnd}
use Rattle.tenant_world.specs.Running.{IsEndOfForm, running_of}

-- the traces differ first at this place
pub differs-so : (g : Ground) → IsRight g → (run : Run) (e : EndingData) (place : ℕ)
    → e.job ≡ run.job → DiffersFirstAt place e.trace run.trace
    → ((m n : ℕ) (xs ys : List Exchanged) → DiffersFirstAt m xs ys → DiffersFirstAt n xs ys → m ≡ n)
    → ((n : ℕ) (xs ys : List Exchanged) → xs ≡ ys → DiffersFirstAt n xs ys → ⊥)
    → Some (Refusal.TraceMismatch place) ≡ ending_refusal g run e
differs-so g right run e place job differs unique nowhere =
    by (g.comparisons.difference e.trace run.trace) refl
    ∙ ap (λ b. difference_told b (g.comparisons.difference e.trace run.trace))
    (sym ((right.comparisons.same_job e.job run.job).1 job))
  where
    by : (d : Option ℕ) → g.comparisons.difference e.trace run.trace ≡ d
        → Some (Refusal.TraceMismatch place) ≡ difference_told true d
    by None is = absurd (nowhere place e.trace run.trace
        ((right.comparisons.no_difference e.trace run.trace).0 is) differs)
    by (Some p) is =
        ap (λ n. Some (Refusal.TraceMismatch n)) (unique place p e.trace run.trace differs
        (right.comparisons.first_difference e.trace run.trace p is))

runs-so : (g : Ground) (a : Actor) (actor : ActorData) (e : EndingData) (q : TenantState) (h : WorkInHand)
    (run : Run) → actor.hand ≡ Some h → h.running ≡ Some run
    → end_of g a actor e q actor.hand ≡ end_running g a actor h e q (Some run)
runs-so g a actor e q h run hand running =
    ap (end_of g a actor e q) hand ∙ ap (end_running g a actor h e q) running

abbrev pub held_by : Ground → Actor → ActorData → WorkInHand → Run → EndingData → TenantState → Bool → Plan
held_by g a actor h run e q b =
    if b then quietly (refuses Refusal.Held) else end_checked g a actor h run e q

abbrev pub closed_by : Ground → Actor → ActorData → WorkInHand → Run → EndingData → TenantState → Bool → Plan
closed_by g a actor h run e q b =
    if b then with_left_attempt a (interrupted_in a h q)
    else held_by g a actor h run e q (is_held q)

pub ends-interrupted : (g : Ground) (a : Actor) (actor : ActorData) (e : EndingData) (q : TenantState)
    (h : WorkInHand) (run : Run) → actor.hand ≡ Some h → h.running ≡ Some run → actor.is_closed ≡ true
    → with_left_attempt a (interrupted_in a h q) ≡ end_of g a actor e q actor.hand
ends-interrupted g a actor e q h run hand running closed = sym (
    runs-so g a actor e q h run hand running
    ∙ ap (λ (b : Bool). closed_by g a actor h run e q b) closed)

-- the form that runs is compared, where neither stands in the way
compared-so : (actor : ActorData) (q : TenantState) (h : WorkInHand) (run : Run) → actor.hand ≡ Some h
    → h.running ≡ Some run → actor.is_closed ≡ false → is_held q ≡ false
    → compared_run actor q ≡ Some run
compared-so actor q h run hand running open_still free =
    ap (λ (b : Bool). if b then None else if is_held q then None else running_of (Some actor)) open_still
    ∙ ap (λ (b : Bool). if b then None else running_of (Some actor)) free
    ∙ ap (option_and_then (λ x. x.running)) hand ∙ running

pub ends-accepted : (g : Ground) (a : Actor) (actor : ActorData) (e : EndingData) (q : TenantState)
    (h : WorkInHand) (run : Run) → actor.hand ≡ Some h → h.running ≡ Some run → actor.is_closed ≡ false
    → is_held q ≡ false → PassesComparison g actor q e
    → end_accepted a actor h run e q ≡ end_of g a actor e q actor.hand
ends-accepted g a actor e q h run hand running open_still free passes = sym (
    runs-so g a actor e q h run hand running
    ∙ ap (λ (b : Bool). closed_by g a actor h run e q b) open_still
    ∙ ap (λ (b : Bool). held_by g a actor h run e q b) free
    ∙ by (g.comparisons.is_same_job e.job run.job) (g.comparisons.difference e.trace run.trace)
    (sym (passes run (compared-so actor q h run hand running open_still free))))
  where
    by : (b : Bool) (d : Option ℕ) → None ≡ difference_told b d
        → end_compared a actor h run e q b d ≡ end_accepted a actor h run e q
    by false d never = absurd (cc)
    by true (Some place) never = absurd (cc)
    by true None same = refl

-- what is compared is the form that runs, and neither stands in the way
compared-then : (actor : ActorData) (q : TenantState) (run : Run) → compared_run actor q ≡ Some run
    → (actor.is_closed ≡ false) × (is_held q ≡ false) × (running_of (Some actor) ≡ Some run)
compared-then actor q run is = by actor.is_closed (is_held q) (running_of (Some actor)) is
  where
    by : (b c : Bool) (r : Option Run)
        → (if b then None else if c then None else r) ≡ Some run
        → (b ≡ false) × (c ≡ false) × (r ≡ Some run)
    by true c r never = absurd (cc)
    by false true r never = absurd (cc)
    by false false r is = (refl, refl, is)

in-hand-then : (o : Option WorkInHand) (run : Run) → option_and_then (λ h. h.running) o ≡ Some run
    → (h : WorkInHand) × (o ≡ Some h) × (h.running ≡ Some run)
in-hand-then None run never = absurd (cc)
in-hand-then (Some h) run is = (h, refl, is)

-- an ending that is not that of the form is refused for it
pub ends-refused : (g : Ground) (s : Store) (a : Actor) (actor : ActorData) (e : EndingData) (q : TenantState)
    (run : Run) (why : Refusal) → compared_run actor q ≡ Some run
    → Some why ≡ ending_refusal g run e
    → (carried_out s (end_of g a actor e q actor.hand)).outcome ≡ refuses why
ends-refused g s a actor e q run why compared differs =
    let now = compared-then actor q run compared in
    let k = in-hand-then actor.hand run now.2 in
    ap (λ p. (carried_out s p).outcome) (runs-so g a actor e q k.0 run k.1 k.2
    ∙ ap (λ (b : Bool). closed_by g a actor k.0 run e q b) now.0
    ∙ ap (λ (b : Bool). held_by g a actor k.0 run e q b) now.1)
    ∙ by k.0 (g.comparisons.is_same_job e.job run.job) (g.comparisons.difference e.trace run.trace) differs
  where
    by : (h : WorkInHand) (b : Bool) (d : Option ℕ) → Some why ≡ difference_told b d
        → (carried_out s (end_compared a actor h run e q b d)).outcome ≡ refuses why
    by h false d same =
        let is : why ≡ Refusal.TraceMismatch 0 = cc in
        sym (ap refuses is)
    by h true (Some place) same =
        let is : why ≡ Refusal.TraceMismatch place = cc in
        sym (ap refuses is)
    by h true None never = absurd (cc)

-- the ending of the form that runs passes
pub own-passes : (g : Ground) → IsRight g → (actor : ActorData) (q : TenantState) (end : EndData)
    (e : EndingData) → IsEndOfForm (running_of (Some actor)) end e → PassesComparison g actor q e
own-passes g right actor q end e own = λ run compared.
    let runs = (compared-then actor q run compared).2 in
    ap (λ b. difference_told b (g.comparisons.difference e.trace run.trace))
    ((right.comparisons.same_job e.job run.job).1 (own.job run runs))
    ∙ ap (difference_told true)
    ((right.comparisons.no_difference e.trace run.trace).1 (own.trace run runs))

-- what a comparison comes to
pub passes-so : {A : Type 0} (g : Ground) (actor : ActorData) (q : TenantState) (e : EndingData) (run : Run)
    (res : Result A Refusal) → compared_run actor q ≡ Some run
    → refusal_in res ≡ ending_refusal g run e → OnOk res (PassesComparison g actor q e)
passes-so g actor q e run (Ok x) compared told = λ other is.
    let same : run ≡ other = ap (λ o. unwrap_or o run) (sym compared ∙ is) in
    subst (λ r. ending_refusal g r e ≡ None) same (sym told)
passes-so g actor q e run (Err why) compared told = tt

pub fails-so : {A : Type 0} (g : Ground) (actor : ActorData) (q : TenantState) (e : EndingData) (run : Run)
    (res : Result A Refusal) → compared_run actor q ≡ Some run
    → refusal_in res ≡ ending_refusal g run e → IfErr res (FailsComparison g actor q e)
fails-so g actor q e run (Ok x) compared told = tt
fails-so g actor q e run (Err why) compared told =
    record { run = run; compared = compared; differs = told }

-- where nothing is compared
pub passes-uncompared : (g : Ground) (actor : ActorData) (q : TenantState) (e : EndingData)
    → None ≡ compared_run actor q → PassesComparison g actor q e
passes-uncompared g actor q e none = λ run some. absurd (cc)

-- it is refused, and all is as it was
pub declined-compared : {X : Type 0} (g : Ground) (s : Store) (a : Actor) (actor : ActorData)
    (e : EndingData) (q : TenantState) (memory : Remembered) (attempts : Attempts) (why : Refusal)
    (res : Result X Refusal) → IsErrAnd res (λ x. x ≡ why) → FailsComparison g actor q e why
    → Remembers g s.tenant memory q → Reaches attempts s
    → IfErr res (λ x. RefusesOutcome g s.tenant q
    (carried_out s (end_of g a actor e q actor.hand)).outcome memory x × Reaches attempts s)
declined-compared g s a actor e q memory attempts why (Ok x) never fails remembers reaches = tt
declined-compared g s a actor e q memory attempts why (Err x) is fails remembers reaches =
    let same : x ≡ why = is in (
      record {
        refused = λ _. ends-refused g s a actor e q fails.run why fails.compared fails.differs
            ∙ ap refuses (sym same);
        remembers = remembers;
      },
      reaches,
    )
