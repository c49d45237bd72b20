-- What the calls of a tenant promise of a deed, for every tenant for which the code stands before.
use Rattle.std.specs.Prelude.{◌≡◌, true, ℕ, List, Option, MatchOption, Result, Err, IfOk, IfErr}
use Rattle.repl_asks.specs.Inside.View.{ask_view}
use Rattle.repl_asks.specs.declared.ask.Ask.{Ask}
use Rattle.repl_asks.specs.Job.{EndData, EndingData}
use Rattle.ref_table.specs.Refs.{TableRefs, refs_after}
use Rattle.server_rules.specs.DeedResult.{deed_result}
use Rattle.server_rules.specs.Ground.{Ground}
use Rattle.server_rules.specs.Grounds.{IsRight}
use Rattle.server_rules.specs.Plan.{Deed, StepAnswer, asks_for, ends, drains, reply_given}
use Rattle.ref_table.specs.Store.{Store}
use Rattle.server_rules.specs.Tenant.{TenantState}
use Rattle.server_rules.specs.declared.actor.Actor.{Actor}
use Rattle.server_rules.specs.declared.refusal.Refusal.{Refusal}
use Rattle.tenant_asks.specs.Acting.{is_accepted}
use Rattle.tenant_parts.specs.Serving.{RingRefTable, TableServes}
use Rattle.tenant_world.specs.Running.{IsEndOfForm, running_in}
use Rattle.tenant_world.specs.Standing.{StandsForState, AcceptsDeed, AcceptsDeedBy, RefusesDeed}
use Rattle.tenant_world.specs.declared.tenant.Tenant.{Tenant}

-- where the call succeeds, the deed is accepted, and this is its answer
abbrev pub Does : {A : Type 0} → Deed → Tenant → Tenant → Result A Refusal → (A → StepAnswer)
    → Type 0
Does deed old new result answer = (g : Ground) (q : TenantState) (s : Store) → IsRight g
    → StandsForState g old q s
    → IfOk result (λ x. AcceptsDeed g (deed_result g s q deed) new (answer x))

-- the same of a deed of an actor, which leaves every other actor as it was
abbrev pub DoesBy : {A : Type 0} → Actor → Deed → Tenant → Tenant → Result A Refusal
    → (A → StepAnswer) → Type 0
DoesBy a deed old new result answer = (g : Ground) (q : TenantState) (s : Store) → IsRight g
    → StandsForState g old q s
    → IfOk result (λ x. AcceptsDeedBy g a q (deed_result g s q deed) new (answer x))

-- where it fails, the deed is refused so, unless for want of memory, and nothing has changed
abbrev pub Declines : {A : Type 0} → Deed → Tenant → Tenant → Result A Refusal → Type 0
Declines deed old new result = (g : Ground) (q : TenantState) (s : Store) → IsRight g
    → StandsForState g old q s
    → IfErr result (RefusesDeed g q s (deed_result g s q deed) new)

-- memory is refused only where the deed is accepted
abbrev pub LacksMemory : {A : Type 0} → Deed → Tenant → Result A Refusal → Type 0
LacksMemory deed old result = (g : Ground) (q : TenantState) (s : Store) → IsRight g
    → StandsForState g old q s → result ≡ Err Refusal.NoMemory
    → is_accepted (deed_result g s q deed).outcome ≡ true

-- the oldest reply is taken out as the rules have it, or where none waits they refuse that
abbrev pub Drains : {A : Type 0} → Tenant → Tenant → Option A → (A → List ℕ) → Type 0
Drains old new result bytes = (g : Ground) (q : TenantState) (s : Store) → StandsForState g old q s
    → let d = deed_result g s q drains in MatchOption result (RefusesDeed g q s d new Refusal.Idle)
    (λ reply. AcceptsDeed g d new (reply_given (bytes reply)))

-- the same of a call that may fail
abbrev pub DrainsIfOk : {A E : Type 0} → Tenant → Tenant → Result (Option A) E → (A → List ℕ)
    → Type 0
DrainsIfOk old new result bytes = (g : Ground) (q : TenantState) (s : Store)
    → StandsForState g old q s → let d = deed_result g s q drains in
    IfOk result (λ it. MatchOption it (RefusesDeed g q s d new Refusal.Idle)
    (λ reply. AcceptsDeed g d new (reply_given (bytes reply))))

-- The same of what a form asks. The table of refs serves the tenant before and behind it.

abbrev pub DoesAsk : {A : Type 0} → Actor → Ask → Tenant → Tenant
    → RingRefTable → RingRefTable → Result A Refusal → (A → StepAnswer) → Type 0
DoesAsk a ask old new table_old table_new result answer =
    (g : Ground) (q : TenantState) (s : Store) (r : TableRefs) → IsRight g
    → StandsForState g old q s → TableServes table_old s r
    → let d = deed_result g s q (asks_for a (ask_view ask)) in
    IfOk result (λ x. AcceptsDeedBy g a q d new (answer x)
    × TableServes table_new d.store (refs_after d.store r))

abbrev pub DeclinesAsk : {A : Type 0} → Actor → Ask → Tenant → Tenant
    → RingRefTable → RingRefTable → Result A Refusal → Type 0
DeclinesAsk a ask old new table_old table_new result =
    (g : Ground) (q : TenantState) (s : Store) (r : TableRefs) → IsRight g
    → StandsForState g old q s → TableServes table_old s r
    → let d = deed_result g s q (asks_for a (ask_view ask)) in
    IfErr result (λ why. RefusesDeed g q s d new why × TableServes table_new s r)

abbrev pub AskLacksMemory : {A : Type 0} → Actor → Ask → Tenant → RingRefTable
    → Result A Refusal → Type 0
AskLacksMemory a ask old table_old result =
    (g : Ground) (q : TenantState) (s : Store) (r : TableRefs)
    → StandsForState g old q s → TableServes table_old s r
    → result ≡ Err Refusal.NoMemory
    → is_accepted (deed_result g s q (asks_for a (ask_view ask))).outcome ≡ true

-- The same of the end of the form that runs, by the job and the trace that are kept of it.

abbrev pub DoesEnd : {A : Type 0} → Actor → EndData → Tenant → Tenant → Result A Refusal
    → (A → StepAnswer) → Type 0
DoesEnd a ended old new result answer =
    (g : Ground) (q : TenantState) (s : Store) (e : EndingData) → IsRight g
    → StandsForState g old q s → IsEndOfForm (running_in a q) ended e
    → IfOk result (λ x. AcceptsDeedBy g a q (deed_result g s q (ends a e)) new (answer x))

abbrev pub DeclinesEnd : {A : Type 0} → Actor → EndData → Tenant → Tenant → Result A Refusal
    → Type 0
DeclinesEnd a ended old new result =
    (g : Ground) (q : TenantState) (s : Store) (e : EndingData) → IsRight g
    → StandsForState g old q s → IsEndOfForm (running_in a q) ended e
    → IfErr result (RefusesDeed g q s (deed_result g s q (ends a e)) new)

abbrev pub EndLacksMemory : {A : Type 0} → Actor → EndData → Tenant → Result A Refusal → Type 0
EndLacksMemory a ended old result =
    (g : Ground) (q : TenantState) (s : Store) (e : EndingData) → IsRight g
    → StandsForState g old q s → IsEndOfForm (running_in a q) ended e
    → result ≡ Err Refusal.NoMemory
    → is_accepted (deed_result g s q (ends a e)).outcome ≡ true
