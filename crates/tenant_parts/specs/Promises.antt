-- What a call of the refs promises, for every tenant, and all refs that table and attempts serve before.
use Rattle.std.specs.Prelude.{◌≡◌, ◌≤◌, ◌+◌, true, Option, IsNone, Result, IfOk, OnErr}
use Rattle.repl_asks.specs.Exchange.{AskData}
use Rattle.ref_table.specs.Calls.{performed}
use Rattle.ref_table.specs.Refs.{TableRefs}
use Rattle.ref_table.specs.Standing.{counter_of}
use Rattle.ref_table.specs.Store.{Store}
use Rattle.server_rules.specs.Asking.{call_of, is_allowed}
use Rattle.server_rules.specs.Tenant.{TenantState, seat_of}
use Rattle.server_rules.specs.declared.actor.Actor.{Actor}
use Rattle.tenant_parts.specs.AnswerCopies.{told_answer}
use Rattle.tenant_parts.specs.Serving.{RingRefTable, ServesWithAttempts, PerformsCall}
use Rattle.tenant_parts.specs.declared.attempts.Attempts.{Attempts}
use Rattle.tenant_parts.specs.declared.copies.AnswerCopies.{AnswerCopies}

-- where the call succeeds and the ask is allowed, it comes to what the rules tell of the ask
abbrev pub TellsCall : {E : Type 0} → Actor → AskData → RingRefTable → Attempts → RingRefTable
    → Attempts → Result (Option AnswerCopies) E → Type 0
TellsCall a ask table_old attempts_old table_new attempts_new result =
    (q : TenantState) (s : Store) (r : TableRefs) → ServesWithAttempts table_old attempts_old s r
    → is_allowed ask q.cells ≡ true
    → IfOk result (λ it. PerformsCall table_new attempts_new r (told_answer it)
    (performed s (call_of (seat_of a) ask)))

-- where it fails, table and attempts serve as before
abbrev pub ServesStill : {A E : Type 0} → RingRefTable → Attempts → RingRefTable → Attempts
    → Result A E → Type 0
ServesStill table_old attempts_old table_new attempts_new result =
    (s : Store) (r : TableRefs) → ServesWithAttempts table_old attempts_old s r
    → OnErr result (ServesWithAttempts table_new attempts_new s r)

-- one commit is counted at the most, and none where the call fails
abbrev pub CountsOne : {A E : Type 0} → RingRefTable → RingRefTable → Result A E → Type 0
CountsOne old new result =
    (counter_of new ≤ counter_of old + 1) × OnErr result (counter_of new ≡ counter_of old)

-- nor where nothing is told
abbrev pub CountsIfTold : {A E : Type 0} → RingRefTable → RingRefTable → Result (Option A) E
    → Type 0
CountsIfTold old new result = CountsOne old new result
    × IfOk result (λ it. IsNone it → counter_of new ≡ counter_of old)
