-- What `end` promises of an ending of the form that runs, and `finish` of one that is compared.
use Rattle.std.specs.Prelude.{◌≡◌, ℕ, true, Result, Err, IfOk, IfErr}
use Rattle.repl_asks.specs.Job.{EndData, EndingData}
use Rattle.ref_table.specs.Store.{Store}
use Rattle.server_rules.specs.DeedResult.{DeedResult, carried_out}
use Rattle.server_rules.specs.Ending.{end_of}
use Rattle.server_rules.specs.Ground.{Ground}
use Rattle.server_rules.specs.Grounds.{IsRight}
use Rattle.server_rules.specs.Tenant.{ActorData, TenantState}
use Rattle.server_rules.specs.declared.actor.Actor.{Actor}
use Rattle.server_rules.specs.declared.refusal.Refusal.{Refusal}
use Rattle.tenant_asks.specs.Acting.{AcceptsOutcome, RefusesOutcome, is_accepted}
use Rattle.tenant_asks.specs.Memories.{Remembers}
use Rattle.tenant_asks.specs.declared.memory.Remembered.{Remembered}
use Rattle.tenant_parts.specs.Attempts.{Reaches}
use Rattle.tenant_parts.specs.declared.attempts.Attempts.{Attempts}
use Rattle.tenant_world.specs.Answers.{end_answer_view}
use Rattle.tenant_world.specs.Comparing.{PassesComparison}
use Rattle.tenant_world.specs.declared.answers.EndAnswer.{EndAnswer}

-- what an end meets: what the tenant remembers, its attempts, and the state of the actor
pub record EndSite : Type 0 where
  pub memory : Remembered
  pub attempts : Attempts
  pub actor : ActorData

abbrev pub end_site : Remembered → Attempts → ActorData → EndSite
end_site memory attempts actor =
    record { memory = memory; attempts = attempts; actor = actor }

-- what the rules make of the ending
abbrev pub ended_result : Ground → Actor → ActorData → EndingData → TenantState → Store → DeedResult
ended_result g a actor e q s = carried_out s (end_of g a actor e q actor.hand)

-- where the call succeeds, the ending is accepted, for this tenant and these refs
abbrev pub EndsBy : Ground → TenantState → Store → Actor → EndingData → EndSite → EndSite
    → Result EndAnswer Refusal → Type 0
EndsBy g q s a e old new result = Remembers g s.tenant old.memory q → Reaches old.attempts s
    → let d = ended_result g a old.actor e q s in IfOk result (λ x.
    AcceptsOutcome g s.tenant a q d.outcome new.memory new.actor (end_answer_view x)
    × Reaches new.attempts d.store)

-- where it fails, the ending is refused so, unless for want of memory, and nothing has changed
abbrev pub DeclinesEndBy : Ground → TenantState → Store → Actor → EndingData → EndSite → EndSite
    → Result EndAnswer Refusal → Type 0
DeclinesEndBy g q s a e old new result = Remembers g s.tenant old.memory q → Reaches old.attempts s
    → let d = ended_result g a old.actor e q s in IfErr result (λ why.
    RefusesOutcome g s.tenant q d.outcome new.memory why × Reaches new.attempts s)

-- memory is refused only where the ending is accepted
abbrev pub EndByLacksMemory : Ground → TenantState → Store → Actor → EndingData → EndSite
    → Result EndAnswer Refusal → Type 0
EndByLacksMemory g q s a e old result = Remembers g s.tenant old.memory q
    → result ≡ Err Refusal.NoMemory → is_accepted (ended_result g a old.actor e q s).outcome ≡ true

abbrev pub AcceptsEnd : Actor → EndingData → EndSite → EndSite → Result EndAnswer Refusal → Type 0
AcceptsEnd a e old new result =
    (g : Ground) (q : TenantState) (s : Store) → IsRight g → EndsBy g q s a e old new result

abbrev pub RefusesEnd : Actor → EndingData → EndSite → EndSite → Result EndAnswer Refusal → Type 0
RefusesEnd a e old new result =
    (g : Ground) (q : TenantState) (s : Store) → IsRight g → DeclinesEndBy g q s a e old new result

abbrev pub LacksMemoryForEnd : Actor → EndingData → EndSite → Result EndAnswer Refusal → Type 0
LacksMemoryForEnd a e old result =
    (g : Ground) (q : TenantState) (s : Store) → IsRight g → EndByLacksMemory g q s a e old result

-- the same of each ending that comes to this and passes the comparison
abbrev pub AcceptsFinish : Actor → EndData → EndSite → EndSite → Result EndAnswer Refusal
    → Type 0
AcceptsFinish a ended old new result = (g : Ground) (q : TenantState) (s : Store) (e : EndingData)
    → e.end ≡ ended → PassesComparison g old.actor q e → EndsBy g q s a e old new result

abbrev pub RefusesFinish : Actor → EndSite → EndSite → Result EndAnswer Refusal → Type 0
RefusesFinish a old new result = (g : Ground) (q : TenantState) (s : Store) (e : EndingData)
    → DeclinesEndBy g q s a e old new result

abbrev pub LacksMemoryForFinish : Actor → EndSite → Result EndAnswer Refusal → Type 0
LacksMemoryForFinish a old result = (g : Ground) (q : TenantState) (s : Store) (e : EndingData)
    → PassesComparison g old.actor q e → EndByLacksMemory g q s a e old result
