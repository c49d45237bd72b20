use Rattle.std.specs.Result.{is_ok}
use Rattle.std.proofs.Common.{◌<◌, ◌∙◌, refl, Some, Err, sym, ap, subst}
use Rattle.repl_asks.specs.Inside.Jobs.{finished_view}
use Rattle.ref_table.specs.Numbered.{part_under}
use Rattle.server_rules.specs.Plan as deeds
use Rattle.server_rules.specs.Plan.{Plan}
use Rattle.server_rules.specs.Ending.{end_of}
use Rattle.server_rules.specs.Tenant.{ActorData, seat_of}
use Rattle.tenant_parts.specs.View.{actor_view}
use Rattle.server_rules.specs.DeedResult.{carried_out, deed_result}
use Rattle.tenant_asks.specs.Acting.{actors_after}
use Rattle.tenant_world.specs.Answers.{end_answer_view}
use Rattle.tenant_asks.specs.Memories.{Remembers}
use Rattle.tenant_world.specs.Running.{IsEndOfForm, running_of}
use Rattle.tenant_world.proofs.Ends.{own-passes}
use Rattle.tenant_world.proofs.Lent.{err-so, still-seated}
use Rattle.tenant_asks.proofs.Remembering.{wanted-memory}
use Rattle.tenant_world.proofs.Standing.{ends-by, ends-idle, carried-tenant, refuses-unlent}
use Rattle.tenant_world.proofs.Standing.{lends-from, restored, does-acted, refuses-declined}
use Rattle.tenant_world.proofs.Standing.{refuses-so, accepts-by}
use Rattle.tenant_world.proofs.tenant.Tenant.finish.Goals as goal

pub returns-in_err-state-clause-refused : goal.returns-in_err-state-clause-refused
returns-in_err-state-clause-refused c = λ g q s e right stands own.
    let a = c.args.actor in
    let p : ActorData → Plan = λ actor. end_of g a actor e q actor.hand in
    let deed = deed_result g s q (deeds.ends a e) in
    let why = c.in_err-state.field-0.0 in
    refuses-so g q s deed _ why c.from_residual.result c.from_residual.ensures.1
    (refuses-unlent g q s a p deed c.args.self.now _ why (ends-by g q s a e) (ends-idle g a e q)
    stands refl refl refl refl refl (err-so c.in_err-state.was c.lend.follows.holds-at-none) (sym c.in_err-state.ensures.refused))

pub returns-clause-done : goal.returns-clause-done
returns-clause-done c = λ g q s e right stands own.
    let a = c.args.actor in
    let p : ActorData → Plan = λ actor. end_of g a actor e q actor.hand in
    let there = ap (part_under (seat_of a)) (sym stands.actors) ∙ c.in_ok-state.ensures.lent in
    let some = subst (λ n. 0 < n) stands.steps c.in_ok-state.ensures.some in
    let before = actor_view c.in_ok-state.state.now in
    let actor = actor_view c.finish.new.state in
    let acted = c.in_ok-ended.ensures.acted g q s e own.end
    (own-passes g right (actor_view c.in_ok-state.state.now) q (finished_view c.args.finished.now) e
    (subst (λ o. IsEndOfForm (running_of o) (finished_view c.args.finished.now) e) there own))
    stands.remembers stands.attempts in
    let lends = lends-from g a actor c.args.self.now _ q s stands refl refl refl (c.lend.follows.holds c.finish.new.state (ap is_ok c.in_ok-state.was)) in
    does-acted g s.tenant a q s p (deed_result g s q (deeds.ends a e)) before
    c.finish.new.memory actor (end_answer_view c.in_ok-ended.ended) c.settle.new.self
    (ends-by g q s a e) some there acted.0
    (λ after r actors steps heard. c.settle.ensures.stands g q after (carried_out s (p before)).store actor lends
    (subst (λ t. Remembers g t c.finish.new.memory after) (sym (carried-tenant s (p before))) r) acted.1
    (actors ∙ ap (λ b. actors_after b a actor q.actors) (sym c.is_interrupted.ensures)) steps heard)

pub returns-in_err-ended-clause-refused : goal.returns-in_err-ended-clause-refused
returns-in_err-ended-clause-refused c = λ g q s e right stands own.
    let a = c.args.actor in
    let p : ActorData → Plan = λ actor. end_of g a actor e q actor.hand in
    let there = ap (part_under (seat_of a)) (sym stands.actors) ∙ c.in_ok-state.ensures.lent in
    let some = subst (λ n. 0 < n) stands.steps c.in_ok-state.ensures.some in
    let before = actor_view c.in_ok-state.state.now in
    let actor = actor_view c.finish.new.state in
    let deed = deed_result g s q (deeds.ends a e) in
    let why = c.in_err-ended.field-0.0 in
    let declined = c.in_err-ended.ensures.declined g q s e stands.remembers stands.attempts in
    let lends = lends-from g a actor c.args.self.now _ q s stands refl refl refl (c.lend.follows.holds c.finish.new.state (ap is_ok c.in_ok-state.was)) in
    refuses-so g q s deed _ why c.from_residual-in_err-ended.result c.from_residual-in_err-ended.ensures.1
    (refuses-declined g s.tenant a q s p deed before c.finish.new.memory why _ (ends-by g q s a e) some there declined.0
    (λ r. restored g a _ q s actor lends r declined.1 (there ∙ ap Some (sym c.in_err-ended.ensures.step.stays))))

pub returns-in_err-ended-clause-no_memory : goal.returns-in_err-ended-clause-no_memory
returns-in_err-ended-clause-no_memory c = λ g q s e right stands own none.
    let a = c.args.actor in
    let p : ActorData → Plan = λ actor. end_of g a actor e q actor.hand in
    let there = ap (part_under (seat_of a)) (sym stands.actors) ∙ c.in_ok-state.ensures.lent in
    let some = subst (λ n. 0 < n) stands.steps c.in_ok-state.ensures.some in
    let why = wanted-memory c.in_err-ended.field-0.0 c.from_residual-in_err-ended.result
    c.from_residual-in_err-ended.ensures.1 none in
    accepts-by q s a p (deed_result g s q (deeds.ends a e)) (actor_view c.in_ok-state.state.now)
    (ends-by g q s a e) some there
    (c.in_err-ended.ensures.no_memory g q s e
    (own-passes g right (actor_view c.in_ok-state.state.now) q (finished_view c.args.finished.now) e
    (subst (λ o. IsEndOfForm (running_of o) (finished_view c.args.finished.now) e) there own))
    stands.remembers (ap (λ e. Err e) why))

pub invariant_of-self-2 : goal.invariant_of-self-2
invariant_of-self-2 c =
    let self = c.args.self.now in
    record {
      taken = self.taken;
      seated = still-seated (seat_of c.args.actor) (actor_view c.finish.new.state) _ _ _ _
          c.finish.ensures.step.opened (c.lend.follows.holds c.finish.new.state (ap is_ok c.in_ok-state.was))
          self.seated;
    }
