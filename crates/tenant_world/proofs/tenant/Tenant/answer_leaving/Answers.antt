use Rattle.std.specs.Result.{is_ok}
use Rattle.std.proofs.Common.{◌<◌, ◌∙◌, refl, Some, Err, sym, ap, subst}
use Rattle.repl_asks.specs.Inside.View.{ask_view}
use Rattle.ref_table.specs.Refs.{refs_after}
use Rattle.server_rules.specs.Asking.{asked_of}
use Rattle.ref_table.specs.Numbered.{part_under}
use Rattle.server_rules.specs.Plan as deeds
use Rattle.server_rules.specs.Plan.{Plan}
use Rattle.server_rules.specs.Tenant.{ActorData, seat_of}
use Rattle.tenant_parts.specs.View.{actor_view}
use Rattle.tenant_parts.specs.Serving.{TableServes}
use Rattle.server_rules.specs.DeedResult.{DeedResult, carried_out, deed_result}
use Rattle.tenant_asks.specs.Acting.{actors_after}
use Rattle.tenant_asks.specs.Answers.{ask_answer_view}
use Rattle.tenant_asks.specs.Memories.{Remembers}
use Rattle.tenant_world.proofs.Lent.{err-so, still-seated}
use Rattle.tenant_asks.proofs.Remembering.{wanted-memory}
use Rattle.tenant_world.proofs.Standing.{asks-by, asks-idle, done-by, carried-tenant, refuses-unlent}
use Rattle.tenant_world.proofs.Standing.{lends-from, restored, does-acted, refuses-declined}
use Rattle.tenant_world.proofs.Standing.{refuses-with, accepts-by}
use Rattle.tenant_world.proofs.tenant.Tenant.answer_leaving.Goals as goal

pub returns-in_err-state-clause-refused : goal.returns-in_err-state-clause-refused
returns-in_err-state-clause-refused c = λ g q s r right stands serves.
    let a = c.args.actor in
    let ask = ask_view c.args.asked.now in
    let p : ActorData → Plan = λ actor. asked_of g a actor ask q actor.hand in
    let deed = deed_result g s q (deeds.asks_for a ask) in
    let why = c.in_err-state.field-0.0 in
    refuses-with g q s deed _ why (TableServes c.args.refs.now s r)
    c.from_residual.result c.from_residual.ensures.1
    (refuses-unlent g q s a p deed c.args.self.now _ why (asks-by g q s a ask) (asks-idle g a ask q)
    stands refl refl refl refl refl (err-so c.in_err-state.was c.lend.follows.holds-at-none) (sym c.in_err-state.ensures.refused)) serves

pub returns-clause-done : goal.returns-clause-done
returns-clause-done c = λ g q s refs right stands serves.
    let a = c.args.actor in
    let ask = ask_view c.args.asked.now in
    let p : ActorData → Plan = λ actor. asked_of g a actor ask q actor.hand in
    let there = ap (part_under (seat_of a)) (sym stands.actors) ∙ c.in_ok-state.ensures.lent in
    let some = subst (λ n. 0 < n) stands.steps c.in_ok-state.ensures.some in
    let before = actor_view c.in_ok-state.state.now in
    let d = carried_out s (p before) in
    let acted = c.in_ok-answered.ensures.served.acted g q s refs stands.remembers
    (record { serves = serves; reaches = stands.attempts }) in
    let actor = actor_view c.ask.new.state in
    let lends = lends-from g a actor c.args.self.now _ q s stands refl refl refl (c.lend.follows.holds c.ask.new.state (ap is_ok c.in_ok-state.was)) in
    let same = asks-by g q s a ask ∙ done-by q s a p before some there in
    let S : DeedResult → Type 0 = λ x. TableServes c.ask.new.refs x.store (refs_after x.store refs) in (
      does-acted g s.tenant a q s p (deed_result g s q (deeds.asks_for a ask)) before
          c.ask.new.memory actor (ask_answer_view c.in_ok-answered.answered.given) c.settle.new.self
          (asks-by g q s a ask) some there acted.0
          (λ behind r actors steps heard. c.settle.ensures.stands g q behind d.store actor lends
          (subst (λ t. Remembers g t c.ask.new.memory behind) (sym (carried-tenant s (p before))) r)
          acted.1.reaches
          (actors ∙ ap (λ b. actors_after b a actor q.actors) (sym c.is_interrupted.ensures)) steps heard),
      subst S (sym same) acted.1.serves,
    )

pub returns-in_err-answered-clause-refused : goal.returns-in_err-answered-clause-refused
returns-in_err-answered-clause-refused c = λ g q s r right stands serves.
    let a = c.args.actor in
    let ask = ask_view c.args.asked.now in
    let p : ActorData → Plan = λ actor. asked_of g a actor ask q actor.hand in
    let there = ap (part_under (seat_of a)) (sym stands.actors) ∙ c.in_ok-state.ensures.lent in
    let some = subst (λ n. 0 < n) stands.steps c.in_ok-state.ensures.some in
    let before = actor_view c.in_ok-state.state.now in
    let actor = actor_view c.ask.new.state in
    let deed = deed_result g s q (deeds.asks_for a ask) in
    let why = c.in_err-answered.field-0.0 in
    let declined = c.in_err-answered.ensures.served.declined g q s r stands.remembers
    (record { serves = serves; reaches = stands.attempts }) in
    let lends = lends-from g a actor c.args.self.now _ q s stands refl refl refl (c.lend.follows.holds c.ask.new.state (ap is_ok c.in_ok-state.was)) in
    refuses-with g q s deed _ why (TableServes c.ask.new.refs s r)
    c.from_residual-in_err-answered.result c.from_residual-in_err-answered.ensures.1
    (refuses-declined g s.tenant a q s p deed before c.ask.new.memory why _ (asks-by g q s a ask) some there declined.0
    (λ r. restored g a _ q s actor lends r declined.1.reaches (there ∙ ap Some (sym c.in_err-answered.ensures.served.step.stays))))
    declined.1.serves

pub returns-in_err-answered-clause-no_memory : goal.returns-in_err-answered-clause-no_memory
returns-in_err-answered-clause-no_memory c = λ g q s r stands serves none.
    let a = c.args.actor in
    let ask = ask_view c.args.asked.now in
    let p : ActorData → Plan = λ actor. asked_of g a actor ask q actor.hand in
    let there = ap (part_under (seat_of a)) (sym stands.actors) ∙ c.in_ok-state.ensures.lent in
    let some = subst (λ n. 0 < n) stands.steps c.in_ok-state.ensures.some in
    let why = wanted-memory c.in_err-answered.field-0.0 c.from_residual-in_err-answered.result
    c.from_residual-in_err-answered.ensures.1 none in
    accepts-by q s a p (deed_result g s q (deeds.asks_for a ask)) (actor_view c.in_ok-state.state.now)
    (asks-by g q s a ask) some there
    (c.in_err-answered.ensures.served.no_memory g q s r stands.remembers
    (record { serves = serves; reaches = stands.attempts }) (ap (λ e. Err e) why))

pub invariant_of-self-2 : goal.invariant_of-self-2
invariant_of-self-2 c =
    let self = c.args.self.now in
    record {
      taken = self.taken;
      seated = still-seated (seat_of c.args.actor) (actor_view c.ask.new.state) _ _ _ _
          c.ask.ensures.served.step.opened (c.lend.follows.holds c.ask.new.state (ap is_ok c.in_ok-state.was))
          self.seated;
    }
