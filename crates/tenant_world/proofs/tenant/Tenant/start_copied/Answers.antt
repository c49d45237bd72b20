use Rattle.std.specs.Result.{is_ok}
use Rattle.std.proofs.Common.{◌<◌, ◌∙◌, refl, Some, Err, sym, ap, subst}
use Rattle.ref_table.specs.Numbered.{part_under}
use Rattle.server_rules.specs.Plan as deeds
use Rattle.server_rules.specs.Plan.{Plan, quietly}
use Rattle.server_rules.specs.Deeds.{start_of}
use Rattle.server_rules.specs.Tenant.{ActorData, seat_of}
use Rattle.tenant_parts.specs.View.{actor_view}
use Rattle.server_rules.specs.DeedResult.{deed_result}
use Rattle.tenant_asks.specs.Acting.{actors_after}
use Rattle.tenant_world.specs.Answers.{start_answer_view}
use Rattle.tenant_world.proofs.Lent.{err-so, still-seated}
use Rattle.tenant_asks.proofs.Remembering.{wanted-memory}
use Rattle.tenant_world.proofs.Standing.{starts-by, starts-idle}
use Rattle.tenant_world.proofs.Standing.{refuses-unlent, lends-from, restored, does-acted}
use Rattle.tenant_world.proofs.Standing.{refuses-declined, refuses-so, accepts-by}
use Rattle.tenant_world.proofs.tenant.Tenant.start_copied.Goals as goal

pub returns-in_err-state-clause-refused : goal.returns-in_err-state-clause-refused
returns-in_err-state-clause-refused c = λ g q s right stands.
    let a = c.args.actor in
    let p : ActorData → Plan = λ actor. quietly (start_of g a actor q actor.hand) in
    let deed = deed_result g s q (deeds.starts a) in
    let why = c.in_err-state.field-0.0 in
    refuses-so g q s deed _ why c.from_residual.result c.from_residual.ensures.1
    (refuses-unlent g q s a p deed c.args.self.now _ why (starts-by g q s a) (starts-idle g a q)
    stands refl refl refl refl refl (err-so c.in_err-state.was c.lend.follows.holds-at-none) (sym c.in_err-state.ensures.refused))

pub returns-clause-done : goal.returns-clause-done
returns-clause-done c = λ g q s right stands.
    let a = c.args.actor in
    let p : ActorData → Plan = λ actor. quietly (start_of g a actor q actor.hand) in
    let there = ap (part_under (seat_of a)) (sym stands.actors) ∙ c.in_ok-state.ensures.lent in
    let some = subst (λ n. 0 < n) stands.steps c.in_ok-state.ensures.some in
    let before = actor_view c.in_ok-state.state.now in
    let actor = actor_view c.start.new.state in
    let acted = c.in_ok-started.ensures.acted g s.tenant q right stands.retries stands.remembers in
    let lends = lends-from g a actor c.args.self.now _ q s stands refl refl refl (c.lend.follows.holds c.start.new.state (ap is_ok c.in_ok-state.was)) in
    does-acted g s.tenant a q s p (deed_result g s q (deeds.starts a)) before
    c.start.new.memory actor (start_answer_view c.in_ok-started.started.given) c.settle.new.self
    (starts-by g q s a) some there acted
    (λ after r actors steps heard. c.settle.ensures.stands g q after s actor lends r stands.attempts
    (actors ∙ ap (λ b. actors_after b a actor q.actors) (sym c.is_interrupted.ensures)) steps heard)

pub returns-in_err-started-clause-refused : goal.returns-in_err-started-clause-refused
returns-in_err-started-clause-refused c = λ g q s right stands.
    let a = c.args.actor in
    let p : ActorData → Plan = λ actor. quietly (start_of g a actor q actor.hand) in
    let there = ap (part_under (seat_of a)) (sym stands.actors) ∙ c.in_ok-state.ensures.lent in
    let some = subst (λ n. 0 < n) stands.steps c.in_ok-state.ensures.some in
    let before = actor_view c.in_ok-state.state.now in
    let actor = actor_view c.start.new.state in
    let deed = deed_result g s q (deeds.starts a) in
    let why = c.in_err-started.field-0.0 in
    let declined = c.in_err-started.ensures.declined g s.tenant q right stands.retries stands.remembers in
    let lends = lends-from g a actor c.args.self.now _ q s stands refl refl refl (c.lend.follows.holds c.start.new.state (ap is_ok c.in_ok-state.was)) in
    refuses-so g q s deed _ why c.from_residual-in_err-started.result c.from_residual-in_err-started.ensures.1
    (refuses-declined g s.tenant a q s p deed before c.start.new.memory why _ (starts-by g q s a) some there declined
    (λ r. restored g a _ q s actor lends r stands.attempts (there ∙ ap Some (sym c.in_err-started.ensures.step.stays))))

pub returns-in_err-started-clause-no_memory : goal.returns-in_err-started-clause-no_memory
returns-in_err-started-clause-no_memory c = λ g q s right stands none.
    let a = c.args.actor in
    let p : ActorData → Plan = λ actor. quietly (start_of g a actor q actor.hand) in
    let there = ap (part_under (seat_of a)) (sym stands.actors) ∙ c.in_ok-state.ensures.lent in
    let some = subst (λ n. 0 < n) stands.steps c.in_ok-state.ensures.some in
    let why = wanted-memory c.in_err-started.field-0.0 c.from_residual-in_err-started.result
    c.from_residual-in_err-started.ensures.1 none in
    accepts-by q s a p (deed_result g s q (deeds.starts a)) (actor_view c.in_ok-state.state.now)
    (starts-by g q s a) some there
    (c.in_err-started.ensures.no_memory g s.tenant q stands.remembers (ap (λ e. Err e) why))

pub invariant_of-self-2 : goal.invariant_of-self-2
invariant_of-self-2 c =
    let self = c.args.self.now in
    record {
      taken = self.taken;
      seated = still-seated (seat_of c.args.actor) (actor_view c.start.new.state) _ _ _ _
          c.start.ensures.step.opened (c.lend.follows.holds c.start.new.state (ap is_ok c.in_ok-state.was))
          self.seated;
    }
