use Rattle.std.proofs.Common.{◌≡◌, ◌∙◌, sym, ap, subst, IfOk, IfErr, true}
use Rattle.repl_asks.specs.Inside.View.{trace_view}
use Rattle.repl_asks.specs.Inside.Jobs.{job_view, finished_view}
use Rattle.server_rules.specs.Plan as deeds
use Rattle.repl_asks.specs.Job.{EndingData}
use Rattle.server_rules.specs.DeedResult.{deed_result}
use Rattle.repl_walker.specs.Ends.{ending_view}
use Rattle.repl_core.proofs.Stores.{serves-all-still, ends-reached}
use Rattle.tenant_asks.specs.Acting.{is_accepted}
use Rattle.tenant_world.specs.Answers.{end_answer_view}
use Rattle.tenant_world.specs.Standing as world
use Rattle.repl_core.specs.Standing.{store_in}
use Rattle.repl_core.proofs.Behind.{does-so, refuses-so, refuses-none, of-actor, err-with}
use Rattle.repl_core.proofs.Behind.{accepts-so}
use Rattle.repl_core.proofs.Places.{left-so}
use Rattle.repl_core.proofs.machine.Machine.end_form.Goals as goal

pub returns-in_default-clause-refused : goal.returns-in_default-clause-refused
returns-in_default-clause-refused c = λ g w right s.
    refuses-none g w c.args.number (deeds.ends c.args.actor (ending_view c.args.ending.now)) c.args.self.now c.get_mut.follows.lender-at-none s
    (sym c.in_default.ensures.value) (c.get_mut.follows.holds-at-none c.args.number ∙ sym c.in_default.ensures.value) (λ u apart. c.get_mut.follows.holds-at-none u)

pub returns-clause-done : goal.returns-clause-done
returns-clause-done c = λ g w right s.
    let t = c.args.number in
    let old = c.args.self.now in
    let e = c.args.ending.now in
    let first : EndingData = record {
      job = job_view c.job.result.now;
      trace = trace_view c.trace.result.now;
      end = finished_view c.end.result.now;
    } in
    let is : first ≡ ending_view e =
    ap (λ j. record first { job = job_view j }) c.job.ensures
    ∙ ap (λ x. record first { job = job_view e.job; trace = trace_view x }) c.trace.ensures
    ∙ ap (λ f. record (ending_view e) { end = finished_view f }) c.end.ensures in
    let d = deeds.ends c.args.actor (ending_view c.args.ending.now) in
    does-so g w t d old (c.get_mut.follows.lender c.end_form.new.self) old.refs c.in-Some.tenant.now c.end_form.new.self
    end_answer_view c.end_form.result s (sym c.in-Some.ensures.value)
    (λ kept st serves.
    let at = store_in w.around t kept.mine in
    let D : EndingData → Type 0 = λ x. IfOk c.end_form.result (λ y.
    world.AcceptsDeedBy g c.args.actor kept.state
    (deed_result g at kept.state (deeds.ends c.args.actor x)) c.end_form.new.self (end_answer_view y)) in
    of-actor g c.args.actor kept.state _ c.end_form.new.self end_answer_view _ c.end_form.result
    (subst D is (c.end_form.ensures.done g kept.state at right st))
    (serves-all-still old.refs at _ s.refs serves
    (ends-reached g kept.state at c.args.actor (ending_view e))))
    (left-so c.in-Some.is (c.get_mut.follows.holds c.end_form.new.self)).put
    (left-so c.in-Some.is (c.get_mut.follows.holds c.end_form.new.self)).others

pub returns-clause-refused : goal.returns-clause-refused
returns-clause-refused c = λ g w right s.
    let t = c.args.number in
    let old = c.args.self.now in
    let e = c.args.ending.now in
    let first : EndingData = record {
      job = job_view c.job.result.now;
      trace = trace_view c.trace.result.now;
      end = finished_view c.end.result.now;
    } in
    let is : first ≡ ending_view e =
    ap (λ j. record first { job = job_view j }) c.job.ensures
    ∙ ap (λ x. record first { job = job_view e.job; trace = trace_view x }) c.trace.ensures
    ∙ ap (λ f. record (ending_view e) { end = finished_view f }) c.end.ensures in
    let d = deeds.ends c.args.actor (ending_view c.args.ending.now) in
    refuses-so g w t d old (c.get_mut.follows.lender c.end_form.new.self) old.refs c.in-Some.tenant.now c.end_form.new.self
    c.end_form.result s (sym c.in-Some.ensures.value)
    (λ kept st serves.
    let at = store_in w.around t kept.mine in
    let D : EndingData → Type 0 = λ x. IfErr c.end_form.result
    (world.RefusesDeed g kept.state at (deed_result g at kept.state (deeds.ends c.args.actor x))
    c.end_form.new.self) in
    err-with _ _ c.end_form.result
    (subst D is (c.end_form.ensures.refused g kept.state at right st)) serves)
    (left-so c.in-Some.is (c.get_mut.follows.holds c.end_form.new.self)).put
    (left-so c.in-Some.is (c.get_mut.follows.holds c.end_form.new.self)).others

pub returns-clause-no_memory : goal.returns-clause-no_memory
returns-clause-no_memory c = λ g w right s none.
    let t = c.args.number in
    let e = c.args.ending.now in
    let first : EndingData = record {
      job = job_view c.job.result.now;
      trace = trace_view c.trace.result.now;
      end = finished_view c.end.result.now;
    } in
    let is : first ≡ ending_view e =
    ap (λ j. record first { job = job_view j }) c.job.ensures
    ∙ ap (λ x. record first { job = job_view e.job; trace = trace_view x }) c.trace.ensures
    ∙ ap (λ f. record (ending_view e) { end = finished_view f }) c.end.ensures in
    accepts-so g w t (deeds.ends c.args.actor (ending_view e)) c.args.self.now c.in-Some.tenant.now s
    (sym c.in-Some.ensures.value)
    (λ kept st serves.
    let at = store_in w.around t kept.mine in
    let D : EndingData → Type 0 = λ x.
    is_accepted (deed_result g at kept.state (deeds.ends c.args.actor x)).outcome ≡ true in
    subst D is (c.end_form.ensures.no_memory g kept.state at right st none))
