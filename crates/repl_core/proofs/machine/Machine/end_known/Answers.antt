use Rattle.std.proofs.Common.{◌∙◌, sym, subst}
use Rattle.repl_asks.specs.Inside.Jobs.{finished_view}
use Rattle.server_rules.specs.Plan as deeds
use Rattle.repl_walker.specs.Ends.{ending_view}
use Rattle.repl_core.proofs.Stores.{serves-all-still, ends-reached}
use Rattle.tenant_world.specs.Answers.{end_answer_view}
use Rattle.tenant_world.specs.Running.{IsEndOfForm, running_in}
use Rattle.repl_core.specs.Standing.{store_in}
use Rattle.repl_core.proofs.Behind.{does-so, refuses-so, refuses-none, of-actor, err-with}
use Rattle.repl_core.proofs.Behind.{accepts-so}
use Rattle.repl_core.proofs.KeptForms.{end-of-kept}
use Rattle.repl_core.proofs.Places.{left-so}
use Rattle.repl_core.proofs.machine.Machine.end_known.Goals as goal

pub returns-in_default-clause-refused : goal.returns-in_default-clause-refused
returns-in_default-clause-refused c = λ g w right s known.
    refuses-none g w c.args.number (deeds.ends c.args.actor (ending_view c.args.ending.now)) c.args.self.now c.get_mut.follows.lender-at-none s
    (sym c.in_default.ensures.value) (c.get_mut.follows.holds-at-none c.args.number ∙ sym c.in_default.ensures.value) (λ u apart. c.get_mut.follows.holds-at-none u)

pub returns-clause-done : goal.returns-clause-done
returns-clause-done c = λ g w right s known.
    let t = c.args.number in
    let old = c.args.self.now in
    let e = c.args.ending.now in
    let there = sym c.in-Some.ensures.value in
    does-so g w t (deeds.ends c.args.actor (ending_view e)) old (c.get_mut.follows.lender c.finish.new.self) old.refs
    c.in-Some.tenant.now c.finish.new.self end_answer_view c.finish.result s there
    (λ kept st serves.
    let at = store_in w.around t kept.mine in
    let own : IsEndOfForm (running_in c.args.actor kept.state) (finished_view c.end.result.now) (ending_view e) =
    subst (λ f. IsEndOfForm (running_in c.args.actor kept.state) (finished_view f) (ending_view e)) (sym c.end.ensures)
    (end-of-kept g w t c.args.actor old c.in-Some.tenant.now (ending_view e) s there known kept.state at st) in
    of-actor g c.args.actor kept.state _ c.finish.new.self end_answer_view _ c.finish.result
    (c.finish.ensures.done g kept.state at (ending_view e) right st own)
    (serves-all-still old.refs at _ s.refs serves
    (ends-reached g kept.state at c.args.actor (ending_view e))))
    (left-so c.in-Some.is (c.get_mut.follows.holds c.finish.new.self)).put
    (left-so c.in-Some.is (c.get_mut.follows.holds c.finish.new.self)).others

pub returns-clause-refused : goal.returns-clause-refused
returns-clause-refused c = λ g w right s known.
    let t = c.args.number in
    let old = c.args.self.now in
    let e = c.args.ending.now in
    let there = sym c.in-Some.ensures.value in
    refuses-so g w t (deeds.ends c.args.actor (ending_view e)) old (c.get_mut.follows.lender c.finish.new.self) old.refs
    c.in-Some.tenant.now c.finish.new.self c.finish.result s there
    (λ kept st serves.
    let at = store_in w.around t kept.mine in
    let own : IsEndOfForm (running_in c.args.actor kept.state) (finished_view c.end.result.now) (ending_view e) =
    subst (λ f. IsEndOfForm (running_in c.args.actor kept.state) (finished_view f) (ending_view e)) (sym c.end.ensures)
    (end-of-kept g w t c.args.actor old c.in-Some.tenant.now (ending_view e) s there known kept.state at st) in
    err-with _ _ c.finish.result (c.finish.ensures.refused g kept.state at (ending_view e) right st own) serves)
    (left-so c.in-Some.is (c.get_mut.follows.holds c.finish.new.self)).put
    (left-so c.in-Some.is (c.get_mut.follows.holds c.finish.new.self)).others

pub returns-clause-no_memory : goal.returns-clause-no_memory
returns-clause-no_memory c = λ g w right s known none.
    let t = c.args.number in
    let old = c.args.self.now in
    let e = c.args.ending.now in
    let there = sym c.in-Some.ensures.value in
    accepts-so g w t (deeds.ends c.args.actor (ending_view e)) old c.in-Some.tenant.now s there
    (λ kept st serves.
    let at = store_in w.around t kept.mine in
    let own : IsEndOfForm (running_in c.args.actor kept.state) (finished_view c.end.result.now) (ending_view e) =
    subst (λ f. IsEndOfForm (running_in c.args.actor kept.state) (finished_view f) (ending_view e)) (sym c.end.ensures)
    (end-of-kept g w t c.args.actor old c.in-Some.tenant.now (ending_view e) s there known kept.state at st) in
    c.finish.ensures.no_memory g kept.state at (ending_view e) right st own none)
