use Rattle.std.proofs.Common.{◌∙◌, sym, ap, Some, option_map}
use Rattle.repl_asks.specs.Inside.View.{ask_view}
use Rattle.repl_walker.specs.declared.steps.Reached.{Reached}
use Rattle.server_rules.specs.Plan as deeds
use Rattle.server_rules.specs.Honest.{honest_deed}
use Rattle.tenant_parts.specs.View.{run_view}
use Rattle.tenant_asks.specs.Acting.{is_accepted}
use Rattle.repl_core.specs.Inside.Standing.{parts, comes_to}
use Rattle.repl_core.specs.Inside.Walked.{walk_ended}
use Rattle.repl_core.proofs.WalkDeeds.{honest_deed-starts, honest_deed-asks, honest_deed-ends}
use Rattle.repl_core.proofs.Memory.{refused-worn, unkept-unseen}
use Rattle.repl_core.proofs.WalkSteps.{at-so}
use Rattle.repl_core.proofs.Steps.{does-as, refuses-as, stands-found, refused-memory}
use Rattle.repl_core.proofs.walks.Walks.go.Goals as goal

pub returns-in_default-clause-done : goal.returns-in_default-clause-done
returns-in_default-clause-done c = λ g l r right s.
    let a = c.args.actor in
    let none = sym (c.running.ensures g l.state l.store s.tenant)
    ∙ ap (option_map (λ it. run_view it.now)) c.in_default.is in
    does-as g l r (deeds.starts a) (honest_deed g a (Some (Some l.state)))
    (parts c.begin.new.tenant c.args.refs.now c.begin.new.self) c.begin.result
    (honest_deed-starts g a l.state none) (c.begin.ensures.done g l r right s)

pub returns-in_default-clause-refused : goal.returns-in_default-clause-refused
returns-in_default-clause-refused c = λ g l r right s.
    let a = c.args.actor in
    let none = sym (c.running.ensures g l.state l.store s.tenant)
    ∙ ap (option_map (λ it. run_view it.now)) c.in_default.is in
    refuses-as g l r (deeds.starts a) (honest_deed g a (Some (Some l.state)))
    (parts c.begin.new.tenant c.args.refs.now c.begin.new.self) c.begin.result
    (honest_deed-starts g a l.state none) (c.begin.ensures.refused g l r right s)

pub returns-in_err-find-clause-refused : goal.returns-in_err-find-clause-refused
returns-in_err-find-clause-refused c = λ g l r right s.
    let runs = sym (c.running.ensures g l.state l.store s.tenant)
    ∙ ap (option_map (λ it. run_view it.now)) c.in-Some.is in
    refused-memory g l r (honest_deed g c.args.actor (Some (Some l.state)))
    (parts c.args.tenant.now c.args.refs.now c.find.new.self) c.from_residual.result
    c.from_residual.ensures.1
    (stands-found g l r c.args.tenant.now c.args.refs.now c.args.self.now c.find.new.self s
    (c.find.ensures.walked l.state runs))

pub returns-in-Some-Asks-clause-done : goal.returns-in-Some-Asks-clause-done
returns-in-Some-Asks-clause-done c = λ g l r right s.
    let a = c.args.actor in
    let w = c.in-Some-Asks._walk in
    let k = c.in-Some-Asks._asked in
    let run = run_view c.in-Some.run'.now in
    let runs = sym (c.running.ensures g l.state l.store s.tenant)
    ∙ ap (option_map (λ it. run_view it.now)) c.in-Some.is in
    let found = stands-found g l r c.args.tenant.now c.args.refs.now c.args.self.now
    c.find.new.self s (c.find.ensures.walked l.state runs) in
    let at = at-so (λ p. p.now) c.get.result _ (Reached.Asks w k) _ c.get.ensures
    c.in-Some-Asks.is c.in-Some-Asks.field-0-is in
    does-as g l r (deeds.asks_for a (ask_view k)) (honest_deed g a (Some (Some l.state)))
    (parts c.ask.new.tenant c.ask.new.refs c.ask.new.self) c.ask.result
    (honest_deed-asks g a l.state run w k s.ground runs (found.walked a run (Reached.Asks w k) runs at))
    (c.ask.ensures.done g l r run w k right found runs at)

pub returns-in-Some-Asks-clause-refused : goal.returns-in-Some-Asks-clause-refused
returns-in-Some-Asks-clause-refused c = λ g l r right s.
    let a = c.args.actor in
    let w = c.in-Some-Asks._walk in
    let k = c.in-Some-Asks._asked in
    let run = run_view c.in-Some.run'.now in
    let runs = sym (c.running.ensures g l.state l.store s.tenant)
    ∙ ap (option_map (λ it. run_view it.now)) c.in-Some.is in
    let found = stands-found g l r c.args.tenant.now c.args.refs.now c.args.self.now
    c.find.new.self s (c.find.ensures.walked l.state runs) in
    let at = at-so (λ p. p.now) c.get.result _ (Reached.Asks w k) _ c.get.ensures
    c.in-Some-Asks.is c.in-Some-Asks.field-0-is in
    refuses-as g l r (deeds.asks_for a (ask_view k)) (honest_deed g a (Some (Some l.state)))
    (parts c.ask.new.tenant c.ask.new.refs c.ask.new.self) c.ask.result
    (honest_deed-asks g a l.state run w k s.ground runs (found.walked a run (Reached.Asks w k) runs at))
    (c.ask.ensures.refused g l r w k right found at)

pub returns-in-Some-Ends-clause-done : goal.returns-in-Some-Ends-clause-done
returns-in-Some-Ends-clause-done c = λ g l r right s.
    let a = c.args.actor in
    let e = c.in-Some-Ends._finished in
    let run = run_view c.in-Some.run'.now in
    let runs = sym (c.running.ensures g l.state l.store s.tenant)
    ∙ ap (option_map (λ it. run_view it.now)) c.in-Some.is in
    let found = stands-found g l r c.args.tenant.now c.args.refs.now c.args.self.now
    c.find.new.self s (c.find.ensures.walked l.state runs) in
    let at = at-so (λ p. p.now) c.get.result _ (Reached.Ends e) _ c.get.ensures
    c.in-Some-Ends.is c.in-Some-Ends.field-0-is in
    does-as g l r (deeds.ends a (walk_ended run e)) (honest_deed g a (Some (Some l.state)))
    (parts c.end.new.tenant c.args.refs.now c.end.new.self) c.end.result
    (honest_deed-ends g a l.state run e s.ground runs (found.walked a run (Reached.Ends e) runs at))
    (c.end.ensures.done g l r run e right found runs at)

pub returns-in-Some-Ends-clause-refused : goal.returns-in-Some-Ends-clause-refused
returns-in-Some-Ends-clause-refused c = λ g l r right s.
    let a = c.args.actor in
    let e = c.in-Some-Ends._finished in
    let run = run_view c.in-Some.run'.now in
    let runs = sym (c.running.ensures g l.state l.store s.tenant)
    ∙ ap (option_map (λ it. run_view it.now)) c.in-Some.is in
    let found = stands-found g l r c.args.tenant.now c.args.refs.now c.args.self.now
    c.find.new.self s (c.find.ensures.walked l.state runs) in
    let at = at-so (λ p. p.now) c.get.result _ (Reached.Ends e) _ c.get.ensures
    c.in-Some-Ends.is c.in-Some-Ends.field-0-is in
    refuses-as g l r (deeds.ends a (walk_ended run e)) (honest_deed g a (Some (Some l.state)))
    (parts c.end.new.tenant c.args.refs.now c.end.new.self) c.end.result
    (honest_deed-ends g a l.state run e s.ground runs (found.walked a run (Reached.Ends e) runs at))
    (c.end.ensures.refused g l r run e right found runs at)

pub returns-then-is_worn-clause-refused : goal.returns-then-is_worn-clause-refused
returns-then-is_worn-clause-refused c = λ g l r right s.
    refused-worn g l r c.args.actor (parts c.args.tenant.now c.args.refs.now c.args.self.now)
    (c.is_worn.ensures.worn c.if-is_worn.true) s

pub returns-in_default-clause-no_memory : goal.returns-in_default-clause-no_memory
returns-in_default-clause-no_memory c = λ g l r right s none seen.
    let runs = sym (c.running.ensures g l.state l.store s.tenant)
    ∙ ap (option_map (λ it. run_view it.now)) c.in_default.is in
    sym (ap (λ d. is_accepted (comes_to g l d).outcome)
    (honest_deed-starts g c.args.actor l.state runs))
    ∙ c.begin.ensures.no_memory g l r right s none

pub returns-in_err-find-clause-no_memory : goal.returns-in_err-find-clause-no_memory
returns-in_err-find-clause-no_memory c = λ g l r right s none seen.
    let runs = sym (c.running.ensures g l.state l.store s.tenant)
    ∙ ap (option_map (λ it. run_view it.now)) c.in-Some.is in
    absurd (unkept-unseen g c.args.actor l.state (run_view c.in-Some.run'.now) c.args.self.now
    c.find.new.self runs c.in_err-find.ensures.lost (c.in_err-find.ensures.stays c.args.actor) seen)

pub returns-in-Some-Asks-clause-no_memory : goal.returns-in-Some-Asks-clause-no_memory
returns-in-Some-Asks-clause-no_memory c = λ g l r right s none seen.
    let a = c.args.actor in
    let w = c.in-Some-Asks._walk in
    let k = c.in-Some-Asks._asked in
    let run = run_view c.in-Some.run'.now in
    let runs = sym (c.running.ensures g l.state l.store s.tenant)
    ∙ ap (option_map (λ it. run_view it.now)) c.in-Some.is in
    let found = stands-found g l r c.args.tenant.now c.args.refs.now c.args.self.now
    c.find.new.self s (c.find.ensures.walked l.state runs) in
    let at = at-so (λ p. p.now) c.get.result _ (Reached.Asks w k) _ c.get.ensures
    c.in-Some-Asks.is c.in-Some-Asks.field-0-is in
    let same = honest_deed-asks g a l.state run w k s.ground runs
    (found.walked a run (Reached.Asks w k) runs at) in
    sym (ap (λ d. is_accepted (comes_to g l d).outcome) same)
    ∙ c.ask.ensures.no_memory g l r w k found at none

pub returns-in-Some-Ends-clause-no_memory : goal.returns-in-Some-Ends-clause-no_memory
returns-in-Some-Ends-clause-no_memory c = λ g l r right s none seen.
    let a = c.args.actor in
    let e = c.in-Some-Ends._finished in
    let run = run_view c.in-Some.run'.now in
    let runs = sym (c.running.ensures g l.state l.store s.tenant)
    ∙ ap (option_map (λ it. run_view it.now)) c.in-Some.is in
    let found = stands-found g l r c.args.tenant.now c.args.refs.now c.args.self.now
    c.find.new.self s (c.find.ensures.walked l.state runs) in
    let at = at-so (λ p. p.now) c.get.result _ (Reached.Ends e) _ c.get.ensures
    c.in-Some-Ends.is c.in-Some-Ends.field-0-is in
    sym (ap (λ d. is_accepted (comes_to g l d).outcome) (honest_deed-ends g a l.state run e
    s.ground runs (found.walked a run (Reached.Ends e) runs at)))
    ∙ c.end.ensures.no_memory g l r run e right found runs at none
