use Rattle.std.proofs.Common.{◌∙◌, sym}
use Rattle.repl_core.specs.Inside.Seen.{keeps_walk}
use Rattle.repl_core.proofs.Honest.{goes-so, halts-so, halts-none, accepts-goes}
use Rattle.repl_core.proofs.Left.{left-less, left-kept, left-none, some-waits, some-left}
use Rattle.repl_core.proofs.Places.{left-so}
use Rattle.repl_core.proofs.machine.Machine.go.Goals as goal

pub returns-in_default-clause-refused : goal.returns-in_default-clause-refused
returns-in_default-clause-refused c = λ g w right ground s walked.
    halts-none g w c.args.number c.args.actor c.args.self.now c.get_mut.follows.lender-at-none c.args.walks.now s
    walked (sym c.in_default.ensures.value) (c.get_mut.follows.holds-at-none c.args.number ∙ sym c.in_default.ensures.value) (λ u apart. c.get_mut.follows.holds-at-none u)

pub returns-clause-done : goal.returns-clause-done
returns-clause-done c = λ g w right ground s walked.
    let t = c.args.number in
    let old = c.args.self.now in
    goes-so g w t c.args.actor old (c.get_mut.follows.lender c.go.new.tenant) c.go.new.refs c.in-Some.tenant.now
    c.go.new.tenant c.args.walks.now c.go.new.self c.go.result s right ground
    (sym c.in-Some.ensures.value) walked
    (λ l st. c.go.ensures.done g l s.refs right st)
    (left-so c.in-Some.is (c.get_mut.follows.holds c.go.new.tenant)).put
    (left-so c.in-Some.is (c.get_mut.follows.holds c.go.new.tenant)).others

pub returns-clause-refused : goal.returns-clause-refused
returns-clause-refused c = λ g w right ground s walked.
    let t = c.args.number in
    let old = c.args.self.now in
    halts-so g w t c.args.actor old (c.get_mut.follows.lender c.go.new.tenant) c.go.new.refs c.in-Some.tenant.now
    c.go.new.tenant c.args.walks.now c.go.new.self c.go.result s right ground
    (sym c.in-Some.ensures.value) walked
    (λ l st. c.go.ensures.refused g l s.refs right st)
    (left-so c.in-Some.is (c.get_mut.follows.holds c.go.new.tenant)).put
    (left-so c.in-Some.is (c.get_mut.follows.holds c.go.new.tenant)).others

pub returns-in_default-clause-kept : goal.returns-in_default-clause-kept
returns-in_default-clause-kept c =
    left-none _ _ (sym c.in_default.ensures.value) (c.get_mut.follows.holds-at-none c.args.number ∙ sym c.in_default.ensures.value)

pub returns-clause-steps : goal.returns-clause-steps
returns-clause-steps c =
    left-less _ _ c.in-Some.tenant.now c.go.new.tenant c.go.result (sym c.in-Some.ensures.value)
    (left-so c.in-Some.is (c.get_mut.follows.holds c.go.new.tenant)).put c.go.ensures.counted.steps

pub returns-clause-kept : goal.returns-clause-kept
returns-clause-kept c =
    left-kept _ _ c.in-Some.tenant.now c.go.new.tenant c.go.result (sym c.in-Some.ensures.value)
    (left-so c.in-Some.is (c.get_mut.follows.holds c.go.new.tenant)).put c.go.ensures.counted.kept

pub returns-clause-held : goal.returns-clause-held
returns-clause-held c = λ held.
    some-waits _ c.in-Some.tenant.now (sym c.in-Some.ensures.value) (c.go.ensures.counted.held held)

pub returns-clause-no_memory : goal.returns-clause-no_memory
returns-clause-no_memory c = λ g w right ground s walked room none.
    let a = c.args.actor in
    accepts-goes g w c.args.number a c.args.self.now c.in-Some.tenant.now c.args.walks.now
    (keeps_walk c.args.walks.now c.go.new.self a) s right ground
    (sym c.in-Some.ensures.value) walked
    (λ l st. c.go.ensures.no_memory g l s.refs right st none)

pub returns-clause-unworn : goal.returns-clause-unworn
returns-clause-unworn c = λ room none.
    some-left _ c.in-Some.tenant.now (sym c.in-Some.ensures.value) (c.go.ensures.unworn none)
