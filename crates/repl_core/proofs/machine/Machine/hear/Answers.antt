use Rattle.std.proofs.Common.{◌∙◌, sym}
use Rattle.server_rules.specs.Plan as deeds
use Rattle.server_rules.specs.Plan.{messages_heard}
use Rattle.repl_core.proofs.Stores.{serves-all-still, hears-reached}
use Rattle.repl_core.specs.Standing.{store_in}
use Rattle.repl_core.proofs.Behind.{does-so, refuses-so, refuses-none, ok-with, err-with}
use Rattle.repl_core.proofs.Behind.{accepts-so}
use Rattle.repl_core.proofs.Left.{left-less, left-kept, left-none}
use Rattle.repl_core.proofs.Places.{left-so}
use Rattle.repl_core.proofs.machine.Machine.hear.Goals as goal

pub returns-in_default-clause-refused : goal.returns-in_default-clause-refused
returns-in_default-clause-refused c = λ g w right s.
    refuses-none g w c.args.number (deeds.hears c.args.piece.now) c.args.self.now c.get_mut.follows.lender-at-none s
    (sym c.in_default.ensures.value) (c.get_mut.follows.holds-at-none c.args.number ∙ sym c.in_default.ensures.value) (λ u apart. c.get_mut.follows.holds-at-none u)

pub returns-clause-done : goal.returns-clause-done
returns-clause-done c = λ g w right s.
    let t = c.args.number in
    let old = c.args.self.now in
    let d = deeds.hears c.args.piece.now in
    does-so g w t d old (c.get_mut.follows.lender c.hear.new.self) old.refs c.in-Some.tenant.now c.hear.new.self
    (λ n. messages_heard n) c.hear.result s (sym c.in-Some.ensures.value)
    (λ kept st serves.
    let at = store_in w.around t kept.mine in
    ok-with _ _ c.hear.result (c.hear.ensures.done g kept.state at right st)
    (serves-all-still old.refs at _ s.refs serves
    (hears-reached g kept.state at c.args.piece.now)))
    (left-so c.in-Some.is (c.get_mut.follows.holds c.hear.new.self)).put
    (left-so c.in-Some.is (c.get_mut.follows.holds c.hear.new.self)).others

pub returns-clause-refused : goal.returns-clause-refused
returns-clause-refused c = λ g w right s.
    let t = c.args.number in
    let old = c.args.self.now in
    let d = deeds.hears c.args.piece.now in
    refuses-so g w t d old (c.get_mut.follows.lender c.hear.new.self) old.refs c.in-Some.tenant.now c.hear.new.self
    c.hear.result s (sym c.in-Some.ensures.value)
    (λ kept st serves.
    err-with _ _ c.hear.result
    (c.hear.ensures.refused g kept.state (store_in w.around t kept.mine) right st) serves)
    (left-so c.in-Some.is (c.get_mut.follows.holds c.hear.new.self)).put
    (left-so c.in-Some.is (c.get_mut.follows.holds c.hear.new.self)).others

pub returns-in_default-clause-kept : goal.returns-in_default-clause-kept
returns-in_default-clause-kept c =
    left-none _ _ (sym c.in_default.ensures.value) (c.get_mut.follows.holds-at-none c.args.number ∙ sym c.in_default.ensures.value)

pub returns-clause-steps : goal.returns-clause-steps
returns-clause-steps c =
    left-less _ _ c.in-Some.tenant.now c.hear.new.self c.hear.result (sym c.in-Some.ensures.value)
    (left-so c.in-Some.is (c.get_mut.follows.holds c.hear.new.self)).put c.hear.ensures.steps

pub returns-clause-kept : goal.returns-clause-kept
returns-clause-kept c =
    left-kept _ _ c.in-Some.tenant.now c.hear.new.self c.hear.result (sym c.in-Some.ensures.value)
    (left-so c.in-Some.is (c.get_mut.follows.holds c.hear.new.self)).put c.hear.ensures.kept

pub returns-clause-no_memory : goal.returns-clause-no_memory
returns-clause-no_memory c = λ g w right s none.
    let t = c.args.number in
    accepts-so g w t (deeds.hears c.args.piece.now) c.args.self.now c.in-Some.tenant.now s (sym c.in-Some.ensures.value)
    (λ kept st serves. c.hear.ensures.no_memory g kept.state (store_in w.around t kept.mine)
    right st none)
