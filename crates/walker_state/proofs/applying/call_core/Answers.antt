use Rattle.std.proofs.Common.{ℕ, List, length, sym, ap, ◌∙◌}
use Rattle.repl_values.specs.Failure.{wrong_arity}
use Rattle.walker_state.proofs.Printing.{core_call-misfits}
use Rattle.walker_state.proofs.applying.call_core.Goals as goal

pub returns-then-not-takes-clause-meaning : goal.returns-then-not-takes-clause-meaning
returns-then-not-takes-clause-meaning c =
    let values = c.args.values.now in
    core_call-misfits c.args.function values _ c.args.state.now (sym c.if-not-takes.ensures)
    (c.in_ok-fault.ensures ∙ ap (λ (name : List ℕ). wrong_arity name (length values)) c.name.ensures.text)
