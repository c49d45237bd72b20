use Rattle.std.proofs.Common.{IsTrue, subst, ℕ, Option}
use Rattle.std.specs.BTreeSet.{keys}
use Rattle.std.specs.Option.{IfSome}
use Rattle.std.proofs.lemmas.Result.{IfOk-weaker}
use Rattle.repl_sessions.specs.Inside.Leaving.{remaining_named}
use Rattle.repl_sessions.specs.Sessions.{is_open}
use Rattle.repl_sessions.proofs.Naming.{named-open}
use Rattle.tenant_moves.proofs.staying.read_message.Goals as goal

pub returns-clause-served : goal.returns-clause-served
returns-clause-served c =
    let s = remaining_named (keys c.args.leaving.now) c.args.sessions.now in
    IfOk-weaker c.operation_of.result _ _ (λ a named n is.
    let it = named n is in
    subst (λ (o : Option ℕ). IfSome o (λ n. IsTrue (is_open s.sessions n))) it.1 (named-open s it.0))
    c.operation_of.ensures.named
