use Rattle.nrepl_pipe.proofs.Growing.{on_err}
use Rattle.nrepl_pipe.proofs.Rounding.{round-makes}
use Rattle.nrepl_pipe.proofs.Halting.{round-broken}
use Rattle.nrepl_pipe.proofs.rounds.run_round.Goals as goal

pub returns-in_err-write_replies-clause-err : goal.returns-in_err-write_replies-clause-err
returns-in_err-write_replies-clause-err g c = λ h q right stands.
    let turned = c.in_ok-round.ensures.turned h q right stands in
    on_err c.from_residual-in_err-write_replies.result
    (round-broken h q _ _ (c.in_err-write_replies.ensures.err h _ turned.1))

pub returns-clause-ok : goal.returns-clause-ok
returns-clause-ok g c = λ h q right stands.
    let turned = c.in_ok-round.ensures.turned h q right stands in (
      turned.0,
      round-makes h (g.C.Core.stands h c.write_replies.new.core) q _ _
          (c.in_ok-write_replies.ensures.ok h _ turned.1),
    )
