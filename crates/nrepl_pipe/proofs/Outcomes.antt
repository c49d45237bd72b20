-- The outcome where the result is an error.
use Rattle.std.proofs.Common.{ℕ, List, Option, Result, Ok, Err}
use Rattle.std.specs.Prelude.{IsErr, OnOk}
use Rattle.server_rules.specs.Ground.{Ground}
use Rattle.server_rules.specs.LoneTurns.{LoneTenant}
use Rattle.nrepl_pipe.specs.Served.{Moves, BeginsToServe, IsPipeOutcome}
use Rattle.nrepl_pipe.specs.declared.ends.PipeEnd.{PipeEnd}
use Rattle.nrepl_pipe.specs.declared.ends.PipeError.{PipeError}

pub outcome-err : (g : Ground) (q : LoneTenant) (unread left held holds : Option (List ℕ))
    (result : Result PipeEnd PipeError) → IsErr result
    → Moves unread left held holds (λ read written. BeginsToServe g q read written)
    → IsPipeOutcome g q unread left held holds result
outcome-err g q unread left held holds (Ok end) is begins = cc
outcome-err g q unread left held holds (Err error) is begins = begins

-- of an error nothing is told that holds where all went well
pub on_ok-err : {A E : Type 0} (P : Type 0) (result : Result A E) → IsErr result → OnOk result P
on_ok-err P (Ok value) is = cc
on_ok-err P (Err error) is = tt
