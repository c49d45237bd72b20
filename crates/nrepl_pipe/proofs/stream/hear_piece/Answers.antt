use Rattle.std.proofs.Common.{◌≢◌, rules}
use Rattle.server_rules.specs.declared.refusal.Refusal.{Refusal}
use Rattle.nrepl_pipe.proofs.Hearing.{refused-worn}
use Rattle.nrepl_pipe.proofs.stream.hear_piece.Goals as goal

pub returns-in-Err : goal.returns-in-Err
returns-in-Err g c = record {
  steps = λ never. cc;
  heard = λ h q right stands ready.
      let other : c.in-Err.field-0 ≢ Refusal.NoMemory = search rules in
      (refused-worn h q _ c.in-Err.field-0 ready
      (c.in-Err.ensures.as_it_was h q right stands other).0).0;
  told = tt;
}
