use Rattle.std.proofs.Common.{ap, sym}
use Rattle.connection_waits.proofs.Numbers.{sends}
use Rattle.connection_waits.proofs.feeding.send.Goals as goal

pub send_as-requires-clause-rule : goal.send_as-requires-clause-rule
send_as-requires-clause-rule g c =
    let is = c.requires.next in
    (sends _ _ _ _ (ap (λ v. v.sends) is) (sym (ap (λ v. v.number) is)), λ _ _ _ _. tt)
