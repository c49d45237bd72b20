use Rattle.std.proofs.Common.{refl, sym, subst, Some}
use Rattle.private_cells.specs.Agents.{next_turn, restarted}
use Rattle.private_cells.specs.Numbers.{RiseBelow}
use Rattle.private_cells.proofs.Keeping.{waiting_kept, waiting_made}
use Rattle.private_cells.proofs.Quieting.{restarted_waiting}
use Rattle.private_cells.proofs.Lawful.{end_waiting, rise_next, rise_sent}
use Rattle.private_cells.proofs.laws.numbers_rise.Goals as goal

pub returns-clause-sent : goal.returns-clause-sent
returns-clause-sent c = λ s n action h m.
    rise_sent s.sent (record { number = s.sent; action = action }) refl n m s.agents (h m)

pub returns-clause-made : goal.returns-clause-made
returns-clause-made c = λ s state h m.
    subst (RiseBelow s.sent) (sym (waiting_made state m s.agents)) (h m)

pub returns-clause-begun : goal.returns-clause-begun
returns-clause-begun c = λ s h m. rise_next (next_turn s) s m (h m)

pub returns-clause-finished : goal.returns-clause-finished
returns-clause-finished c = λ s value h m.
    subst (RiseBelow s.sent)
    (sym (end_waiting (λ a. record a { state = value }) (λ a. refl) m s.agents)) (h m)

pub returns-clause-failed : goal.returns-clause-failed
returns-clause-failed c = λ s f h m.
    subst (RiseBelow s.sent)
    (sym (end_waiting (λ a. record a { fault = Some f }) (λ a. refl) m s.agents)) (h m)

pub returns-clause-restarted : goal.returns-clause-restarted
returns-clause-restarted c = λ s n state h m.
    subst (RiseBelow s.sent)
    (sym (waiting_kept (restarted state) (restarted_waiting state) n m s.agents)) (h m)
