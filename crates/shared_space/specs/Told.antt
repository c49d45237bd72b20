-- What the text of the shared namespace made of it, by what it asked and was told.
use Rattle.std.specs.Prelude.{◌≡◌, ⊤, List, [], ◌∷◌, Bool, Some}
use Rattle.repl_asks.specs.Exchange.{Exchanged, Heard}
use Rattle.repl_asks.specs.Inside.View.{trace_view}
use Rattle.repl_asks.specs.declared.exchange.Exchange.{Exchange}
use Rattle.server_rules.specs.Shared.{SharedData, nothing_shared, told_in_text, shared_after}

-- what these exchanges made of it
abbrev pub shared_from : SharedData → List Exchanged → SharedData
shared_from s [] = s
shared_from s (x ∷ xs) = shared_from (shared_after x.ask s) xs

-- each was answered as the rules say
abbrev pub AreTold : SharedData → List Exchanged → Type 0
AreTold s [] = ⊤
AreTold s (x ∷ xs) = (told_in_text x.ask s ≡ Some x.answer) × AreTold (shared_after x.ask s) xs

-- who answers the text, as others see it: what was asked and answered, and whether no more is
pub record TellerData : Type 0 where
  pub trace : List Exchange
  pub stopped : Bool

abbrev pub exchanges : TellerData → List Exchanged
exchanges t = trace_view t.trace

abbrev pub heard_of_teller : TellerData → Heard
heard_of_teller t = record { trace = exchanges t; stopped = t.stopped }

-- what is shared by then
abbrev pub shared_so_far : TellerData → SharedData
shared_so_far t = shared_from nothing_shared (exchanges t)
