-- What exchanges make of the shared namespace, and where they lead.
use Rattle.std.proofs.Common.{◌≡◌, [], ◌∷◌, ◌++◌, List, Option, Some, None, refl, sym, ap, subst, ◌∙◌}
use Rattle.std.specs.Prelude.{option_map}
use Rattle.value_data.specs.Datum.{Datum}
use Rattle.repl_asks.specs.Exchange as exchange
use Rattle.repl_asks.specs.Exchange.{AskData, AnswerData, Exchanged, Fits}
use Rattle.repl_asks.specs.Inside.View.{ask_view, answer_view, exchange_view, trace_view}
use Rattle.repl_asks.specs.declared.answer.Answer.{Answer}
use Rattle.repl_asks.specs.declared.ask.Ask.{Ask}
use Rattle.repl_asks.specs.declared.exchange.Exchange.{Exchange}
use Rattle.repl_asks.specs.InteractionTree.{InteractionTree, finished, asks}
use Rattle.repl_asks.specs.Leading.{Leads}
use Rattle.name_spaces.specs.Bindings.{Bindings}
use Rattle.server_rules.specs.Shared.{SharedData, nothing_shared, shared_by, shared_after}
use Rattle.server_rules.specs.Shared.{told_in_text, when_told_in_text, value_in_ref}
use Rattle.tenant_parts.specs.Serving.{RingRefTable}
use Rattle.shared_space.specs.Holding.{HoldsShared}
use Rattle.shared_space.specs.Telling.{ToldBehind}
use Rattle.shared_space.specs.Told.{shared_from, AreTold}

fit-some : (ask : AskData) (told answer : AnswerData) → Fits ask told → Some told ≡ Some answer
    → Fits ask answer
fit-some ask told answer fits is = let same : told ≡ answer = cc in subst (Fits ask) same fits

pub from-join : (s : SharedData) (xs ys : List Exchanged)
    → shared_from s (xs ++ ys) ≡ shared_from (shared_from s xs) ys
from-join s [] ys = refl
from-join s (x ∷ xs) ys = from-join (shared_after x.ask s) xs ys

pub told-join : (s : SharedData) (xs ys : List Exchanged)
    → AreTold s xs → AreTold (shared_from s xs) ys → AreTold s (xs ++ ys)
told-join s [] ys before behind = behind
told-join s (x ∷ xs) ys before behind =
    (before.0, told-join (shared_after x.ask s) xs ys before.1 behind)

pub told-rest : (s : SharedData) (xs ys : List Exchanged)
    → AreTold s (xs ++ ys) → AreTold (shared_from s xs) ys
told-rest s [] ys told = told
told-rest s (x ∷ xs) ys told = told-rest (shared_after x.ask s) xs ys told.1

-- what an evaluation makes of it is what is made of it where the exchanges lead
pub led-shared : (t end : InteractionTree) (xs : List Exchanged) (s : SharedData)
    → Leads t xs end → AreTold s xs → shared_by t s ≡ shared_by end (shared_from s xs)
led-shared t end [] s leads told = ap (λ it. shared_by it s) leads
led-shared (finished e) end (x ∷ xs) s leads told = absurd leads
led-shared (asks ask behind) end (x ∷ xs) s leads told =
    ap (λ a. when_told_in_text (told_in_text a s)
    (λ answer. shared_by (behind answer) (shared_after a s))) (sym leads.0)
    ∙ ap (λ o. when_told_in_text o
    (λ answer. shared_by (behind answer) (shared_after x.ask s))) told.0
    ∙ led-shared (behind x.answer) end xs (shared_after x.ask s) leads.1 told.1

-- what is told fits what was asked
pub told-fits : (ask : AskData) (s : SharedData) (answer : AnswerData)
    → told_in_text ask s ≡ Some answer → Fits ask answer
told-fits (exchange.resolve namespace symbol) s answer is =
    fit-some (exchange.resolve namespace symbol) _ answer refl is
told-fits (exchange.define namespace name binding) s answer is =
    fit-some (exchange.define namespace name binding) _ answer refl is
told-fits (exchange.new_ref d least most) s answer is =
    fit-some (exchange.new_ref d least most) _ answer refl is
told-fits (exchange.read name) s answer is = by (value_in_ref name.owner name.number s.refs) is where
  by : (o : Option Datum) → option_map (λ d. exchange.reading (exchange.found d)) o ≡ Some answer
      → Fits (exchange.read name) answer
  by (Some d) is =
      fit-some (exchange.read name) (exchange.reading (exchange.found d)) answer refl is
  by None is = absurd (cc)
told-fits (exchange.enter name) s answer is = absurd (cc)
told-fits exchange.begin s answer is = absurd (cc)
told-fits (exchange.history name) s answer is = absurd (cc)
told-fits (exchange.min_history name set) s answer is = absurd (cc)
told-fits (exchange.max_history name set) s answer is = absurd (cc)
told-fits (exchange.commit intent) s answer is = absurd (cc)
told-fits (exchange.new_atom d) s answer is = absurd (cc)
told-fits (exchange.read_atom n) s answer is = absurd (cc)
told-fits (exchange.set_atom n d) s answer is = absurd (cc)
told-fits (exchange.try_atom n seen next) s answer is = absurd (cc)
told-fits (exchange.new_agent d) s answer is = absurd (cc)
told-fits (exchange.read_agent n) s answer is = absurd (cc)
told-fits (exchange.agent_fault n) s answer is = absurd (cc)
told-fits (exchange.restart_agent n d) s answer is = absurd (cc)
told-fits (exchange.send sending) s answer is = absurd (cc)
told-fits (exchange.may_send sending) s answer is = absurd (cc)
told-fits (exchange.await ns) s answer is = absurd (cc)

view-added : (xs : List Exchange) (x : Exchange)
    → trace_view (xs ++ x ∷ []) ≡ trace_view xs ++ exchange_view x ∷ []
view-added [] x = refl
view-added (y ∷ ys) x = ap (λ l. exchange_view y ∷ l) (view-added ys x)

-- what a teller keeps once it has told one answer more
pub keeps-more : (names : Bindings) (table : RingRefTable) (xs : List Exchange) (x : Exchange)
    → AreTold nothing_shared (trace_view xs)
    → ToldBehind (shared_from nothing_shared (trace_view xs)) (ask_view x.ask) names table
    (Some (answer_view x.answer))
    → AreTold nothing_shared (trace_view (xs ++ x ∷ []))
    × HoldsShared names table (shared_from nothing_shared (trace_view (xs ++ x ∷ [])))
keeps-more names table xs x told behind =
    subst (λ l. AreTold nothing_shared l × HoldsShared names table (shared_from nothing_shared l))
    (sym (view-added xs x)) (
      told-join nothing_shared (trace_view xs) (exchange_view x ∷ []) told (sym behind.is, tt),
      subst (HoldsShared names table)
          (sym (from-join nothing_shared (trace_view xs) (exchange_view x ∷ []))) behind.holds,
    )

-- and its trace
pub trace-more : (xs : List Exchange) (ask : Ask) (noted given : Answer)
    → answer_view given ≡ answer_view noted
    → trace_view (xs ++ record { ask = ask; answer = noted } ∷ [])
    ≡ trace_view xs ++ record { ask = ask_view ask; answer = answer_view given } ∷ []
trace-more xs ask noted given same = view-added xs (record { ask = ask; answer = noted })
    ∙ ap (λ a. trace_view xs ++ record { ask = ask_view ask; answer = a } ∷ []) (sym same)
