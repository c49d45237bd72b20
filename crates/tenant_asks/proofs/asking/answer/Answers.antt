use Rattle.std.proofs.Common.{ap, subst, sym, ◌∙◌, option_map}
use Rattle.repl_asks.specs.Inside.View.{ask_view, answer_view}
use Rattle.repl_asks.specs.declared.exchange.Exchange.{Exchange}
use Rattle.server_rules.specs.Asking.{state_after, sender_of}
use Rattle.server_rules.specs.Request.{WorkInHand}
use Rattle.server_rules.specs.Tenant.{ActorData}
use Rattle.server_rules.specs.Plan.{Outcome, ask_answered}
use Rattle.server_rules.specs.declared.refusal.Refusal.{Refusal}
use Rattle.tenant_parts.specs.View.{actor_view, hand_view}
use Rattle.tenant_asks.specs.Acting.{AcceptsOutcome}
use Rattle.tenant_asks.specs.Asking.{exchange_from, with_exchange}
use Rattle.tenant_asks.proofs.Answering.{acted-ask_outcome, ask_outcome-told}
use Rattle.tenant_asks.proofs.Answering.{answered-untold, answered-accepted, declined-without}
use Rattle.tenant_asks.specs.Memories.{Remembers}
use Rattle.tenant_asks.proofs.Answering.{refused-so, held-so}
use Rattle.tenant_asks.proofs.asking.answer.Goals as goal

pub returns-in_default-perform_ask-clause-declined
    : goal.returns-in_default-perform_ask-clause-declined
returns-in_default-perform_ask-clause-declined c = λ g q s r h run remembers holds allowed.
    let stay = c.in_default-perform_ask.ensures.stays g q s r remembers holds in (
      declined-without g s c.args.actor (actor_view c.args.state.now) h run (ask_view c.args.ask.now) q
          c.perform_ask.new.memory c.why_refused-in_default-perform_ask.result
          (c.why_refused-in_default-perform_ask.ensures.idle s r stay.1) stay.0,
      stay.1,
    )

pub returns-in_default-perform_ask-clause-no_memory
    : goal.returns-in_default-perform_ask-clause-no_memory
returns-in_default-perform_ask-clause-no_memory c = λ g q s r h run remembers holds none.
    let stay = c.in_default-perform_ask.ensures.stays g q s r remembers holds in
    answered-accepted g s c.args.actor (actor_view c.args.state.now) h run (ask_view c.args.ask.now) q
    (c.why_refused-in_default-perform_ask.ensures.no_memory s r stay.1
    (refused-so c.why_refused-in_default-perform_ask.result Refusal.NoMemory none))

pub returns-in_default-told-clause-declined : goal.returns-in_default-told-clause-declined
returns-in_default-told-clause-declined c = λ g q s r h run remembers holds allowed.
    let told = rw c.in_default-told.is at
    (c.in-Ok-perform_ask.ensures.answered g q s r remembers holds allowed) in (
      record {
        refused = λ ne. answered-untold g s c.args.actor (actor_view c.args.state.now) h run
            (ask_view c.args.ask.now) q told.0;
        remembers = told.1;
      },
      told.2,
    )

pub returns-clause-acted : goal.returns-clause-acted
returns-clause-acted c = λ g q s r h run remembers holds allowed hand running.
    let a = c.args.actor in
    let actor = actor_view c.args.state.now in
    let ask = ask_view c.args.ask.now in
    let kept = answer_view c.in-Some-told.answer.kept in
    let given = answer_view c.in-Some-told.answer.given in
    let memory = c.perform_ask.new.memory in
    let new = actor_view c.keep.new.state in
    let answers = rw c.in-Some-told.is at
    (c.in-Ok-perform_ask.ensures.answered g q s r remembers holds allowed) in
    let same = rw c.in-Some-told.is at c.in-Ok-perform_ask.ensures.copies in
    let put = c.keep.ensures
    ∙ ap (λ (e : Exchange). with_exchange (exchange_from (ask_view e.ask) kept)
    (actor_view c.exchange_with_room.new.state)) c.deref_mut.ensures.value
    ∙ ap (λ x. with_exchange (exchange_from x kept) (actor_view c.exchange_with_room.new.state))
    c.in-Ok.ensures.copied
    ∙ ap (with_exchange (exchange_from ask kept)) c.exchange_with_room.ensures.same in
    let held = held-so (hand_view c.in-Some.hand) h (ap (option_map hand_view) (sym c.in-Some.is)
    ∙ ap (λ (x : ActorData). x.hand) c.exchange_with_room.ensures.same ∙ hand) in
    let R : WorkInHand → Type 0 = λ x. Remembers g s.tenant memory (state_after (sender_of a x) ask kept q) in
    let P : Outcome → Type 0 = λ x. AcceptsOutcome g s.tenant a q x memory new (ask_answered given) in (
      subst P (ask_outcome-told g s a actor h run ask q answers.told answers.is_told)
          (acted-ask_outcome g s.tenant memory a actor new h run ask q answers.told kept given hand running
          put answers.is same.given (subst R held answers.remembers)),
      answers.holds,
    )
