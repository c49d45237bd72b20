use Rattle.std.proofs.Common.{◌≡◌, ◌+◌, ◌<◌, true, List, sym, subst, take, rules}
use Rattle.std.proofs.lemmas.List.{take_all, take_more}
use Rattle.server_rules.specs.declared.actor.Actor.{Actor}
use Rattle.server_rules.specs.Inside.Rounds.{IsEnough}
use Rattle.server_rules.specs.LoneTurns.{actors_of}
use Rattle.nrepl_pipe.specs.Inside.Parts.{with_turn}
use Rattle.nrepl_pipe.specs.declared.actors.Round.{Round}
use Rattle.nrepl_pipe.specs.declared.actors.Turned.{Turned}
use Rattle.nrepl_pipe.proofs.Passing.{enough-same, round-same}
use Rattle.nrepl_pipe.proofs.Taking.{TurnsOn, turns-more, fewer-left}
use Rattle.nrepl_pipe.proofs.actors.go_each.Goals as goal

pub loop-actor-preserved : goal.loop-actor-preserved
loop-actor-preserved g c = record {
  steps = search rules;
  used =
      let came : Turned = c.in_ok-go_once.field-0 in
      let start = (g.C.Core.left c.args.core.now).steps in
      let now = (g.C.Core.left c.loop-actor.core).steps in
      let later = (g.C.Core.left c.go_once.new.core).steps in
      let one : came ≡ Turned.Done → now ≡ later + 1 =
      λ (is : came ≡ Turned.Done). search (rules, is) in
      subst (λ (told : Round). told.uses_step ≡ true → later < start) (sym c.with-round.ensures)
      (fewer-left c.loop-actor.round came start now later c.loop-actor.invariant.used
      c.loop-actor.invariant.steps c.in_ok-go_once.ensures.steps one);
  turns = λ h q right stands.
      let on = c.loop-actor.invariant.turns h q right stands in
      let turned = c.in_ok-go_once.ensures.turned h _ right on.stands in
      let actors : List Actor = c.deref-actor-items.result.now in
      let index = c.loop-actor.actor-index in
      let came : Turned = c.in_ok-go_once.field-0 in
      let more = turns-more h _ (g.C.Core.stands h c.go_once.new.core) q _ _ c.loop-actor.round
      came on turned.0 turned.1 in
      let at = subst (λ (taken : List Actor). TurnsOn h (g.C.Core.stands h c.go_once.new.core) q
      taken (with_turn c.loop-actor.round came))
      (sym (take_more actors index Actor.Agents c.loop-actor-test.true)) more in
      subst (λ (told : Round). TurnsOn h (g.C.Core.stands h c.go_once.new.core) q
      (take (index + 1) actors) told) (sym c.with-round.ensures) at;
}

pub returns-clause-turned : goal.returns-clause-turned
returns-clause-turned g c = λ h q right stands.
    let actors : List Actor = c.deref-actor-items.result.now in
    let all : take c.loop-actor.actor-index actors ≡ actors =
    take_all c.loop-actor.actor-index actors c.loop-actor-test.false in
    let on = subst (λ (taken : List Actor). TurnsOn h (g.C.Core.stands h c.loop-actor.core) q taken
    c.loop-actor.round) all (c.loop-actor.invariant.turns h q right stands) in
    let enough = subst (IsEnough q) (sym c.deref-actor-items.ensures.value)
    (c.in_ok-actors.ensures h q stands) in
    let same = enough-same h q actors enough in (
      round-same h q actors (actors_of q) c.loop-actor.round same on.told_so,
      subst (g.C.Core.stands h c.loop-actor.core) same.run on.stands,
    )
