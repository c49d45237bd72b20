use Rattle.std.proofs.Common.{◌≡◌, ◌∙◌, ◌+◌, ◌<◌, ◌≤◌, ap, refl, sym, subst, ℕ, List, [], ◌∷◌, ◌++◌}
use Rattle.std.proofs.Common.{take, map, length, arith}
use Rattle.std.proofs.lemmas.List.{map_more, length-map, length-take-le, take_all}
use Rattle.server_rules.specs.Machine.World.{opened_world}
use Rattle.machine_runs.specs.Driven.{IsDriven, Drives}
use Rattle.machine_runs.specs.Turns.{turn_view}
use Rattle.machine_runs.specs.declared.turn.Turn.{Turn}
use Rattle.machine_runs.proofs.Alone.{driven-alone}
use Rattle.machine_runs.proofs.Attempts.{agrees-with-any}
use Rattle.machine_runs.proofs.Turning.{drives-none, drives-more}
use Rattle.machine_runs.proofs.lists.drive.Goals as goal

count : (xs : List Turn) (n place : ℕ) → n < length xs → place ≡ n
    → length (map turn_view (take n xs)) ≡ place
count xs n place below is =
    let within : n ≤ length xs = omega arith in
    length-map (take n xs) turn_view ∙ length-take-le n xs within ∙ sym is

pub loop-turn-init : goal.loop-turn-init
loop-turn-init c = record {
  place = refl;
  drives = λ g it. drives-none g (opened_world g) c.in_ok-driver.driver c.new-outputs.result
      (c.in_ok-driver.ensures.stands g it) c.new-outputs.ensures.drained
      c.new-outputs.ensures.refused;
}

pub loop-turn-preserved : goal.loop-turn-preserved
loop-turn-preserved c = record {
  place = ap (λ n. n + 1) c.loop-turn.invariant.place;
  drives = λ g it.
      let on = c.loop-turn.invariant.drives g it in
      let xs = c.args.turns.now in
      let i = c.loop-turn.turn-index in
      let before = map turn_view (take i xs) in
      let more : map turn_view (take (i + 1) xs) ≡ before ++ turn_view c.turn-item.result ∷ [] =
      map_more turn_view xs i c.turn-item.result c.loop-turn-test.true
      ∙ ap (λ x. before ++ turn_view x ∷ []) (sym c.turn-item.is) in
      subst (λ ts. Drives g (opened_world g) ts c.make_turn.new.driver c.make_turn.new.outputs)
      (sym more)
      (drives-more g (opened_world g) c.loop-turn.place before (turn_view c.turn-item.result)
      c.loop-turn.driver c.make_turn.new.driver c.loop-turn.outputs c.make_turn.new.outputs on
      (count xs i c.loop-turn.place c.loop-turn-test.true c.loop-turn.invariant.place)
      (c.in_ok-make_turn.ensures g _ on.stands));
}

pub returns-clause-driven : goal.returns-clause-driven
returns-clause-driven c = λ g it.
    let xs = c.args.turns.now in
    let all : take c.loop-turn.turn-index xs ≡ xs =
    take_all c.loop-turn.turn-index xs c.loop-turn-test.false in
    subst (λ ts. IsDriven g (opened_world g) (map turn_view ts) c.loop-turn.outputs) all
    (c.loop-turn.invariant.drives g it).is

pub returns-clause-alone : goal.returns-clause-alone
returns-clause-alone c = λ g it. driven-alone g (map turn_view c.args.turns.now) c.loop-turn.outputs
    (returns-clause-driven c g it)

pub returns-in_err-driver-clause-attempts : goal.returns-in_err-driver-clause-attempts
returns-in_err-driver-clause-attempts c = λ g. agrees-with-any g c.args.turns.now

pub returns-in_err-make_turn-clause-attempts : goal.returns-in_err-make_turn-clause-attempts
returns-in_err-make_turn-clause-attempts c = λ g. agrees-with-any g c.args.turns.now

pub returns-clause-attempts : goal.returns-clause-attempts
returns-clause-attempts c = λ g. agrees-with-any g c.args.turns.now
