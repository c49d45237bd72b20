-- The loop over the actors of a round.
use Rattle.std.proofs.Common.{◌+◌, ◌<◌, ◌≤◌, arith, ◌≡◌, ◌≢◌, ℕ, List, [], ◌∷◌, ◌++◌, Bool, true}
use Rattle.std.proofs.Common.{false, not, refl, sym, ap, ◌∙◌, subst}
use Rattle.server_rules.specs.Ground.{Ground}
use Rattle.server_rules.specs.declared.actor.Actor.{Actor}
use Rattle.server_rules.specs.LoneTurns.{LoneTenant, goes, LoneStepped, accepted, refused, lone_step, lone_or}
use Rattle.server_rules.specs.LoneTurns.{lone_after, lone_run}
use Rattle.nrepl_pipe.specs.Schedule.{go_each}
use Rattle.nrepl_pipe.specs.Inside.Parts.{TurnsSo, with_turn, IsRound}
use Rattle.nrepl_pipe.specs.declared.actors.Round.{Round}
use Rattle.nrepl_pipe.specs.declared.actors.Turned.{Turned}
use Rattle.nrepl_pipe.proofs.Turns.{lone_run-append}
use Rattle.nrepl_pipe.proofs.Going.{StepsSo, go-steps}
use Rattle.nrepl_pipe.proofs.EachRound.{held-waits}
use Rattle.nrepl_pipe.proofs.Told.{with-turn}

pub record TurnsOn (g : Ground) (Stands : LoneTenant → Type 0) (q : LoneTenant) (actors : List Actor)
    (told : Round) : Type 0 where
  pub stands : Stands (lone_run g q (go_each actors))
  pub told_so : IsRound told g q (go_each actors)
  -- another round follows where a step was used up; else all is as it was, and it does for replies
  -- that wait
  pub used : told.uses_step ≡ true → told.is_last ≡ false
  pub untouched : told.uses_step ≡ false → (lone_run g q (go_each actors) ≡ q)
      × (told.is_last ≡ false → q.state.replies ≢ [])

abbrev pub none_told : Round
none_told = record { is_last = true; uses_step = false; is_worn = false }

pub turns-none : (g : Ground) (Stands : LoneTenant → Type 0) (q : LoneTenant) → Stands q
    → TurnsOn g Stands q [] none_told
turns-none g Stands q stands = record {
  stands = stands;
  told_so = record { is_last = (λ _. tt, λ _. refl); is_worn = (λ is. cc, λ never. absurd never) };
  used = λ is. cc;
  untouched = λ _. (refl, λ is. cc);
}

go-more : (actors : List Actor) (a : Actor)
    → go_each (actors ++ a ∷ []) ≡ go_each actors ++ goes a ∷ []
go-more [] a = refl
go-more (b ∷ actors) a = ap (λ turns. goes b ∷ turns) (go-more actors a)

used-more : (told : Round) (came : Turned) → (told.uses_step ≡ true → told.is_last ≡ false)
    → (with_turn told came).uses_step ≡ true → (with_turn told came).is_last ≡ false
used-more told Turned.Done before is = refl
used-more told Turned.Held before is = refl
used-more told Turned.Worn before is = before is
used-more told Turned.Idle before is = before is

-- `start` steps were left as the round began, `now` before the turn, and `later` are behind it
pub fewer-left : (told : Round) (came : Turned) (start now later : ℕ)
    → (told.uses_step ≡ true → now < start) → now ≤ start → later ≤ now
    → (came ≡ Turned.Done → now ≡ later + 1) → (with_turn told came).uses_step ≡ true
    → later < start
fewer-left told Turned.Done start now later before most fewer one is =
    let spent = one refl in omega arith
fewer-left told Turned.Held start now later before most fewer one is =
    let already = before is in omega arith
fewer-left told Turned.Worn start now later before most fewer one is =
    let already = before is in omega arith
fewer-left told Turned.Idle start now later before most fewer one is =
    let already = before is in omega arith

-- no step is used up
stays : (q : LoneTenant) (told : Round) (came : Turned) (s : LoneStepped) → TurnsSo came s
    → (with_turn told came).uses_step ≡ false
    → (told.uses_step ≡ false) × (lone_or q s ≡ q)
stays q told Turned.Done s is none = cc
stays q told Turned.Held s is none = (none, ap (lone_or q) is)
stays q told Turned.Worn s is none = (none, ap (lone_or q) is)
stays q told Turned.Idle (refused why) is none = (none, refl)
stays q told Turned.Idle (accepted new bytes) is none = absurd is.0

waits : (q : LoneTenant) (told : Round) (came : Turned) (s : LoneStepped) → StepsSo q s → TurnsSo came s
    → (with_turn told came).uses_step ≡ false → (told.is_last ≡ false → q.state.replies ≢ [])
    → (with_turn told came).is_last ≡ false → q.state.replies ≢ []
waits q told Turned.Done s so is none before on = cc
waits q told Turned.Held s so is none before on =
    let held = subst (StepsSo q) is so in held-waits q (held refl)
waits q told Turned.Worn s so is none before on = before on
waits q told Turned.Idle s so is none before on = before on

pub turns-more : (g : Ground) (Old New : LoneTenant → Type 0) (q : LoneTenant) (actors : List Actor)
    (a : Actor) (told : Round) (came : Turned) (on : TurnsOn g Old q actors told)
    → TurnsSo came (lone_step g (lone_run g q (go_each actors)) (goes a))
    → New (lone_after g (lone_run g q (go_each actors)) (goes a))
    → TurnsOn g New q (actors ++ a ∷ []) (with_turn told came)
turns-more g Old New q actors a told came on is stands =
    let v = lone_run g q (go_each actors) in
    let s = lone_step g v (goes a) in
    let gone : lone_run g q (go_each (actors ++ a ∷ [])) ≡ lone_after g v (goes a) =
    ap (lone_run g q) (go-more actors a) ∙ lone_run-append g q (go_each actors) (goes a ∷ []) in
    record {
      stands = subst New (sym gone) stands;
      told_so = subst (IsRound (with_turn told came) g q) (sym (go-more actors a))
          (with-turn g q (go_each actors) (goes a) told came on.told_so is);
      used = used-more told came on.used;
      untouched = λ (none : (with_turn told came).uses_step ≡ false).
          let here = stays v told came s is none in
          let before = on.untouched here.0 in
          let so : StepsSo q (lone_step g q (goes a)) = go-steps g q a in
          let is_here : TurnsSo came (lone_step g q (goes a)) =
          subst (λ u. TurnsSo came (lone_step g u (goes a))) before.0 is in (
            gone ∙ here.1 ∙ before.0,
            waits q told came (lone_step g q (goes a)) so is_here none before.1,
          );
    }

last-of : (q : LoneTenant) (last uses : Bool) → (uses ≡ true → last ≡ false)
    → (uses ≡ false → last ≡ false → q.state.replies ≢ []) → q.state.replies ≡ [] → last ≡ not uses
last-of q last true used waits none = used refl
last-of q true false used waits none = refl
last-of q false false used waits none = absurd (waits refl refl none)

-- where no reply waits, another round follows only where a step was used up
pub turns-last : (g : Ground) (Stands : LoneTenant → Type 0) (q : LoneTenant) (actors : List Actor)
    (told : Round) → TurnsOn g Stands q actors told → q.state.replies ≡ []
    → told.is_last ≡ not told.uses_step
turns-last g Stands q actors told on none =
    last-of q told.is_last told.uses_step on.used (λ unused. (on.untouched unused).1) none
