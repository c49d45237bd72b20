-- One round.
use Rattle.std.proofs.Common.{◌≡◌, ℕ, ◌≤◌, ◌⊎◌, inl, inr, List, [], ◌∷◌, ◌++◌, true, false, refl}
use Rattle.std.proofs.Common.{sym, ap, ◌∙◌, le_refl, arith}
use Rattle.server_rules.specs.Ground.{Ground}
use Rattle.server_rules.specs.Tenant.{is_held}
use Rattle.server_rules.specs.declared.actor.Actor.{Actor}
use Rattle.server_rules.specs.LoneTurns.{LoneTenant, LoneTurn, goes, LoneStepped, accepted, refused}
use Rattle.server_rules.specs.LoneTurns.{lone_step, lone_or, lone_after, lone_run, lone_served}
use Rattle.server_rules.specs.LoneTurns.{actors_of}
use Rattle.nrepl_pipe.specs.Schedule.{go_each, drain_all, round, MeetsWorn}
use Rattle.nrepl_pipe.proofs.Turns.{lone_run-append, lone_served-append, meets-front, meets-either}
use Rattle.nrepl_pipe.proofs.Draining.{left, lone_run-drains, drains-never_worn}
use Rattle.nrepl_pipe.proofs.Going.{StepsSo, go-steps, go-gives, go-heard}

-- The actors' turns

gos-give : (g : Ground) (q : LoneTenant) (actors : List Actor) → lone_served g q (go_each actors) ≡ []
gos-give g q [] = refl
gos-give g q (a ∷ actors) =
    let v = lone_after g q (goes a) in
    ap (λ (bytes : List ℕ). bytes ++ lone_served g v (go_each actors)) (go-gives g q a)
    ∙ gos-give g v actors

gos-heard : (g : Ground) (q : LoneTenant) (actors : List Actor)
    → (lone_run g q (go_each actors)).state.heard ≡ q.state.heard
gos-heard g q [] = refl
gos-heard g q (a ∷ actors) = gos-heard g (lone_after g q (goes a)) actors ∙ go-heard g q a

steps-fall : (q : LoneTenant) (s : LoneStepped) → StepsSo q s → (lone_or q s).state.steps ≤ q.state.steps
steps-fall q (accepted new bytes) so = let one = so.0 in omega arith
steps-fall q (refused why) so = le_refl q.state.steps

pub gos-steps : (g : Ground) (q : LoneTenant) (actors : List Actor)
    → (lone_run g q (go_each actors)).state.steps ≤ q.state.steps
gos-steps g q [] = le_refl q.state.steps
gos-steps g q (a ∷ actors) =
    let first = steps-fall q (lone_step g q (goes a)) (go-steps g q a) in
    let behind = gos-steps g (lone_after g q (goes a)) actors in omega arith

-- replies wait wherever a turn is refused for them
pub held-waits : (q : LoneTenant) → is_held q.state ≡ true → q.state.replies ≡ [] → ⊥
held-waits q held none =
    let few : is_held q.state ≡ false = ap (λ xs. is_held (left xs q).state) none in
    let both : true ≡ false = sym held ∙ few in cc

-- One round

-- the actors have gone on, and the replies that wait are not taken out yet
abbrev pub gone : Ground → LoneTenant → LoneTenant
gone g q = lone_run g q (go_each (actors_of q))

pub lone_run-round : (g : Ground) (q : LoneTenant) → lone_run g q (round g q) ≡ left [] (gone g q)
lone_run-round g q =
    lone_run-append g q (go_each (actors_of q)) (drain_all (gone g q).state.replies) ∙ lone_run-drains g (gone g q)

pub round-empty : (g : Ground) (q : LoneTenant) → (lone_run g q (round g q)).state.replies ≡ []
round-empty g q = ap (λ (v : LoneTenant). v.state.replies) (lone_run-round g q)

pub round-heard : (g : Ground) (q : LoneTenant) → (lone_run g q (round g q)).state.heard ≡ q.state.heard
round-heard g q = ap (λ (v : LoneTenant). v.state.heard) (lone_run-round g q) ∙ gos-heard g q (actors_of q)

pub lone_served-round : (g : Ground) (q : LoneTenant)
    → lone_served g q (round g q) ≡ lone_served g (gone g q) (drain_all (gone g q).state.replies)
lone_served-round g q =
    lone_served-append g q (go_each (actors_of q)) (drain_all (gone g q).state.replies)
    ∙ ap (λ (bytes : List ℕ). bytes ++ lone_served g (gone g q) (drain_all (gone g q).state.replies))
    (gos-give g q (actors_of q))

-- a round meets the end of the steps where an actor does
pub round-meets : (g : Ground) (q : LoneTenant) → MeetsWorn g q (go_each (actors_of q))
    → MeetsWorn g q (round g q)
round-meets g q meets =
    meets-front g q (go_each (actors_of q)) (drain_all (gone g q).state.replies) meets

pub round-meets_by : (g : Ground) (q : LoneTenant) → MeetsWorn g q (round g q)
    → MeetsWorn g q (go_each (actors_of q))
round-meets_by g q meets = by (meets-either g q turns (drain_all (gone g q).state.replies) meets) where
  turns : List LoneTurn
  turns = go_each (actors_of q)

  by : MeetsWorn g q turns ⊎ MeetsWorn g (gone g q) (drain_all (gone g q).state.replies)
      → MeetsWorn g q turns
  by (inl here) = here
  by (inr later) = absurd (drains-never_worn g (gone g q) later)
