-- Rounds come to an end.
use Rattle.std.proofs.Common.{◌≡◌, ◌≢◌, ℕ, zero, suc, ◌<◌, ◌≤◌, ◌⊎◌, inl, inr, List, [], ◌∷◌, ◌++◌}
use Rattle.std.proofs.Common.{◌==◌, true, refl, sym, ap, ◌∙◌, subst, append-nil, le_refl, arith}
use Rattle.server_rules.specs.Ground.{Ground}
use Rattle.server_rules.specs.declared.actor.Actor.{Actor}
use Rattle.server_rules.specs.declared.refusal.Refusal.{Refusal}
use Rattle.server_rules.specs.LoneTurns.{LoneTenant, LoneTurn, goes, LoneStepped, accepted, refused}
use Rattle.server_rules.specs.LoneTurns.{lone_step, lone_or, lone_after, lone_run, lone_served}
use Rattle.server_rules.specs.LoneTurns.{actors_of}
use Rattle.nrepl_pipe.specs.Schedule.{go_each, drain_all, round, Rests, AllRest, IsLast, AreRounds}
use Rattle.nrepl_pipe.specs.Schedule.{last, more}
use Rattle.nrepl_pipe.proofs.Turns.{lone_run-append}
use Rattle.nrepl_pipe.proofs.Going.{StepsSo, go-steps, go-worn}
use Rattle.nrepl_pipe.proofs.EachRound.{gos-steps, held-waits, gone, lone_run-round, round-empty}
use Rattle.nrepl_pipe.proofs.EachRound.{round-heard, lone_served-round}

-- A round is the last, or goes on

held-or : (why : Refusal) → (why ≡ Refusal.Held) ⊎ (why ≢ Refusal.Held)
held-or Refusal.NoMemory = inr (λ e. cc)
held-or (Refusal.Wire f) = inr (λ e. cc)
held-or Refusal.NoSuchTenant = inr (λ e. cc)
held-or Refusal.NumberUsed = inr (λ e. cc)
held-or Refusal.Full = inr (λ e. cc)
held-or Refusal.NoSuchActor = inr (λ e. cc)
held-or Refusal.Idle = inr (λ e. cc)
held-or Refusal.Held = inl refl
held-or Refusal.Waiting = inr (λ e. cc)
held-or Refusal.Worn = inr (λ e. cc)
held-or (Refusal.TraceMismatch place) = inr (λ e. cc)

rests-or : (s : LoneStepped) → Rests s ⊎ (Rests s → ⊥)
rests-or (accepted new bytes) = inr (λ never. never)
rests-or (refused why) = by (held-or why) where
  by : (why ≡ Refusal.Held) ⊎ (why ≢ Refusal.Held) → Rests (refused why) ⊎ (Rests (refused why) → ⊥)
  by (inl held) = inr (λ other. other held)
  by (inr other) = inl other

all_rest-or : (g : Ground) (q : LoneTenant) (turns : List LoneTurn)
    → AllRest g q turns ⊎ (AllRest g q turns → ⊥)
all_rest-or g q [] = inl tt
all_rest-or g q (t ∷ turns) =
    by (rests-or (lone_step g q t)) (all_rest-or g (lone_after g q t) turns) where
      by : Rests (lone_step g q t) ⊎ (Rests (lone_step g q t) → ⊥)
          → AllRest g (lone_after g q t) turns ⊎ (AllRest g (lone_after g q t) turns → ⊥)
          → AllRest g q (t ∷ turns) ⊎ (AllRest g q (t ∷ turns) → ⊥)
      by (inl here) (inl later) = inl (here, later)
      by (inl here) (inr other) = inr (λ all. other all.1)
      by (inr other) later = inr (λ all. other all.0)

-- where no reply waits, actors of whom one goes on use up a step
uses-step : (g : Ground) (q : LoneTenant) (actors : List Actor) → q.state.replies ≡ []
    → (AllRest g q (go_each actors) → ⊥) → (lone_run g q (go_each actors)).state.steps < q.state.steps
uses-step g q [] none on = absurd (on tt)
uses-step g q (a ∷ actors) none on =
    by (lone_step g q (goes a)) refl (go-steps g q a) (λ behind. uses-step g q actors none behind) where
      by : (s : LoneStepped) → lone_step g q (goes a) ≡ s → StepsSo q s
          → ((AllRest g q (go_each actors) → ⊥) → (lone_run g q (go_each actors)).state.steps < q.state.steps)
          → (lone_run g q (go_each (a ∷ actors))).state.steps < q.state.steps
      by (accepted new bytes) is so behind =
          let fewer = gos-steps g (lone_after g q (goes a)) actors in
          let same : (lone_after g q (goes a)).state.steps ≡ new.state.steps = ap (λ s. (lone_or q s).state.steps) is in
          let one = so.0 in omega arith
      by (refused why) is so behind = refused-by (held-or why) where
        same : lone_after g q (goes a) ≡ q
        same = ap (lone_or q) is

        refused-by : (why ≡ Refusal.Held) ⊎ (why ≢ Refusal.Held)
            → (lone_run g q (go_each (a ∷ actors))).state.steps < q.state.steps
        refused-by (inl held) = absurd (held-waits q (so held) none)
        refused-by (inr other) =
            subst (λ v. (lone_run g v (go_each actors)).state.steps < q.state.steps) (sym same)
            (behind (λ all. on (
              subst Rests (sym is) other,
              subst (λ v. AllRest g v (go_each actors)) (sym same) all,
            )))

pub round-uses : (g : Ground) (q : LoneTenant) → q.state.replies ≡ [] → (IsLast g q → ⊥)
    → (lone_run g q (round g q)).state.steps < q.state.steps
round-uses g q none on =
    let same : (lone_run g q (round g q)).state.steps ≡ (gone g q).state.steps =
    ap (λ (v : LoneTenant). v.state.steps) (lone_run-round g q) in
    let fewer = uses-step g q (actors_of q) none on in omega arith

-- Each tenant has rounds

abbrev pub HasRounds : Ground → LoneTenant → Type 0
HasRounds g q = (turns : List LoneTurn) × AreRounds g q turns

has-more : (g : Ground) (q : LoneTenant) → (IsLast g q → ⊥) → HasRounds g (lone_run g q (round g q))
    → HasRounds g q
has-more g q on rounds = (round g q ++ rounds.0, more q rounds.0 on rounds.1)

-- where no reply waits each round that goes on uses up a step
quiet-rounds : (g : Ground) (n : ℕ) (q : LoneTenant) → q.state.steps ≤ n → q.state.replies ≡ [] → HasRounds g q
quiet-rounds g zero q few none = by (all_rest-or g q (go_each (actors_of q))) where
  by : IsLast g q ⊎ (IsLast g q → ⊥) → HasRounds g q
  by (inl is) = (round g q, last q is)
  by (inr on) = let fewer = round-uses g q none on in absurd (omega arith)
quiet-rounds g (suc n) q few none =
    by (all_rest-or g q (go_each (actors_of q)))
    (λ fewer. quiet-rounds g n (lone_run g q (round g q)) fewer (round-empty g q)) where
      by : IsLast g q ⊎ (IsLast g q → ⊥)
          → ((lone_run g q (round g q)).state.steps ≤ n → HasRounds g (lone_run g q (round g q))) → HasRounds g q
      by (inl is) behind = (round g q, last q is)
      by (inr on) behind =
          let fewer = round-uses g q none on in has-more g q on (behind (omega arith))

pub rounds-exist : (g : Ground) (q : LoneTenant) → HasRounds g q
rounds-exist g q = by (all_rest-or g q (go_each (actors_of q))) where
  by : IsLast g q ⊎ (IsLast g q → ⊥) → HasRounds g q
  by (inl is) = (round g q, last q is)
  by (inr on) = has-more g q on
      (quiet-rounds g (lone_run g q (round g q)).state.steps (lone_run g q (round g q)) (le_refl _)
      (round-empty g q))

-- What rounds keep

pub rounds-empty : (g : Ground) (q : LoneTenant) (turns : List LoneTurn) → AreRounds g q turns
    → (lone_run g q turns).state.replies ≡ []
rounds-empty g q turns (last v end) = round-empty g v
rounds-empty g q turns (more v behind on rounds) =
    ap (λ (u : LoneTenant). u.state.replies) (lone_run-append g v (round g v) behind)
    ∙ rounds-empty g (lone_run g v (round g v)) behind rounds

pub rounds-heard : (g : Ground) (q : LoneTenant) (turns : List LoneTurn) → AreRounds g q turns
    → (lone_run g q turns).state.heard ≡ q.state.heard
rounds-heard g q turns (last v end) = round-heard g v
rounds-heard g q turns (more v behind on rounds) =
    ap (λ (u : LoneTenant). u.state.heard) (lone_run-append g v (round g v) behind)
    ∙ rounds-heard g (lone_run g v (round g v)) behind rounds ∙ round-heard g v

-- rounds begin with the first
pub rounds-front : (g : Ground) (q : LoneTenant) (turns : List LoneTurn) → AreRounds g q turns
    → (behind : List LoneTurn) × (turns ≡ round g q ++ behind)
rounds-front g q turns (last v end) = ([], sym (append-nil (round g v)))
rounds-front g q turns (more v behind on rounds) = (behind, refl)

-- Where the steps are used up no actor goes on

gos-worn : (g : Ground) (q : LoneTenant) (actors : List Actor) → (q.state.steps == 0) ≡ true
    → (AllRest g q (go_each actors)) × (lone_run g q (go_each actors) ≡ q)
gos-worn g q [] none = (tt, refl)
gos-worn g q (a ∷ actors) none =
    let is = go-worn g q a none in
    let same : lone_after g q (goes a) ≡ q = ap (lone_or q) is in
    let behind = gos-worn g q actors none in (
      (
        subst Rests (sym is) (λ e. cc),
        subst (λ v. AllRest g v (go_each actors)) (sym same) behind.0,
      ),
      ap (λ v. lone_run g v (go_each actors)) same ∙ behind.1,
    )

-- and a round serves what waited
pub worn-round : (g : Ground) (q : LoneTenant) → (q.state.steps == 0) ≡ true → q.state.replies ≡ []
    → IsLast g q × (lone_served g q (round g q) ≡ [])
worn-round g q none empty =
    let worn = gos-worn g q (actors_of q) none in (
      worn.0,
      lone_served-round g q ∙ ap (λ v. lone_served g v (drain_all v.state.replies)) worn.1
          ∙ ap (λ xs. lone_served g q (drain_all xs)) empty,
    )
