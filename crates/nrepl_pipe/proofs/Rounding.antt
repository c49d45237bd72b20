-- The loop over the rounds behind a piece.
use Rattle.std.proofs.Common.{◌≡◌, ℕ, ◌⊎◌, inl, inr, List, [], ◌++◌, Bool, true, false, ◌||◌, refl}
use Rattle.std.proofs.Common.{sym, ap, ◌∙◌, subst, append_assoc, Option}
use Rattle.std.specs.Prelude.{◌↔◌}
use Rattle.std.specs.Io.KnownBytes.{Appends}
use Rattle.std.proofs.KnownBytes.{Appends-trans}
use Rattle.server_rules.specs.Ground.{Ground}
use Rattle.server_rules.specs.LoneTurns.{LoneTenant, LoneTurn, lone_run, lone_served, actors_of}
use Rattle.nrepl_pipe.specs.Schedule.{go_each, drain_all, round, IsLast, AreRounds, last, more}
use Rattle.nrepl_pipe.specs.Schedule.{MeetsWorn}
use Rattle.nrepl_pipe.specs.Inside.Parts.{IsRound, MakesTurns, MakesRounds}
use Rattle.nrepl_pipe.specs.declared.actors.Round.{Round}
use Rattle.nrepl_pipe.specs.declared.rounds.Rounds.{Rounds}
use Rattle.nrepl_pipe.proofs.Turns.{lone_run-append, lone_served-append, meets-front, meets-behind}
use Rattle.nrepl_pipe.proofs.Turns.{meets-either}
use Rattle.nrepl_pipe.proofs.EachRound.{gone, round-empty, lone_served-round, round-meets}
use Rattle.nrepl_pipe.proofs.EachRound.{round-meets_by}

-- One round

-- the actors went on, and the replies were written
pub round-makes : (g : Ground) (Stands : LoneTenant → Type 0) (q : LoneTenant) (held holds : Option (List ℕ))
    → MakesTurns g Stands (gone g q) (drain_all (gone g q).state.replies) held holds
    → MakesTurns g Stands q (round g q) held holds
round-makes g Stands q held holds drained = record {
  appends = subst (Appends held holds) (sym (lone_served-round g q)) drained.appends;
  stands = subst Stands
      (sym (lone_run-append g q (go_each (actors_of q)) (drain_all (gone g q).state.replies))) drained.stands;
}

-- The rounds so far

-- whether they end with the last round, and whether a turn met the end of the steps
pub record RoundsOn (g : Ground) (Stands : LoneTenant → Type 0) (q : LoneTenant) (is_last is_worn : Bool)
    (held holds : Option (List ℕ)) : Type 0 where
  pub turns : List LoneTurn
  pub makes : MakesTurns g Stands q turns held holds
  pub empty : (lone_run g q turns).state.replies ≡ []
  pub worn : (is_worn ≡ true) ↔ MeetsWorn g q turns
  pub ends : is_last ≡ true → AreRounds g q turns
  pub closes : is_last ≡ false → (behind : List LoneTurn) → AreRounds g (lone_run g q turns) behind
      → AreRounds g q (turns ++ behind)

-- not the last round
goes_on : (g : Ground) (q : LoneTenant) (told : Round) → IsRound told g q (go_each (actors_of q))
    → told.is_last ≡ false → IsLast g q → ⊥
goes_on g q told so on is = let both : true ≡ false = sym (so.is_last.1 is) ∙ on in cc

pub rounds-first : (g : Ground) (Stands : LoneTenant → Type 0) (q : LoneTenant) (told : Round)
    (held holds : Option (List ℕ)) → IsRound told g q (go_each (actors_of q))
    → MakesTurns g Stands q (round g q) held holds
    → RoundsOn g Stands q told.is_last told.is_worn held holds
rounds-first g Stands q told held holds so makes = record {
  turns = round g q;
  makes = makes;
  empty = round-empty g q;
  worn = (
    λ is. round-meets g q (so.is_worn.0 is),
    λ meets. so.is_worn.1 (round-meets_by g q meets),
  );
  ends = λ is. last q (so.is_last.0 is);
  closes = λ on behind rounds. more q behind (goes_on g q told so on) rounds;
}

or-true : (a b : Bool) → (a || b) ≡ true → (a ≡ true) ⊎ (b ≡ true)
or-true true b is = inl refl
or-true false b is = inr is

true-or : (a b : Bool) → (a ≡ true) ⊎ (b ≡ true) → (a || b) ≡ true
true-or true b is = refl
true-or false b (inl is) = cc
true-or false b (inr is) = is

worn-more : (g : Ground) (q : LoneTenant) (turns : List LoneTurn) (a b : Bool)
    → (a ≡ true) ↔ MeetsWorn g q turns
    → (b ≡ true) ↔ MeetsWorn g (lone_run g q turns) (go_each (actors_of (lone_run g q turns)))
    → ((a || b) ≡ true) ↔ MeetsWorn g q (turns ++ round g (lone_run g q turns))
worn-more g q turns a b front back = (
  λ is. to (or-true a b is),
  λ meets. true-or a b (from meets),
) where
  now : LoneTenant
  now = lone_run g q turns

  to : (a ≡ true) ⊎ (b ≡ true) → MeetsWorn g q (turns ++ round g now)
  to (inl is) = meets-front g q turns (round g now) (front.0 is)
  to (inr is) = meets-behind g q turns (round g now) (round-meets g now (back.0 is))

  by : MeetsWorn g q turns ⊎ MeetsWorn g now (round g now) → (a ≡ true) ⊎ (b ≡ true)
  by (inl meets) = inl (front.1 meets)
  by (inr meets) = inr (back.1 (round-meets_by g now meets))

  from : MeetsWorn g q (turns ++ round g now) → (a ≡ true) ⊎ (b ≡ true)
  from meets = by (meets-either g q turns (round g now) meets)

makes-more : (g : Ground) (Old New : LoneTenant → Type 0) (q : LoneTenant) (turns others : List LoneTurn)
    (held holds grown : Option (List ℕ)) → MakesTurns g Old q turns held holds
    → MakesTurns g New (lone_run g q turns) others holds grown → MakesTurns g New q (turns ++ others) held grown
makes-more g Old New q turns others held holds grown front back = record {
  appends = subst (Appends held grown) (sym (lone_served-append g q turns others))
      (Appends-trans held holds grown (lone_served g q turns) (lone_served g (lone_run g q turns) others)
      front.appends back.appends);
  stands = subst New (sym (lone_run-append g q turns others)) back.stands;
}

pub rounds-more : (g : Ground) (Old New : LoneTenant → Type 0) (q : LoneTenant) (is_last is_worn : Bool)
    (told : Round) (held holds grown : Option (List ℕ))
    (on : RoundsOn g Old q is_last is_worn held holds) → is_last ≡ false
    → IsRound told g (lone_run g q on.turns) (go_each (actors_of (lone_run g q on.turns)))
    → MakesTurns g New (lone_run g q on.turns) (round g (lone_run g q on.turns)) holds grown
    → RoundsOn g New q told.is_last (is_worn || told.is_worn) held grown
rounds-more g Old New q is_last is_worn told held holds grown on follows so makes =
    let now = lone_run g q on.turns in
    let gone : lone_run g q (on.turns ++ round g now) ≡ lone_run g now (round g now) =
    lone_run-append g q on.turns (round g now) in
    record {
      turns = on.turns ++ round g now;
      makes = makes-more g Old New q on.turns (round g now) held holds grown on.makes makes;
      empty = ap (λ (v : LoneTenant). v.state.replies) gone ∙ round-empty g now;
      worn = worn-more g q on.turns is_worn told.is_worn on.worn so.is_worn;
      ends = λ (is : told.is_last ≡ true).
          on.closes follows (round g now) (last now (so.is_last.0 is));
      closes = λ (goes : told.is_last ≡ false) (behind : List LoneTurn)
          (rounds : AreRounds g (lone_run g q (on.turns ++ round g now)) behind).
          let next : AreRounds g (lone_run g now (round g now)) behind =
          subst (λ (v : LoneTenant). AreRounds g v behind) gone rounds in
          subst (AreRounds g q) (sym (append_assoc on.turns (round g now) behind))
          (on.closes follows (round g now ++ behind)
          (more now behind (goes_on g now told so goes) next));
    }

-- the last round was made
pub rounds-worn : (g : Ground) (Stands : LoneTenant → Type 0) (q : LoneTenant) (is_last is_worn : Bool)
    (held holds : Option (List ℕ)) → RoundsOn g Stands q is_last is_worn held holds
    → is_last ≡ true → is_worn ≡ true → MakesRounds g Stands q held holds Rounds.Worn
rounds-worn g Stands q is_last is_worn held holds on end is =
    (on.turns, on.ends end, on.makes, on.worn.0 is)

pub rounds-idle : (g : Ground) (Stands : LoneTenant → Type 0) (q : LoneTenant) (is_last is_worn : Bool)
    (held holds : Option (List ℕ)) → RoundsOn g Stands q is_last is_worn held holds
    → is_last ≡ true → is_worn ≡ false → MakesRounds g Stands q held holds Rounds.Idle
rounds-idle g Stands q is_last is_worn held holds on end is = (
  on.turns,
  on.ends end,
  on.makes,
  λ meets. let both : true ≡ false = sym (on.worn.1 meets) ∙ is in cc,
)
