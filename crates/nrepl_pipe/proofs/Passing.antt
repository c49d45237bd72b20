-- A round that passes over the actors that have nothing to do.
use Rattle.std.proofs.Common.{◌≡◌, ◌≢◌, ℕ, zero, suc, ◌+◌, ◌<◌, ◌≤◌, ◌==◌, ◌||◌, inl, inr, List, []}
use Rattle.std.proofs.Common.{◌∷◌, Bool, true, false, if◌then◌else◌, filter, length, refl, sym, ap}
use Rattle.std.proofs.Common.{◌∙◌, subst, arith}
use Rattle.std.proofs.lemmas.Bool.{ne_eqb}
use Rattle.std.specs.Prelude.{◌↔◌}
use Rattle.server_rules.specs.Ground.{Ground}
use Rattle.server_rules.specs.Tenant.{seat_of}
use Rattle.ref_table.specs.Numbered.{part_under}
use Rattle.server_rules.specs.declared.actor.Actor.{Actor}
use Rattle.server_rules.specs.declared.refusal.Refusal.{Refusal}
use Rattle.server_rules.specs.LoneTurns.{LoneTenant, goes, LoneStepped, accepted, refused}
use Rattle.server_rules.specs.LoneTurns.{lone_step, lone_or, lone_after, lone_run, actors_of}
use Rattle.server_rules.specs.Inside.Rounds.{is_some_busy, is_busy_at, IsEnough}
use Rattle.nrepl_pipe.specs.Schedule.{go_each, Rests, AllRest, MeetsWorn}
use Rattle.nrepl_pipe.specs.Inside.Parts.{IsRound}
use Rattle.nrepl_pipe.specs.declared.actors.Round.{Round}
use Rattle.nrepl_pipe.proofs.Going.{StepsSo, go-steps, go-others, IsPassed, idle-passed}

-- the turns of some actors come to what the turns of all come to
pub record ComesToSame (g : Ground) (l : LoneTenant) (some all : List Actor) : Type 0 where
  pub run : lone_run g l (go_each some) ≡ lone_run g l (go_each all)
  pub rest : AllRest g l (go_each some) ↔ AllRest g l (go_each all)
  pub worn : MeetsWorn g l (go_each some) ↔ MeetsWorn g l (go_each all)

same-none : (g : Ground) (l : LoneTenant) (all : List Actor) → ComesToSame g l all all
same-none g l all = record {
  run = refl;
  rest = (λ r. r, λ r. r);
  worn = (λ m. m, λ m. m);
}

-- an actor that goes on among some as among all
same-more : (g : Ground) (l : LoneTenant) (a : Actor) (some all : List Actor)
    → ComesToSame g (lone_after g l (goes a)) some all → ComesToSame g l (a ∷ some) (a ∷ all)
same-more g l a some all behind = record {
  run = behind.run;
  rest = (λ r. (r.0, behind.rest.0 r.1), λ r. (r.0, behind.rest.1 r.1));
  worn = (to, from);
} where
  v : LoneTenant
  v = lone_after g l (goes a)

  to : MeetsWorn g l (go_each (a ∷ some)) → MeetsWorn g l (go_each (a ∷ all))
  to (inl here) = inl here
  to (inr later) = inr (behind.worn.0 later)

  from : MeetsWorn g l (go_each (a ∷ all)) → MeetsWorn g l (go_each (a ∷ some))
  from (inl here) = inl here
  from (inr later) = inr (behind.worn.1 later)

-- an actor that is passed over
same-passed : (g : Ground) (l : LoneTenant) (a : Actor) (some all : List Actor) → IsPassed g l a
    → ComesToSame g l some all → ComesToSame g l some (a ∷ all)
same-passed g l a some all passed behind = record {
  run = behind.run ∙ sym (ap (λ v. lone_run g v (go_each all)) stays);
  rest = (
    λ r. (
      subst Rests (sym passed.refused_so) passed.not_held,
      subst (λ v. AllRest g v (go_each all)) (sym stays) (behind.rest.0 r),
    ),
    λ r. behind.rest.1 (subst (λ v. AllRest g v (go_each all)) stays r.1),
  );
  worn = (
    λ m. inr (subst (λ v. MeetsWorn g v (go_each all)) (sym stays) (behind.worn.0 m)),
    from,
  );
} where
  stays : lone_after g l (goes a) ≡ l
  stays = ap (lone_or l) passed.refused_so

  same-why : (why : Refusal) → refused why ≡ refused Refusal.Worn → why ≡ Refusal.Worn
  same-why why e = cc

  from : MeetsWorn g l (go_each (a ∷ all)) → MeetsWorn g l (go_each some)
  from (inl here) = absurd (passed.not_worn (same-why passed.why (sym passed.refused_so ∙ here)))
  from (inr later) = behind.worn.1 (subst (λ v. MeetsWorn g v (go_each all)) stays later)

some-left : (n steps : ℕ) → n < steps → (steps == 0) ≡ false
some-left n zero room = absurd (omega arith)
some-left n (suc steps) room = ne_eqb (suc steps) 0 (λ e. cc)

-- a turn uses up one step at most
one-step : (l : LoneTenant) (s : LoneStepped) → StepsSo l s
    → l.state.steps ≤ (lone_or l s).state.steps + 1
one-step l (accepted new bytes) so = let one = so.0 in omega arith
one-step l (refused why) so = omega arith

-- the test tells of each name the same, and of those that it fails nobody has anything to do
record Passes (test : Actor → Bool) (l : LoneTenant) : Type 0 where
  same : (a b : Actor) → seat_of a ≡ seat_of b → test a ≡ test b
  idle : (a : Actor) → test a ≡ false → is_busy_at l a ≡ false

passes-behind : (g : Ground) (test : Actor → Bool) (l : LoneTenant) (a : Actor) → test a ≡ true
    → Passes test l → Passes test (lone_after g l (goes a))
passes-behind g test l a busy p = record {
  same = p.same;
  idle = λ b is.
      let apart : seat_of b ≢ seat_of a = λ e.
      let both : false ≡ true = sym is ∙ p.same b a e ∙ busy in cc in
      ap (λ o. (seat_of b == 0) || is_some_busy o) (go-others g l a (seat_of b) apart)
      ∙ p.idle b is;
}

passing : (g : Ground) (test : Actor → Bool) (l : LoneTenant) (all : List Actor) → Passes test l
    → length (filter test all) < l.state.steps → ComesToSame g l (filter test all) all
passing g test l [] p room = same-none g l []
passing g test l (a ∷ all) p room =
    by (test a) refl room (λ v. passing g test v all) where
      Behind : Type 0
      Behind = (v : LoneTenant) → Passes test v → length (filter test all) < v.state.steps
          → ComesToSame g v (filter test all) all

      by : (busy : Bool) → test a ≡ busy
          → length (if busy then a ∷ filter test all else filter test all) < l.state.steps → Behind
          → ComesToSame g l (if busy then a ∷ filter test all else filter test all) (a ∷ all)
      by true is room behind =
          let one = one-step l (lone_step g l (goes a)) (go-steps g l a) in
          same-more g l a (filter test all) all
          (behind (lone_after g l (goes a)) (passes-behind g test l a is p) (omega arith))
      by false is room behind =
          same-passed g l a (filter test all) all
          (idle-passed g l a (p.idle a is) (some-left _ l.state.steps room)) (behind l p room)

-- a round of these does what a round of all does
pub enough-same : (g : Ground) (l : LoneTenant) (actors : List Actor) → IsEnough l actors
    → ComesToSame g l actors (actors_of l)
enough-same g l actors (inl is) =
    subst (λ some. ComesToSame g l some (actors_of l)) (sym is) (same-none g l (actors_of l))
enough-same g l actors (inr (is, room)) =
    subst (λ some. ComesToSame g l some (actors_of l)) (sym is)
    (passing g (is_busy_at l) l (actors_of l) passes
    (subst (λ some. length some < l.state.steps) is room)) where
      passes : Passes (is_busy_at l) l
      passes = record {
        same = λ a b e. ap (λ n. (n == 0) || is_some_busy (part_under n l.state.actors)) e;
        idle = λ a is. is;
      }

pub round-same : (g : Ground) (l : LoneTenant) (some all : List Actor) (told : Round)
    → ComesToSame g l some all → IsRound told g l (go_each some) → IsRound told g l (go_each all)
round-same g l some all told same so = record {
  is_last = (λ is. same.rest.0 (so.is_last.0 is), λ r. so.is_last.1 (same.rest.1 r));
  is_worn = (λ is. same.worn.0 (so.is_worn.0 is), λ m. so.is_worn.1 (same.worn.1 m));
}
