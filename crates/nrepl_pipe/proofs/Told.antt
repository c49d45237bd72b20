-- What is told of the turns of a round, with one more.
use Rattle.std.proofs.Common.{◌≡◌, ◌⊎◌, inl, inr, List, [], ◌∷◌, ◌++◌, Bool, true, false, refl, sym}
use Rattle.std.proofs.Common.{◌∙◌, subst}
use Rattle.std.specs.Prelude.{◌↔◌, ⊤}
use Rattle.server_rules.specs.Ground.{Ground}
use Rattle.server_rules.specs.declared.refusal.Refusal.{Refusal}
use Rattle.server_rules.specs.Inside.Turned.{AcceptedWith}
use Rattle.server_rules.specs.LoneTurns.{LoneTenant, LoneTurn, LoneStepped, accepted, refused, lone_step}
use Rattle.server_rules.specs.LoneTurns.{lone_run}
use Rattle.nrepl_pipe.specs.Schedule.{Rests, AllRest, MeetsWorn}
use Rattle.nrepl_pipe.specs.Inside.Parts.{TurnsSo, with_turn, IsRound}
use Rattle.nrepl_pipe.specs.declared.actors.Round.{Round}
use Rattle.nrepl_pipe.specs.declared.actors.Turned.{Turned}
use Rattle.nrepl_pipe.proofs.Turns.{meets-front, meets-behind, meets-either, rest-append}
use Rattle.nrepl_pipe.proofs.Turns.{rest-front, rest-behind}

same-last : (g : Ground) (q : LoneTenant) (turns : List LoneTurn) (turn : LoneTurn) (b : Bool)
    → (b ≡ true) ↔ AllRest g q turns → Rests (lone_step g (lone_run g q turns) turn)
    → (b ≡ true) ↔ AllRest g q (turns ++ turn ∷ [])
same-last g q turns turn b so rests = (
  λ is. rest-append g q turns (turn ∷ []) (so.0 is) (rests, tt),
  λ all. so.1 (rest-front g q turns (turn ∷ []) all),
)

no-last : (g : Ground) (q : LoneTenant) (turns : List LoneTurn) (turn : LoneTurn)
    → (Rests (lone_step g (lone_run g q turns) turn) → ⊥)
    → (false ≡ true) ↔ AllRest g q (turns ++ turn ∷ [])
no-last g q turns turn goes_on = (
  λ is. cc,
  λ all. absurd (goes_on (rest-behind g q turns (turn ∷ []) all).0),
)

same-worn : (g : Ground) (q : LoneTenant) (turns : List LoneTurn) (turn : LoneTurn) (b : Bool)
    → (b ≡ true) ↔ MeetsWorn g q turns
    → (lone_step g (lone_run g q turns) turn ≡ refused Refusal.Worn → ⊥)
    → (b ≡ true) ↔ MeetsWorn g q (turns ++ turn ∷ [])
same-worn g q turns turn b so other = (
  λ is. meets-front g q turns (turn ∷ []) (so.0 is),
  λ meets. by (meets-either g q turns (turn ∷ []) meets),
) where
  by : MeetsWorn g q turns ⊎ MeetsWorn g (lone_run g q turns) (turn ∷ []) → b ≡ true
  by (inl front) = so.1 front
  by (inr (inl here)) = absurd (other here)
  by (inr (inr never)) = absurd never

now-worn : (g : Ground) (q : LoneTenant) (turns : List LoneTurn) (turn : LoneTurn)
    → lone_step g (lone_run g q turns) turn ≡ refused Refusal.Worn
    → (true ≡ true) ↔ MeetsWorn g q (turns ++ turn ∷ [])
now-worn g q turns turn is = (
  λ _. meets-behind g q turns (turn ∷ []) (inl is),
  λ _. refl,
)

accepted-goes_on : (s : LoneStepped) → AcceptedWith (λ q. ⊤) s → Rests s → ⊥
accepted-goes_on (accepted new bytes) is rests = rests
accepted-goes_on (refused why) is rests = is

accepted-not_worn : (s : LoneStepped) → AcceptedWith (λ q. ⊤) s → s ≡ refused Refusal.Worn → ⊥
accepted-not_worn (accepted new bytes) is worn = cc
accepted-not_worn (refused why) is worn = is

pub with-turn : (g : Ground) (q : LoneTenant) (turns : List LoneTurn) (turn : LoneTurn) (told : Round)
    (came : Turned) → IsRound told g q turns → TurnsSo came (lone_step g (lone_run g q turns) turn)
    → IsRound (with_turn told came) g q (turns ++ turn ∷ [])
with-turn g q turns turn told Turned.Done so is = record {
  is_last = no-last g q turns turn (accepted-goes_on (lone_step g (lone_run g q turns) turn) is);
  is_worn = same-worn g q turns turn told.is_worn so.is_worn
      (accepted-not_worn (lone_step g (lone_run g q turns) turn) is);
}
with-turn g q turns turn told Turned.Held so is = record {
  is_last = no-last g q turns turn (λ rests. subst Rests is rests refl);
  is_worn = same-worn g q turns turn told.is_worn so.is_worn
      (λ worn. let both : refused Refusal.Held ≡ refused Refusal.Worn = sym is ∙ worn in cc);
}
with-turn g q turns turn told Turned.Worn so is = record {
  is_last = same-last g q turns turn told.is_last so.is_last (subst Rests (sym is) (λ e. cc));
  is_worn = now-worn g q turns turn is;
}
with-turn g q turns turn told Turned.Idle so is = record {
  is_last = same-last g q turns turn told.is_last so.is_last is.0;
  is_worn = same-worn g q turns turn told.is_worn so.is_worn is.1;
}
