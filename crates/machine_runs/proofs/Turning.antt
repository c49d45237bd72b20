-- A list of turns, one after another.
use Rattle.std.proofs.Common.{◌≡◌, ◌≢◌, ℕ, ◌+◌, ◌==◌, List, [], ◌∷◌, ◌++◌, length, Bool, true}
use Rattle.std.proofs.Common.{false, refl, sym, ap, subst, ◌∙◌, if◌then◌else◌, append-nil, arith}
use Rattle.std.proofs.Common.{Result, Ok, Err, OnOk}
use Rattle.std.proofs.lemmas.Bool.{eqb-true, eqb-false}
use Rattle.server_rules.specs.Ground.{Ground}
use Rattle.server_rules.specs.Plan.{StepAnswer}
use Rattle.server_rules.specs.Machine.Turns as rules
use Rattle.server_rules.specs.Machine.Turns.{Turn, whose, turn_step, world_after, serve}
use Rattle.server_rules.specs.Plan.{bytes_in}
use Rattle.server_rules.specs.Machine.World.{World, accepted, refused, world_or}
use Rattle.server_rules.specs.declared.refusal.Refusal.{Refusal}
use Rattle.repl_core.specs.Driving.{world_after_all, with_refusal, refusals}
use Rattle.repl_core.proofs.Driving.{world_after_all-more, serve-one, refusals-one}
use Rattle.machine_runs.specs.Driver.{DriverStands, AcceptsTurn, RefusesTurn}
use Rattle.machine_runs.specs.Driven.{Drives, MakesTurn}
use Rattle.machine_runs.specs.Turns.{drained_of, refused_in}
use Rattle.machine_runs.specs.declared.driver.Driver.{Driver}
use Rattle.machine_runs.specs.declared.outputs.Outputs.{Outputs}

-- One turn

-- of the tenant whose turn it is, and of all others
given-so : (old new bytes : List ℕ) (t u : ℕ) → (t ≡ u → new ≡ old ++ bytes)
    → (t ≢ u → new ≡ old) → new ≡ old ++ (if t == u then bytes else [])
given-so old new bytes t u mine others = by (t == u) refl
  where
    by : (b : Bool) → (t == u) ≡ b → new ≡ old ++ (if t == u then bytes else [])
    by true is = mine (eqb-true t u is)
        ∙ ap (λ (b : Bool). old ++ (if b then bytes else [])) (sym is)
    by false is = others (eqb-false t u is) ∙ sym (append-nil old)
        ∙ ap (λ (b : Bool). old ++ (if b then bytes else [])) (sym is)

nothing-so : (old : List ℕ) (t u : ℕ) → old ≡ old ++ (if t == u then [] else [])
nothing-so old t u = given-so old old [] t u (λ e. sym (append-nil old)) (λ e. refl)

accepted-world_after : (g : Ground) (w after : World) (turn : Turn) (answer : StepAnswer)
    → turn_step g w turn ≡ accepted after answer → world_after g w turn ≡ after
accepted-world_after g w after turn answer is = ap (world_or w) is

-- a turn that gave a reply
pub takes-bytes : (g : Ground) (w after : World) (place : ℕ) (turn : Turn) (d : Driver)
    (old new : Outputs) (answer : StepAnswer) (bytes : List ℕ)
    → turn_step g w turn ≡ accepted after answer → bytes_in answer ≡ bytes → DriverStands g d after
    → drained_of new (whose turn) ≡ drained_of old (whose turn) ++ bytes
    → ((t : ℕ) → t ≢ whose turn → drained_of new t ≡ drained_of old t)
    → refused_in new ≡ refused_in old → MakesTurn g w place turn d old new
takes-bytes g w after place turn d old new answer bytes is gives stands mine others kept = record {
  stands = subst (DriverStands g d) (sym (accepted-world_after g w after turn answer is)) stands;
  served = λ t. given-so (drained_of old t) (drained_of new t) bytes t (whose turn)
      (λ e. subst (λ u. drained_of new u ≡ drained_of old u ++ bytes) (sym e) mine)
      (others t)
      ∙ ap (λ b. drained_of old t ++ (if t == whose turn then b else []))
      (sym (ap rules.bytes_given is ∙ gives));
  refused = kept ∙ sym (append-nil (refused_in old))
      ∙ ap (λ s. refused_in old ++ with_refusal place s []) (sym is);
}

-- a turn that gave none
pub takes-nothing : (g : Ground) (w after : World) (place : ℕ) (turn : Turn) (d : Driver)
    (outputs : Outputs) (answer : StepAnswer) → turn_step g w turn ≡ accepted after answer
    → bytes_in answer ≡ [] → DriverStands g d after → MakesTurn g w place turn d outputs outputs
takes-nothing g w after place turn d outputs answer is gives stands =
    takes-bytes g w after place turn d outputs outputs answer [] is gives stands
    (sym (append-nil (drained_of outputs (whose turn)))) (λ t apart. refl) refl

-- a turn that was refused
pub takes-refused : (g : Ground) (w : World) (place : ℕ) (turn : Turn) (d : Driver)
    (old new : Outputs) (why : Refusal) → turn_step g w turn ≡ refused why → DriverStands g d w
    → ((t : ℕ) → drained_of new t ≡ drained_of old t)
    → refused_in new ≡ refused_in old ++ record { place = place; why = why } ∷ []
    → MakesTurn g w place turn d old new
takes-refused g w place turn d old new why is stands same noted = record {
  stands = subst (DriverStands g d) (sym (ap (world_or w) is)) stands;
  served = λ t. same t ∙ nothing-so (drained_of old t) t (whose turn)
      ∙ ap (λ s. drained_of old t ++ (if t == whose turn then rules.bytes_given s else [])) (sym is);
  refused = noted ∙ ap (λ s. refused_in old ++ with_refusal place s []) (sym is);
}

-- All turns

pub drives-none : (g : Ground) (w : World) (d : Driver) (o : Outputs) → DriverStands g d w
    → ((t : ℕ) → drained_of o t ≡ []) → refused_in o ≡ [] → Drives g w [] d o
drives-none g w d o stands none unrefused = record {
  stands = stands;
  is = record { served = none; refused = unrefused };
}

pub drives-more : (g : Ground) (w : World) (place : ℕ) (turns : List Turn) (turn : Turn)
    (before d : Driver) (old new : Outputs) → Drives g w turns before old → length turns ≡ place
    → MakesTurn g (world_after_all g w turns) place turn d old new → Drives g w (turns ++ turn ∷ []) d new
drives-more g w place turns turn before d old new on count takes = record {
  stands = subst (DriverStands g d) (sym (world_after_all-more g w turns (turn ∷ []))) takes.stands;
  is = record {
    served = λ t. takes.served t
        ∙ ap (λ b. b ++ (if t == whose turn
        then rules.bytes_given (turn_step g (world_after_all g w turns) turn) else [])) (on.is.served t)
        ∙ sym (serve-one g w turns turn t);
    refused = takes.refused
        ∙ ap (λ b. b ++ with_refusal place (turn_step g (world_after_all g w turns) turn) []) on.is.refused
        ∙ ap (λ n. refusals g w 0 turns
        ++ with_refusal n (turn_step g (world_after_all g w turns) turn) []) (sym count ∙ zero-more _)
        ∙ sym (refusals-one g w 0 turns turn);
  };
}
  where
    zero-more : (n : ℕ) → n ≡ 0 + n
    zero-more n = omega arith

-- Results

pub takes-added : {X E : Type 0} (g : Ground) (w : World) (place number : ℕ) (turn : Turn)
    (d : Driver) (old new : Outputs) (bytes : List ℕ) (res : Result X E) → AcceptsTurn g w turn d bytes
    → number ≡ whose turn
    → OnOk res (drained_of new number ≡ drained_of old number ++ bytes)
    → OnOk res ((t : ℕ) → t ≢ number → drained_of new t ≡ drained_of old t)
    → refused_in new ≡ refused_in old → OnOk res (MakesTurn g w place turn d old new)
takes-added g w place number turn d old new bytes (Err e) did same mine others kept = tt
takes-added g w place number turn d old new bytes (Ok x) did same mine others kept =
    takes-bytes g w did.after place turn d old new did.answer bytes did.accepted did.gives
    did.stands
    (subst (λ t. drained_of new t ≡ drained_of old t ++ bytes) same mine)
    (subst (λ u. (t : ℕ) → t ≢ u → drained_of new t ≡ drained_of old t) same others) kept

pub takes-noted : {X E : Type 0} (g : Ground) (w : World) (place : ℕ) (turn : Turn) (d : Driver)
    (old new : Outputs) (why : Refusal) (res : Result X E) → RefusesTurn g w turn d why
    → OnOk res (refused_in new ≡ refused_in old ++ record { place = place; why = why } ∷ [])
    → ((t : ℕ) → drained_of new t ≡ drained_of old t) → OnOk res (MakesTurn g w place turn d old new)
takes-noted g w place turn d old new why (Err e) did noted same = tt
takes-noted g w place turn d old new why (Ok x) did noted same =
    takes-refused g w place turn d old new why did.refused did.stands same noted
