-- Replies taken out, oldest first.
use Rattle.std.proofs.Common.{◌≡◌, ℕ, inl, inr, List, [], ◌∷◌, ◌++◌, refl, sym, ap, ◌∙◌, subst}
use Rattle.std.proofs.Common.{append_assoc, append-nil, Option}
use Rattle.std.specs.Io.KnownBytes.{Appends}
use Rattle.std.proofs.KnownBytes.{Appends-nil, Appends-trans}
use Rattle.repl_replies.specs.Replies.{ReplyData, bytes_of}
use Rattle.server_rules.specs.Ground.{Ground}
use Rattle.server_rules.specs.Deeds.{drain_outcome}
use Rattle.server_rules.specs.declared.refusal.Refusal.{Refusal}
use Rattle.server_rules.specs.DeedResult.{deed_result}
use Rattle.server_rules.specs.LoneTurns.{LoneTenant, LoneTurn, drains, LoneStepped, accepted, refused}
use Rattle.server_rules.specs.LoneTurns.{lone_ended, lone_step, lone_or, lone_after, lone_run}
use Rattle.server_rules.specs.LoneTurns.{lone_served}
use Rattle.nrepl_pipe.specs.Schedule.{drain_all, MeetsWorn}
use Rattle.nrepl_pipe.specs.Inside.Parts.{MakesTurns, Begins}
use Rattle.nrepl_pipe.proofs.Turns.{lone_served-first, lone_run-first}

-- the tenant with these replies alone
abbrev pub left : List ReplyData → LoneTenant → LoneTenant
left replies q = record { state = record q.state { replies = replies }; store = q.store }

abbrev pub taken_out : LoneTenant → List ReplyData → LoneStepped
taken_out q replies = lone_ended q.store (drain_outcome q.state replies)

lone_step-drains : (g : Ground) (q : LoneTenant) → lone_step g q drains ≡ taken_out q q.state.replies
unfolding lone_step deed_result
lone_step-drains g q = refl

drain-oldest : (g : Ground) (q : LoneTenant) (x : ReplyData) (xs : List ReplyData) → q.state.replies ≡ x ∷ xs
    → lone_step g q drains ≡ accepted (left xs q) (bytes_of x)
drain-oldest g q x xs e = lone_step-drains g q ∙ ap (taken_out q) e

lone_run-drains_of : (g : Ground) (q : LoneTenant) (xs : List ReplyData) → q.state.replies ≡ xs
    → lone_run g q (drain_all xs) ≡ left [] q
lone_run-drains_of g q [] e = ap (λ (ys : List ReplyData). left ys q) e
lone_run-drains_of g q (x ∷ xs) e =
    ap (λ (s : LoneStepped). lone_run g (lone_or q s) (drain_all xs)) (drain-oldest g q x xs e)
    ∙ lone_run-drains_of g (left xs q) xs refl

-- no reply is left, and all else stays
pub lone_run-drains : (g : Ground) (q : LoneTenant) → lone_run g q (drain_all q.state.replies) ≡ left [] q
lone_run-drains g q = lone_run-drains_of g q q.state.replies refl

drains-never_worn_of : (g : Ground) (q : LoneTenant) (xs : List ReplyData) → q.state.replies ≡ xs
    → MeetsWorn g q (drain_all xs) → ⊥
drains-never_worn_of g q [] e meets = meets
drains-never_worn_of g q (x ∷ xs) e (inl here) =
    let never : accepted (left xs q) (bytes_of x) ≡ refused Refusal.Worn =
    sym (drain-oldest g q x xs e) ∙ here in cc
drains-never_worn_of g q (x ∷ xs) e (inr later) =
    let same : lone_after g q drains ≡ left xs q = ap (lone_or q) (drain-oldest g q x xs e) in
    drains-never_worn_of g (lone_after g q drains) xs (ap (λ (v : LoneTenant). v.state.replies) same) later

pub drains-never_worn : (g : Ground) (q : LoneTenant) → MeetsWorn g q (drain_all q.state.replies) → ⊥
drains-never_worn g q meets = drains-never_worn_of g q q.state.replies refl meets

turns-drained : (q now : LoneTenant) (bytes : List ℕ) (xs : List ReplyData)
    → taken_out q xs ≡ accepted now bytes → drain_all xs ≡ drains ∷ drain_all now.state.replies
turns-drained q now bytes [] e = cc
turns-drained q now bytes (x ∷ xs) e =
    ap (λ (s : LoneStepped). drains ∷ drain_all (lone_or q s).state.replies) e

turns-taken : (g : Ground) (q now : LoneTenant) (bytes : List ℕ) → lone_step g q drains ≡ accepted now bytes
    → drain_all q.state.replies ≡ drains ∷ drain_all now.state.replies
turns-taken g q now bytes e = turns-drained q now bytes q.state.replies (sym (lone_step-drains g q) ∙ e)

-- one reply is taken out, and then the others
pub lone_served-drained : (g : Ground) (q now : LoneTenant) (bytes : List ℕ)
    → lone_step g q drains ≡ accepted now bytes
    → lone_served g q (drain_all q.state.replies) ≡ bytes ++ lone_served g now (drain_all now.state.replies)
lone_served-drained g q now bytes e =
    lone_served-first g q now bytes drains _ _ e (turns-taken g q now bytes e)

pub lone_run-drained : (g : Ground) (q now : LoneTenant) (bytes : List ℕ)
    → lone_step g q drains ≡ accepted now bytes
    → lone_run g q (drain_all q.state.replies) ≡ lone_run g now (drain_all now.state.replies)
lone_run-drained g q now bytes e = lone_run-first g q now bytes drains _ _ e (turns-taken g q now bytes e)

none-drained_of : (q : LoneTenant) (xs : List ReplyData) (why : Refusal) → taken_out q xs ≡ refused why
    → drain_all xs ≡ []
none-drained_of q [] why e = refl
none-drained_of q (x ∷ xs) why e = cc

pub none-drained : (g : Ground) (q : LoneTenant) (why : Refusal) → lone_step g q drains ≡ refused why
    → drain_all q.state.replies ≡ []
none-drained g q why e = none-drained_of q q.state.replies why (sym (lone_step-drains g q) ∙ e)

-- The loop that writes the replies

-- so far: what was written, and the tenant now
pub record Drains (g : Ground) (Stands : LoneTenant → Type 0) (q : LoneTenant)
    (held holds : Option (List ℕ)) : Type 0 where
  pub now : LoneTenant
  pub gone : List ℕ
  pub stands : Stands now
  pub appends : Appends held holds gone
  pub served_is : lone_served g q (drain_all q.state.replies) ≡ gone ++ lone_served g now (drain_all now.state.replies)
  pub run_is : lone_run g q (drain_all q.state.replies) ≡ lone_run g now (drain_all now.state.replies)

-- a reply was taken out
abbrev pub TakesOut : Ground → LoneTenant → List ℕ → (LoneTenant → Type 0) → Type 0
TakesOut g q bytes Stands = (now : LoneTenant) × (lone_step g q drains ≡ accepted now bytes) × Stands now

pub drains-none : (g : Ground) (Stands : LoneTenant → Type 0) (q : LoneTenant) (held : Option (List ℕ))
    → Stands q → Drains g Stands q held held
drains-none g Stands q held stands = record {
  now = q;
  gone = [];
  stands = stands;
  appends = Appends-nil held;
  served_is = refl;
  run_is = refl;
}

pub drains-more : (g : Ground) (Old New : LoneTenant → Type 0) (q : LoneTenant)
    (held holds grown : Option (List ℕ)) (bytes : List ℕ) (d : Drains g Old q held holds)
    → TakesOut g d.now bytes New → Appends holds grown bytes → Drains g New q held grown
drains-more g Old New q held holds grown bytes d out appends = record {
  now = out.0;
  gone = d.gone ++ bytes;
  stands = out.2;
  appends = Appends-trans held holds grown d.gone bytes d.appends appends;
  served_is =
      d.served_is
      ∙ ap (λ (more : List ℕ). d.gone ++ more) (lone_served-drained g d.now out.0 bytes out.1)
      ∙ sym (append_assoc d.gone bytes (lone_served g out.0 (drain_all out.0.state.replies)));
  run_is = d.run_is ∙ lone_run-drained g d.now out.0 bytes out.1;
}

pub drains-all : (g : Ground) (Old New : LoneTenant → Type 0) (q : LoneTenant)
    (held holds : Option (List ℕ)) (why : Refusal) (d : Drains g Old q held holds)
    → lone_step g d.now drains ≡ refused why → New d.now
    → MakesTurns g New q (drain_all q.state.replies) held holds
drains-all g Old New q held holds why d none stands =
    let turns : drain_all d.now.state.replies ≡ [] = none-drained g d.now why none in
    let written : lone_served g q (drain_all q.state.replies) ≡ d.gone =
    d.served_is ∙ ap (λ (ts : List LoneTurn). d.gone ++ lone_served g d.now ts) turns ∙ append-nil d.gone in
    let same : lone_run g q (drain_all q.state.replies) ≡ d.now = d.run_is ∙ ap (lone_run g d.now) turns in
    record {
      appends = subst (Appends held holds) (sym written) d.appends;
      stands = subst New (sym same) stands;
    }

pub drains-broken : (g : Ground) (Old New : LoneTenant → Type 0) (q : LoneTenant)
    (held holds grown : Option (List ℕ)) (bytes front back : List ℕ) (d : Drains g Old q held holds)
    → TakesOut g d.now bytes New → bytes ≡ front ++ back → Appends holds grown front
    → Begins g q (drain_all q.state.replies) held grown
drains-broken g Old New q held holds grown bytes front back d out whole appends =
    let rest = lone_served g out.0 (drain_all out.0.state.replies) in
    record {
      written = d.gone ++ front;
      more = back ++ rest;
      appends = Appends-trans held holds grown d.gone front d.appends appends;
      begins =
          d.served_is
          ∙ ap (λ (more : List ℕ). d.gone ++ more)
          (lone_served-drained g d.now out.0 bytes out.1 ∙ ap (λ (bs : List ℕ). bs ++ rest) whole
          ∙ append_assoc front back rest)
          ∙ sym (append_assoc d.gone front (back ++ rest));
    }
