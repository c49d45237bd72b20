-- What turns come to, one after another.
use Rattle.std.proofs.Common.{◌≡◌, ℕ, ◌⊎◌, inl, inr, List, [], ◌∷◌, ◌++◌, refl, sym, ap, ◌∙◌}
use Rattle.std.proofs.Common.{append_assoc}
use Rattle.server_rules.specs.Ground.{Ground}
use Rattle.server_rules.specs.LoneTurns.{LoneTenant, LoneTurn, LoneStepped, accepted, lone_step, lone_or}
use Rattle.server_rules.specs.LoneTurns.{reply_taken, lone_after, lone_run, lone_served}
use Rattle.nrepl_pipe.specs.Schedule.{AllRest, MeetsWorn}

pub lone_run-append : (g : Ground) (q : LoneTenant) (xs ys : List LoneTurn)
    → lone_run g q (xs ++ ys) ≡ lone_run g (lone_run g q xs) ys
lone_run-append g q [] ys = refl
lone_run-append g q (x ∷ xs) ys = lone_run-append g (lone_after g q x) xs ys

pub lone_served-append : (g : Ground) (q : LoneTenant) (xs ys : List LoneTurn)
    → lone_served g q (xs ++ ys) ≡ lone_served g q xs ++ lone_served g (lone_run g q xs) ys
lone_served-append g q [] ys = refl
lone_served-append g q (x ∷ xs) ys =
    let v = lone_after g q x in
    ap (λ (bytes : List ℕ). reply_taken (lone_step g q x) ++ bytes) (lone_served-append g v xs ys)
    ∙ sym (append_assoc (reply_taken (lone_step g q x)) (lone_served g v xs) (lone_served g (lone_run g v xs) ys))

-- a turn that was accepted, and others behind it
pub lone_served-first : (g : Ground) (q now : LoneTenant) (bytes : List ℕ) (turn : LoneTurn)
    (turns all : List LoneTurn) → lone_step g q turn ≡ accepted now bytes → all ≡ turn ∷ turns
    → lone_served g q all ≡ bytes ++ lone_served g now turns
lone_served-first g q now bytes turn turns all is whole =
    ap (lone_served g q) whole ∙ ap (λ (s : LoneStepped). reply_taken s ++ lone_served g (lone_or q s) turns) is

pub lone_run-first : (g : Ground) (q now : LoneTenant) (bytes : List ℕ) (turn : LoneTurn) (turns all : List LoneTurn)
    → lone_step g q turn ≡ accepted now bytes → all ≡ turn ∷ turns → lone_run g q all ≡ lone_run g now turns
lone_run-first g q now bytes turn turns all is whole =
    ap (lone_run g q) whole ∙ ap (λ (s : LoneStepped). lone_run g (lone_or q s) turns) is

-- The end of the steps

pub meets-front : (g : Ground) (q : LoneTenant) (xs ys : List LoneTurn) → MeetsWorn g q xs
    → MeetsWorn g q (xs ++ ys)
meets-front g q [] ys meets = absurd meets
meets-front g q (x ∷ xs) ys (inl here) = inl here
meets-front g q (x ∷ xs) ys (inr later) = inr (meets-front g (lone_after g q x) xs ys later)

pub meets-behind : (g : Ground) (q : LoneTenant) (xs ys : List LoneTurn) → MeetsWorn g (lone_run g q xs) ys
    → MeetsWorn g q (xs ++ ys)
meets-behind g q [] ys meets = meets
meets-behind g q (x ∷ xs) ys meets = inr (meets-behind g (lone_after g q x) xs ys meets)

pub meets-either : (g : Ground) (q : LoneTenant) (xs ys : List LoneTurn) → MeetsWorn g q (xs ++ ys)
    → MeetsWorn g q xs ⊎ MeetsWorn g (lone_run g q xs) ys
meets-either g q [] ys meets = inr meets
meets-either g q (x ∷ xs) ys (inl here) = inl (inl here)
meets-either g q (x ∷ xs) ys (inr later) = in-front (meets-either g (lone_after g q x) xs ys later) where
  in-front : MeetsWorn g (lone_after g q x) xs ⊎ MeetsWorn g (lone_run g q (x ∷ xs)) ys
      → MeetsWorn g q (x ∷ xs) ⊎ MeetsWorn g (lone_run g q (x ∷ xs)) ys
  in-front (inl front) = inl (inr front)
  in-front (inr back) = inr back

pub meets-neither : (g : Ground) (q : LoneTenant) (xs ys : List LoneTurn) → (MeetsWorn g q xs → ⊥)
    → (MeetsWorn g (lone_run g q xs) ys → ⊥) → MeetsWorn g q (xs ++ ys) → ⊥
meets-neither g q xs ys front back meets = neither (meets-either g q xs ys meets) where
  neither : MeetsWorn g q xs ⊎ MeetsWorn g (lone_run g q xs) ys → ⊥
  neither (inl here) = front here
  neither (inr later) = back later

-- All turns refused

pub rest-append : (g : Ground) (q : LoneTenant) (xs ys : List LoneTurn) → AllRest g q xs
    → AllRest g (lone_run g q xs) ys → AllRest g q (xs ++ ys)
rest-append g q [] ys front back = back
rest-append g q (x ∷ xs) ys front back = (front.0, rest-append g (lone_after g q x) xs ys front.1 back)

pub rest-front : (g : Ground) (q : LoneTenant) (xs ys : List LoneTurn) → AllRest g q (xs ++ ys)
    → AllRest g q xs
rest-front g q [] ys all = tt
rest-front g q (x ∷ xs) ys all = (all.0, rest-front g (lone_after g q x) xs ys all.1)

pub rest-behind : (g : Ground) (q : LoneTenant) (xs ys : List LoneTurn) → AllRest g q (xs ++ ys)
    → AllRest g (lone_run g q xs) ys
rest-behind g q [] ys all = all
rest-behind g q (x ∷ xs) ys all = rest-behind g (lone_after g q x) xs ys all.1
