-- What a turn of the code comes to, beside the step.
use Rattle.std.specs.Prelude.{◌≡◌, ℕ, List}
use Rattle.server_rules.specs.declared.refusal.Refusal.{Refusal}
use Rattle.server_rules.specs.LoneTurns.{LoneTenant, LoneStepped, accepted, refused}

-- how much is left to do, by which a loop over a tenant ends
pub record LeftToDo : Type 0 where
  -- how many more pieces and asks, starts and ends of forms it takes
  pub steps : ℕ
  -- the replies that wait, oldest first, each as its bytes
  pub outbox : List (List ℕ)

-- the step is accepted, and what is told of the tenant holds after it
abbrev pub AcceptedWith : (LoneTenant → Type 0) → LoneStepped → Type 0
AcceptedWith Stands (accepted new bytes) = Stands new
AcceptedWith Stands (refused why) = ⊥

-- the step is refused so
abbrev pub IsRefusedTurn : Refusal → LoneStepped → Type 0
IsRefusedTurn why stepped = stepped ≡ refused why
