-- An evaluation that went on.
use Rattle.std.proofs.Common.{◌≡◌, ◌∙◌, ap, arith, ℕ, ◌+◌, ◌<◌, ◌≤◌, Result, Ok, Err, IfOk}
use Rattle.walker_state.specs.Size.{frames_size}
use Rattle.walker_state.specs.Position.{around, IsLater, control_position, Position, LeadsOnWithin}
use Rattle.walker_state.specs.Position.{wanted_position, control_around, control_calls}
use Rattle.walker_state.specs.Position.{entered_calls}
use Rattle.walker_state.specs.declared.frames.Control.{Control}
use Rattle.walker_state.specs.declared.frames.State.{State}
use Rattle.walker_state.specs.declared.frames.Wanted.{Wanted}
use Rattle.walker_state.proofs.Laters.{later_smaller, later_fewer}

-- an answer that leads on in the same attempt
pub leads-later : {E : Type 0} (r : Result Control E) (work : ℕ) (before new : State) (old : Position)
    → around before.transaction ≡ old.transaction → before.calls ≤ old.calls
    → work + frames_size before.frames.items ≤ old.size
    → IfOk r (LeadsOnWithin work before new) → IfOk r (λ c. IsLater (control_position c new) old)
leads-later (Ok c) work before new old same fewer smaller on =
    later_smaller _ _ _ _ _ _ (on.around ∙ same) (omega arith) (omega arith)
leads-later (Err e) work before new old same fewer smaller on = tt

pub leads-within : {E : Type 0} (r : Result Control E) (m n : ℕ) (old new : State) → m ≤ n
    → IfOk r (LeadsOnWithin m old new) → IfOk r (LeadsOnWithin n old new)
leads-within (Ok control) m n old new more on =
    record { size = omega arith; calls = on.calls; around = on.around }
leads-within (Err e) m n old new more on = tt

-- the function of `swap!` was called, and its body entered if it has one
pub seen-later : {E : Type 0} (r : Result Control E) (control : Control) (old pushed middle new : State)
    → pushed.transaction ≡ old.transaction → pushed.calls ≡ old.calls
    → LeadsOnWithin 3 pushed middle control → entered_calls control middle < pushed.calls
    → IfOk r (λ k. control_calls k new ≤ entered_calls control middle)
    → IfOk r (λ k. control_around k new ≡ control_around control middle)
    → IfOk r (λ k. IsLater (control_position k new) (wanted_position Wanted.Value old))
seen-later (Ok k) control old pushed middle new same calls on fewer entered around' =
    later_fewer _ _ _ _ _ _ (around' ∙ on.around ∙ ap around same) (omega (arith, entered, fewer, calls))
seen-later (Err e) control old pushed middle new same calls on fewer entered around' = tt
