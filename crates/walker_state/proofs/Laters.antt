-- Where an evaluation stands after an answer.
use Rattle.std.proofs.Common.{◌≡◌, ℕ, ◌+◌, ◌-◌, ◌*◌, ◌<◌, ◌≤◌, ◌⊎◌, Bool, true, false, refl, sym}
use Rattle.std.proofs.Common.{subst, ap, ◌∙◌, inl, inr, arith, max, Option, Some}
use Rattle.std.specs.Global.{Global}
use Rattle.std.specs.Prelude.{Box}
use Rattle.std.proofs.Common.{Result, Ok, Err, IfOk}
use Rattle.value_data.specs.declared.value.RefName.{RefName}
use Rattle.value_data.specs.declared.value.Value.{Value}
use Rattle.walker_state.specs.declared.frames.Wanted.{Wanted}
use Rattle.walker_state.specs.Size.{frames_size}
use Rattle.walker_state.specs.Position.{TransactionPosition, no_attempt, attempt_around, around}
use Rattle.walker_state.specs.Position.{IsRetried, IsOn, IsLater, IsLess, control_position}
use Rattle.walker_state.specs.Position.{wanted_position, Position, LeadsOnWithin, control_calls}
use Rattle.walker_state.specs.Position.{control_around, entered_calls}
use Rattle.walker_state.specs.Position.{begun_around}
use Rattle.walker_state.specs.declared.frames.Transaction.{Transaction}
use Rattle.walker_state.specs.declared.frames.State.{State}
use Rattle.walker_state.specs.declared.frames.Control.{Control}

abbrev at : TransactionPosition → ℕ → ℕ → Position
at r calls size = record { transaction = r; calls = calls; size = size }

-- in the same transaction, or outside of any, with less to do
pub later_smaller : (r r' : TransactionPosition) (calls size calls' size' : ℕ) → r' ≡ r → calls' ≤ calls → size' < size
    → IsLater (record { transaction = r'; calls = calls'; size = size' }) (record { transaction = r; calls = calls; size = size })
unfolding IsLater
later_smaller r r' calls size calls' size' same fewer smaller =
    subst (λ (q : TransactionPosition). IsLater (at q calls' size') (at r calls size)) (sym same) (by_runs r.runs r.calls r.size r.turn)
  where
    by_runs : (b : Bool) (c s l : ℕ) → IsLater (at (record { runs = b; calls = c; size = s; turn = l }) calls' size') (at (record { runs = b; calls = c; size = s; turn = l }) calls size)
    by_runs true c s l = (omega arith, (omega arith, λ _. inr (omega arith, inr (fewer, smaller))))
    by_runs false c s l = (fewer, inr smaller)

-- or with fewer calls
pub later_fewer : (r r' : TransactionPosition) (calls size calls' size' : ℕ) → r' ≡ r → calls' < calls
    → IsLater (record { transaction = r'; calls = calls'; size = size' }) (record { transaction = r; calls = calls; size = size })
unfolding IsLater
later_fewer r r' calls size calls' size' same fewer =
    subst (λ (q : TransactionPosition). IsLater (at q calls' size') (at r calls size)) (sym same) (by_runs r.runs r.calls r.size r.turn)
  where
    by_runs : (b : Bool) (c s l : ℕ) → IsLater (at (record { runs = b; calls = c; size = s; turn = l }) calls' size') (at (record { runs = b; calls = c; size = s; turn = l }) calls size)
    by_runs true c s l = (omega arith, (omega arith, λ _. inr (omega arith, inl fewer)))
    by_runs false c s l = (omega arith, inl fewer)

-- an attempt was begun
pub later_begun : (first : Bool) (t : Transaction) (r : TransactionPosition) (calls size size' : ℕ) → r ≡ attempt_around (2 * t.left) t
    → calls ≤ t.calls → 2 + frames_size t.frames.items ≤ size
    → IsLater (record { transaction = r; calls = calls; size = size' }) (record { transaction = begun_around first t; calls = t.calls; size = size })
unfolding IsLater
later_begun first t r calls size size' same fewer room =
    subst (λ (q : TransactionPosition). IsLater (at q calls size') (at (begun_around first t) t.calls size)) (sym same) (by_first first)
  where
    by_first : (b : Bool) → IsLater (at (attempt_around (2 * t.left) t) calls size') (at (begun_around b t) t.calls size)
    by_first true = (omega (arith, fewer), (omega (arith, room), λ h. cc))
    by_first false = (omega (arith, fewer), (omega arith, λ _. inl (omega arith)))

-- the transaction is over
pub later_over : (r : TransactionPosition) (t : Transaction) (turn calls size calls' size' : ℕ) → r ≡ no_attempt
    → calls' ≤ max t.calls calls → size' < 2 + frames_size t.frames.items
    → IsLater (record { transaction = r; calls = calls'; size = size' }) (record { transaction = attempt_around turn t; calls = calls; size = size })
unfolding IsLater
later_over r t turn calls size calls' size' over fewer smaller =
    subst (λ (q : TransactionPosition). IsLater (at q calls' size') (at (attempt_around turn t) calls size)) (sym over) (fewer, inr smaller)

later_next : (r : TransactionPosition) (t : Transaction) (turn turn' calls size calls' size' : ℕ) → r ≡ attempt_around turn' t
    → calls' ≡ t.calls → turn' < turn
    → IsLater (record { transaction = r; calls = calls'; size = size' }) (record { transaction = attempt_around turn t; calls = calls; size = size })
unfolding IsLater
later_next r t turn turn' calls size calls' size' next same falls =
    subst (λ (q : TransactionPosition). IsLater (at q calls' size') (at (attempt_around turn t) calls size)) (sym next) (omega (arith, same), (omega arith, λ _. inl falls))

pub later_retried : (c : Control) (s : State) (t : Transaction) (calls size : ℕ) → IsRetried c s t calls
    → IsLater (control_position c s) (record { transaction = attempt_around (2 * t.left) t; calls = calls; size = size })
later_retried (Control.Evaluate form room) s t calls size h = absurd h
later_retried (Control.Return v) s t calls size h = absurd h
later_retried (Control.Fault f) s t calls size h = later_over _ t _ _ _ _ _ h.0 h.1 (omega (arith, h.2))
later_retried (Control.Ask ask wanted) s t calls size h = later_next _ t _ (2 * t.left - 1) _ _ _ _ h.0 h.1 (omega (arith, h.2))
later_retried (Control.Enter f values room) s t calls size h = absurd h

-- and from there on
pub later_on : (a b c : Position) → IsLater b a → IsOn c b → IsLater c a
unfolding IsLater IsOn
later_on a b c later on =
    subst (λ (q : TransactionPosition). IsLater (at q c.calls c.size) a) (sym on.0) (by_runs b.transaction.runs b.transaction.calls b.transaction.size b.transaction.turn later)
  where
    by_runs : (v : Bool) (n s l : ℕ) → IsLater (at (record { runs = v; calls = n; size = s; turn = l }) b.calls b.size) a
        → IsLater (at (record { runs = v; calls = n; size = s; turn = l }) c.calls c.size) a
    by_runs true n s l h = (omega (arith, h.0), (h.1.0, λ r. falls (h.1.1 r)))
      where
        falls : (l < a.transaction.turn) ⊎ (l ≤ a.transaction.turn) × IsLess (at (record { runs = true; calls = n; size = s; turn = l }) b.calls b.size) a
            → (l < a.transaction.turn) ⊎ (l ≤ a.transaction.turn) × IsLess (at (record { runs = true; calls = n; size = s; turn = l }) c.calls c.size) a
        falls f = grind arith
    by_runs false n s l h = (omega (arith, h.0), grind (arith, h.1))

behind_both : (calls size calls' size' calls'' size'' : ℕ) → calls ≤ calls' → size ≤ size' → (calls' < calls'') ⊎ (size' ≤ size'') → (calls < calls'') ⊎ (size ≤ size'')
behind_both calls size calls' size' calls'' size'' h k (inl l) = inl (omega arith)
behind_both calls size calls' size' calls'' size'' h k (inr l) = inr (omega arith)

pub on_itself : (p : Position) → IsOn p p
unfolding IsOn
on_itself p = (refl, omega arith, inr (omega arith))

pub on_asked : (old middle : Position) (r : TransactionPosition) (calls size : ℕ) → IsOn middle old → r ≡ middle.transaction → calls ≤ middle.calls → size ≤ middle.size
    → IsOn (record { transaction = r; calls = calls; size = size }) old
unfolding IsOn
on_asked old middle r calls size on same fewer smaller = (same ∙ on.0, omega (arith, on.1), behind_both _ _ _ _ _ _ fewer smaller on.2)

pub on_entered : (old middle : Position) (c : Control) (s entered : State) → IsOn middle old → around entered.transaction ≡ middle.transaction → 1 + entered.calls ≤ middle.calls
    → control_around c s ≡ around entered.transaction → control_calls c s ≤ entered.calls → IsOn (control_position c s) old
unfolding IsOn
on_entered old middle c s entered on same fewer same' fewer' = (same' ∙ same ∙ on.0, omega (arith, on.1), inl (omega (arith, on.1)))

pub entered_less : (a b c : ℕ) → a ≤ b → 1 + b ≤ c → a < c
entered_less a b c h k = omega arith

-- the body of an attempt that was begun
pub begun-later : {E : Type 0} (r : Result Control E) (work : ℕ) (new u s : State)
    (b c : Box Transaction Global) → u.calls ≡ b.value.calls
    → u.transaction ≡ Some c → attempt_around (2 * c.value.left) c.value ≡ attempt_around (2 * b.value.left) b.value
    → IfOk r (LeadsOnWithin work u new)
    → IfOk r (λ k. IsLater (control_position k new) (wanted_position (Wanted.Begin b) s))
begun-later (Ok k) work new u s b c entered runs same on = later_begun b.value.is_first b.value _ _ _ _
    (on.around ∙ ap around runs ∙ same) (omega (arith, on.calls, entered)) (omega arith)
begun-later (Err e) work new u s b c entered runs same on = tt

-- another attempt after a read, and after a commit
pub retried-later : {E : Type 0} (r : Result Control E) (new s : State) (t : Box Transaction Global) (calls : ℕ) → s.transaction ≡ Some t → calls ≡ s.calls
    → IfOk r (λ k. IsRetried k new t.value calls)
    → IfOk r (λ k. (name : RefName) → IsLater (control_position k new) (wanted_position (Wanted.Reading name) s))
retried-later (Ok k) new s t calls runs same h =
    let P : Option (Box Transaction Global) → Type 0 = λ a. IsLater (control_position k new)
    (record { transaction = around a; calls = s.calls; size = 2 + frames_size s.frames.items }) in
    let Q : ℕ → Type 0 = λ n. IsRetried k new t.value n in
    λ name. subst P (sym runs) (later_retried k new t.value s.calls _ (subst Q same h))
retried-later (Err e) new s t calls runs same h = tt

pub conflict-later : {E : Type 0} (r : Result Control E) (new s : State) (t : Box Transaction Global) (v : Value)
    → IfOk r (λ k. IsRetried k new t.value s.calls)
    → IfOk r (λ k. IsLater (control_position k new) (wanted_position (Wanted.Verdict v t) s))
conflict-later (Ok k) new s t v h = later_retried k new t.value s.calls _ h
conflict-later (Err e) new s t v h = tt

-- what holds for all holds for one
pub if_ok-for : {A B E : Type 0} (F : A → B → Type 0) (b : B) (r : Result A E) → IfOk r (λ a. (c : B) → F a c) → IfOk r (λ a. F a b)
if_ok-for F b (Ok a) h = h b
if_ok-for F b (Err e) h = tt

-- once a body is entered, not more calls are left
pub entered-below : (c : Control) (s : State) → entered_calls c s ≤ control_calls c s
entered-below (Control.Evaluate form room) s = omega arith
entered-below (Control.Return v) s = omega arith
entered-below (Control.Fault f) s = omega arith
entered-below (Control.Ask ask wanted) s = omega arith
entered-below (Control.Enter f values room) s = omega arith

pub entered-within : {E : Type 0} (r : Result Control E) (work : ℕ) (old new : State)
    → IfOk r (LeadsOnWithin work old new) → IfOk r (λ c. entered_calls c new ≤ old.calls)
entered-within (Ok c) work old new on = omega (arith, on.calls, entered-below c new)
entered-within (Err e) work old new on = tt
