-- How far an evaluation came, for the proof that it ends: its transaction, the calls that are left,
-- and how much there is to do.
use Rattle.std.specs.Prelude.{ℕ, ◌≡◌, ◌+◌, ◌-◌, ◌*◌, ◌<◌, ◌≤◌, ◌⊎◌, Bool, true, false}
use Rattle.std.specs.Prelude.{if◌then◌else◌, max, Option, Some, None, Box}
use Rattle.std.specs.Global.{Global}
use Rattle.walker_state.specs.Size.{frames_size, wanted_size, control_size}
use Rattle.walker_state.specs.declared.frames.Transaction.{Transaction}
use Rattle.walker_state.specs.declared.frames.State.{State}
use Rattle.walker_state.specs.declared.frames.Wanted.{Wanted}
use Rattle.walker_state.specs.declared.frames.Control.{Control}

-- The transaction that is under way: the calls on entering it, what is to be done around it, and
-- twice the attempts left, and one more where an attempt is not yet begun. One of which no attempt
-- was begun is not under way.
pub record TransactionPosition : Type 0 where
  pub runs : Bool
  pub calls : ℕ
  pub size : ℕ
  pub turn : ℕ

abbrev pub no_attempt : TransactionPosition
no_attempt = record { runs = false; calls = 0; size = 0; turn = 0 }

abbrev pub attempt_around : ℕ → Transaction → TransactionPosition
attempt_around turn t = record {
  runs = true;
  calls = t.calls;
  size =
      2 + frames_size t.frames.items;
  turn = turn;
}

abbrev pub around : Option (Box Transaction Global) → TransactionPosition
around None = no_attempt
around (Some t) = attempt_around (2 * t.value.left) t.value

abbrev pub begun_around : Bool → Transaction → TransactionPosition
begun_around true t = no_attempt
begun_around false t = attempt_around (2 * t.left + 1) t

abbrev pub wanted_around : Wanted → State → TransactionPosition
wanted_around (Wanted.Resolution purpose) s = around s.transaction
wanted_around (Wanted.Completion v) s = around s.transaction
wanted_around (Wanted.Namespace name) s = around s.transaction
wanted_around Wanted.Value s = around s.transaction
wanted_around (Wanted.Permission v) s = around s.transaction
wanted_around (Wanted.Sending sending) s = around s.transaction
wanted_around (Wanted.Reading name) s = around s.transaction
wanted_around (Wanted.Ensuring name) s = around s.transaction
wanted_around (Wanted.Seen w) s = around s.transaction
wanted_around (Wanted.Tried w v) s = around s.transaction
wanted_around (Wanted.Begin t) s = begun_around t.value.is_first t.value
wanted_around (Wanted.Verdict v t) s = attempt_around (2 * t.value.left) t.value

abbrev pub wanted_calls : Wanted → State → ℕ
wanted_calls (Wanted.Resolution purpose) s = s.calls
wanted_calls (Wanted.Completion v) s = s.calls
wanted_calls (Wanted.Namespace name) s = s.calls
wanted_calls Wanted.Value s = s.calls
wanted_calls (Wanted.Permission v) s = s.calls
wanted_calls (Wanted.Sending sending) s = s.calls
wanted_calls (Wanted.Reading name) s = s.calls
wanted_calls (Wanted.Ensuring name) s = s.calls
wanted_calls (Wanted.Seen w) s = s.calls
wanted_calls (Wanted.Tried w v) s = s.calls
wanted_calls (Wanted.Begin t) s = t.value.calls
wanted_calls (Wanted.Verdict v t) s = s.calls

abbrev pub control_around : Control → State → TransactionPosition
control_around (Control.Evaluate form room) s = around s.transaction
control_around (Control.Return v) s = around s.transaction
control_around (Control.Fault f) s = around s.transaction
control_around (Control.Ask ask wanted) s = wanted_around wanted s
control_around (Control.Enter f values room) s = around s.transaction

-- a call is taken from the budget before a function's body is entered
abbrev pub control_calls : Control → State → ℕ
control_calls (Control.Evaluate form room) s = s.calls
control_calls (Control.Return v) s = s.calls
control_calls (Control.Fault f) s = s.calls
control_calls (Control.Ask ask wanted) s = wanted_calls wanted s
control_calls (Control.Enter f values room) s = 1 + s.calls

-- once that body is entered
abbrev pub entered_calls : Control → State → ℕ
entered_calls (Control.Evaluate form room) s = s.calls
entered_calls (Control.Return v) s = s.calls
entered_calls (Control.Fault f) s = s.calls
entered_calls (Control.Ask ask wanted) s = wanted_calls wanted s
entered_calls (Control.Enter f values room) s = s.calls

pub record Position : Type 0 where
  pub transaction : TransactionPosition
  pub calls : ℕ
  pub size : ℕ

abbrev pub wanted_position : Wanted → State → Position
wanted_position w s = record {
  transaction = wanted_around w s;
  calls = wanted_calls w s;
  size =
      wanted_size w + frames_size s.frames.items;
}

abbrev pub control_position : Control → State → Position
control_position c s = record {
  transaction = control_around c s;
  calls = control_calls c s;
  size =
      control_size c + frames_size s.frames.items;
}

abbrev pub outer_calls : Position → ℕ
outer_calls p = if p.transaction.runs then max p.transaction.calls p.calls else p.calls

abbrev pub outer_size : Position → ℕ
outer_size p = if p.transaction.runs then p.transaction.size else p.size

-- fewer calls left, or as many and less to do
abbrev pub IsLess : Position → Position → Type 0
IsLess new old = (new.calls < old.calls) ⊎ (new.calls ≤ old.calls) × (new.size < old.size)

abbrev pub LaterIn : Bool → Position → Position → Type 0
LaterIn true new old = (outer_size new ≤ outer_size old)
    × (old.transaction.runs ≡ true → (new.transaction.turn < old.transaction.turn)
    ⊎ (new.transaction.turn ≤ old.transaction.turn) × IsLess new old)
LaterIn false new old = (outer_calls new < outer_calls old) ⊎ (outer_size new < outer_size old)

-- An answer leads on: within a transaction to a later attempt, or with less to do in this one; out
-- of it, or outside, to fewer calls, or to less to do.
unfoldable pub IsLater : Position → Position → Type 0
IsLater new old = (outer_calls new ≤ outer_calls old) × LaterIn new.transaction.runs new old

-- the same, without an answer
unfoldable pub IsOn : Position → Position → Type 0
IsOn new old = (new.transaction ≡ old.transaction) × (new.calls ≤ old.calls)
    × ((new.calls < old.calls) ⊎ (new.size ≤ old.size))

-- One attempt fewer is left. After the last, the transaction is over.
abbrev pub IsRetried : Control → State → Transaction → ℕ → Type 0
IsRetried (Control.Evaluate form room) s t calls = ⊥
IsRetried (Control.Return v) s t calls = ⊥
IsRetried (Control.Fault f) s t calls =
    (around s.transaction ≡ no_attempt) × (s.calls ≤ max t.calls calls)
    × (frames_size s.frames.items ≡ 0)
IsRetried (Control.Ask ask wanted) s t calls =
    (wanted_around wanted s ≡ attempt_around (2 * t.left - 1) t)
    × (wanted_calls wanted s ≡ t.calls) × (0 < t.left)
IsRetried (Control.Enter f values room) s t calls = ⊥

-- A step leaves this control: beside the frames that there were it has less to do than `work`, it
-- may make no more calls than before, and it is in the transaction that was.
pub record LeadsOnWithin (work : ℕ) (old new : State) (control : Control) : Type 0 where
  pub size : control_size control + frames_size new.frames.items
      < work + frames_size old.frames.items
  pub calls : control_calls control new ≤ old.calls
  pub around : control_around control new ≡ around old.transaction
