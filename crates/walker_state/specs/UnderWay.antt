-- A transaction that is under way, in the words of the definition.
use Rattle.std.specs.Prelude.{Bool, true, false, Option, Some, None, Box}
use Rattle.std.specs.Global.{Global}
use Rattle.std.specs.Arc.{arc_str_bytes}
use Rattle.value_data.specs.Datum.{nil}
use Rattle.special_forms.specs.Inside.Seen.{forms_view}
use Rattle.repl_asks.specs.Accesses.{AttemptData, nothing_noted}
use Rattle.tx_attempt.specs.Inside.Seen.{attempt_view}
use Rattle.evaluation_rules.specs.Doing.{Kept, Doing}
use Rattle.evaluation_rules.specs.Tree.{with_attempt}
use Rattle.evaluation_rules.specs.Places.{PlaceData}
use Rattle.evaluation_rules.specs.Rows.{value_of_last}
use Rattle.evaluation_rules.specs.Transactions.{body_of, after_body, attempts}
use Rattle.evaluation_rules.specs.Evaluation.{value_at}
use Rattle.walker_state.specs.declared.frames.Setting.{Setting}
use Rattle.walker_state.specs.declared.frames.Transaction.{Transaction}
use Rattle.walker_state.specs.Frames.{frames_next}

-- Transactions

-- on entering a transaction
abbrev pub kept_at : Setting → Transaction → Kept
kept_at setting t = record {
  calls = t.calls;
  namespace = arc_str_bytes t.namespace;
  running = false;
  retries = setting.retries;
  occasion = setting.occasion;
}

abbrev pub body_at : Setting → Transaction → PlaceData → Doing
body_at setting t p = body_of (value_of_last (value_at t.room p) nil (forms_view t.body))
    (kept_at setting t)

-- the attempts that are left
unfoldable pub again : Setting → Transaction → PlaceData → Kept → Doing
again setting t p = attempts t.left (body_at setting t p) (frames_next t.frames.items p)

-- in the attempt, if a transaction runs
unfoldable pub inside_attempt : Setting → Option (Box Transaction Global) → PlaceData → Doing → Doing
inside_attempt setting None p d = d
inside_attempt setting (Some t) p d =
    with_attempt (after_body (again setting t.value p) (frames_next t.value.frames.items p))
    (attempt_view t.value.attempt) d

-- what the attempt that runs has so far
abbrev pub so_far : Option (Box Transaction Global) → AttemptData
so_far None = nothing_noted
so_far (Some t) = attempt_view t.value.attempt

abbrev pub is_running : Option (Box Transaction Global) → Bool
is_running None = false
is_running (Some t) = true
