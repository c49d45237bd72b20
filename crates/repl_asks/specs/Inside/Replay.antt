-- What a replay shows: what it has heard, and the answers that it has left; and why it gives none.
use Rattle.std.specs.Prelude.{◌≡◌, ◌⊎◌, List, true, map, ⊤}
use Rattle.repl_asks.specs.Exchange.{AskData, AnswerData, Heard, NoneFits}
use Rattle.repl_asks.specs.Inside.View.{answer_view, trace_view}
use Rattle.repl_asks.specs.declared.refs.StopReason.{StopReason}
use Rattle.repl_asks.specs.declared.replay.Replay.{Replay}

abbrev pub heard_by : Replay → Heard
heard_by r = record { trace = trace_view r.trace.items; stopped = r.has_stopped }

abbrev pub answers_left : Replay → List AnswerData
answers_left r = map answer_view r.left.items

-- what a replay may say of an ask that it does not answer: there is no answer only where it has
-- stopped before, none is left, or the next is of another kind
abbrev pub MaySay : StopReason → Replay → AskData → Type 0
MaySay StopReason.NoAnswer r ask = ((heard_by r).stopped ≡ true) ⊎ NoneFits ask (answers_left r)
MaySay StopReason.Interrupted r ask = ⊥
MaySay StopReason.Refused r ask = ⊥
MaySay StopReason.NoMemory r ask = ⊤
