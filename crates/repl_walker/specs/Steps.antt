-- How far an evaluation came: to its next ask, or to its end; and how much it has still to do.
use Rattle.std.specs.Prelude.{◌≡◌, ℕ, ◌+◌, ◌≤◌, ⊤, string_bytes}
use Rattle.std.specs.Arc.{arc_value}
use Rattle.repl_asks.specs.Exchange.{AnswerData}
use Rattle.repl_asks.specs.Inside.View.{ask_view}
use Rattle.repl_asks.specs.InteractionTree.{InteractionTree, finished, asks}
use Rattle.repl_asks.specs.Inside.Jobs.{end_view, finished_view}
use Rattle.special_forms.specs.Inside.Seen.{function_view}
use Rattle.value_data.specs.Inside.View.{views}
use Rattle.evaluation_rules.specs.Tree.{ends}
use Rattle.evaluation_rules.specs.Applying.{body_value}
use Rattle.evaluation_rules.specs.Evaluation.{value_at}
use Rattle.walker_state.specs.Leaving.{IsAskedFrom}
use Rattle.walker_state.specs.Pending.{tree_with_answer, from_state, kept_of}
use Rattle.walker_state.specs.Position.{around, Position, wanted_position, outer_calls, IsLater}
use Rattle.walker_state.specs.Position.{IsOn}
use Rattle.walker_state.specs.declared.frames.State.{State}
use Rattle.repl_walker.specs.declared.steps.Leg.{Leg}
use Rattle.repl_walker.specs.declared.steps.AskOrEnd.{AskOrEnd}
use Rattle.repl_walker.specs.declared.steps.WaitingEvaluation.{WaitingEvaluation}
use Rattle.repl_walker.specs.declared.steps.Reached.{Reached}

abbrev pub leg_tree : Leg → State → InteractionTree
leg_tree (Leg.Asks ask wanted) s = asks (ask_view ask) (λ answer. tree_with_answer wanted answer s)
leg_tree (Leg.Enters f values room) s =
    from_state (body_value (value_at room) (function_view (arc_value f)) (views values.items)) s
leg_tree (Leg.Ends end) s = ends (end_view end) (string_bytes s.text) (kept_of s)

abbrev pub stop_tree : AskOrEnd → State → InteractionTree
stop_tree (AskOrEnd.Asks ask wanted) s =
    asks (ask_view ask) (λ answer. tree_with_answer wanted answer s)
stop_tree (AskOrEnd.Ends end) s = ends (end_view end) (string_bytes s.text) (kept_of s)

-- what an evaluation does with the answer that it waits for
abbrev pub tree_behind : WaitingEvaluation → AnswerData → InteractionTree
tree_behind w answer = tree_with_answer w.wanted answer w.state.value

-- what an evaluation that came so far has still to do
abbrev pub reached_tree : Reached → InteractionTree
reached_tree (Reached.Asks w ask) = asks (ask_view ask) (tree_behind w)
reached_tree (Reached.Ends end) = finished (finished_view end)

-- Where an evaluation stands, for the proof that it ends. No promise speaks of it.

abbrev pub position_of : WaitingEvaluation → Position
position_of w = wanted_position w.wanted w.state.value

-- without the body of another function
abbrev pub IsOnLeg : Leg → State → Position → Type 0
IsOnLeg (Leg.Asks ask wanted) s old = IsAskedFrom wanted s old
IsOnLeg (Leg.Enters f values room) s old = (around s.transaction ≡ old.transaction)
    × (1 + s.calls ≤ old.calls)
IsOnLeg (Leg.Ends end) s old = ⊤

-- it came on without an answer, or there is no more to do
abbrev pub IsOnStop : AskOrEnd → State → Position → Type 0
IsOnStop (AskOrEnd.Asks ask wanted) s old = IsOn (wanted_position wanted s) old
IsOnStop (AskOrEnd.Ends end) s old = ⊤

-- the same of one that waits
abbrev pub IsOnReached : Reached → Position → Type 0
IsOnReached (Reached.Asks w ask) old = IsOn (position_of w) old
IsOnReached (Reached.Ends end) old = ⊤

-- an answer led on: to a later attempt, or to fewer calls, or to less to do
abbrev pub IsLaterReached : Reached → Position → Type 0
IsLaterReached (Reached.Asks w ask) old = IsLater (position_of w) old
IsLaterReached (Reached.Ends end) old = ⊤

-- the most calls that are left once a transaction is over, none behind the end
abbrev pub most_calls_of : Reached → ℕ
most_calls_of (Reached.Asks w ask) = outer_calls (position_of w)
most_calls_of (Reached.Ends end) = 0
