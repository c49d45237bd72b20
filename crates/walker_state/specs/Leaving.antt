-- What is left of an evaluation behind its last frame.
use Rattle.std.specs.Prelude.{◌≡◌, ◌+◌, ◌≤◌, Ok, string_bytes, ⊤}
use Rattle.value_data.specs.Inside.View.{view}
use Rattle.repl_asks.specs.Inside.View.{ask_view}
use Rattle.repl_asks.specs.InteractionTree.{InteractionTree, asks}
use Rattle.evaluation_rules.specs.Tree.{ends}
use Rattle.walker_state.specs.Pending.{tree_with_answer, kept_of}
use Rattle.walker_state.specs.Size.{wanted_size, frames_size}
use Rattle.walker_state.specs.Position.{wanted_around, wanted_calls, Position}
use Rattle.walker_state.specs.declared.commits.EndOrCommit.{EndOrCommit}
use Rattle.walker_state.specs.declared.frames.State.{State}
use Rattle.walker_state.specs.declared.frames.Wanted.{Wanted}

abbrev pub end_or_commit_tree : EndOrCommit → State → InteractionTree
end_or_commit_tree (EndOrCommit.Ends v) s = ends (Ok (view v)) (string_bytes s.text) (kept_of s)
end_or_commit_tree (EndOrCommit.Asks ask wanted) s =
    asks (ask_view ask) (λ answer. tree_with_answer wanted answer s)

-- an ask is reached, without a call and with as much to do or less
abbrev pub IsAskedFrom : Wanted → State → Position → Type 0
IsAskedFrom wanted s old =
    (wanted_around wanted s ≡ old.transaction) × (wanted_calls wanted s ≤ old.calls)
    × (wanted_size wanted + frames_size s.frames.items ≤ old.size)

abbrev pub IsEndOrCommit : EndOrCommit → State → Position → Type 0
IsEndOrCommit (EndOrCommit.Ends v) s old = ⊤
IsEndOrCommit (EndOrCommit.Asks ask wanted) s old = IsAskedFrom wanted s old
