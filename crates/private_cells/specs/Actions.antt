-- What is sent to an agent.
use Rattle.std.specs.Prelude.{ℕ, nat_eq, Bool, Option}
use Rattle.std.specs.Option.{option_eq}
use Rattle.repl_asks.specs.Sends.{TaskData}
use Rattle.repl_replies.specs.Replies.{OriginData}

-- An action is a task that was sent. The value of its function is the agent's next state.
pub record ActionData : Type 0 where
  pub task : TaskData
  -- what the replies to the request carry from which it came
  pub origin : OriginData
  -- the number of the session of that request; none where it was bare
  pub session : Option ℕ

-- two numbers of sessions are one, and so are two bare requests
abbrev pub same_session : Option ℕ → Option ℕ → Bool
same_session = option_eq nat_eq

-- whether the action came from this session, or from bare requests
abbrev pub is_of : Option ℕ → ActionData → Bool
is_of session action = same_session action.session session
