-- What is told of a request, and what its session then remembers.
use Rattle.std.specs.Prelude.{◌≡◌, ℕ, List, ◌++◌, map}
use Rattle.repl_replies.specs.Replies.{bytes_of}
use Rattle.repl_sessions.specs.State.{StateData}
use Rattle.repl_sessions.specs.Inside.StateView.{state_view}
use Rattle.server_rules.specs.Moves.{Move}
use Rattle.tenant_parts.specs.Replies.{made_bytes}
use Rattle.tenant_moves.specs.declared.effects.RequestEffects.{RequestEffects}

abbrev pub told_state : RequestEffects → StateData
told_state n = state_view n.state

abbrev pub told_bytes : RequestEffects → List (List ℕ)
told_bytes n = made_bytes n.batch

-- the replies of the move are added, and the state is that of the move
pub record Adds (m : Move) (old new : RequestEffects) : Type 0 where
  pub replies : told_bytes new ≡ told_bytes old ++ map bytes_of m.replies
  pub state : told_state new ≡ m.state

-- just these are the replies of the move, and the state is that of the move
pub record TellsMove (m : Move) (n : RequestEffects) : Type 0 where
  pub replies : told_bytes n ≡ map bytes_of m.replies
  pub state : told_state n ≡ m.state
