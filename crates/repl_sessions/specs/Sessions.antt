-- The sessions of a tenant, in the order in which they were made.
use Rattle.std.specs.Prelude.{ℕ, ◌+◌, ◌==◌, List, [], ◌∷◌, ◌++◌, find, filter, map, Bool, not}
use Rattle.std.specs.Prelude.{if◌then◌else◌, Option, Some, None, option_map, unwrap_or, is_some}
use Rattle.repl_sessions.specs.State.{StateData, fresh}

pub record SessionData : Type 0 where
  pub number : ℕ
  pub state : StateData

pub record SessionsData : Type 0 where
  -- how many were ever made: the number of the next one
  pub opened : ℕ
  -- those that are open
  pub live : List SessionData

abbrev pub none_open : SessionsData
none_open = record { opened = 0; live = [] }

abbrev pub is_numbered : ℕ → SessionData → Bool
is_numbered number x = number == x.number

-- the state of the open session of this number
abbrev pub state_of : SessionsData → ℕ → Option StateData
state_of s number = option_map (λ x. x.state) (find (is_numbered number) s.live)

abbrev pub is_open : SessionsData → ℕ → Bool
is_open s number = is_some (state_of s number)

-- one session more, behind the others
abbrev pub opened_with : SessionsData → StateData → SessionsData
opened_with s state = record {
  opened = s.opened + 1;
  live = s.live ++ record { number = s.opened; state = state } ∷ [];
}

-- what a clone begins with: the state of an open session, or a fresh one
abbrev pub cloned_state : SessionsData → Option ℕ → StateData
cloned_state s None = fresh
cloned_state s (Some number) = unwrap_or (state_of s number) fresh

abbrev pub with_clone_of : SessionsData → Option ℕ → SessionsData
with_clone_of s original = opened_with s (cloned_state s original)

abbrev pub without_session : SessionsData → ℕ → SessionsData
without_session s number = record s { live = filter (λ x. not (is_numbered number x)) s.live }

abbrev pub with_changed_state : (StateData → StateData) → ℕ → SessionData → SessionData
with_changed_state f number x = if is_numbered number x then record x { state = f x.state } else x

-- the state of the session of this number changes, and no other
abbrev pub with_change : SessionsData → ℕ → (StateData → StateData) → SessionsData
with_change s number f = record s { live = map (with_changed_state f number) s.live }
