-- The sessions of a tenant with their ids, by which requests name them.
use Rattle.std.specs.Prelude.{ℕ, List, Bool, Option, option_map, find, map}
use Rattle.std.specs.Str.{bytes_eq}
use Rattle.repl_sessions.specs.Ids.{IdsData, id_text}
use Rattle.repl_sessions.specs.Sessions.{SessionData, SessionsData}

pub record NamedSessions : Type 0 where
  pub ids : IdsData
  pub sessions : SessionsData

-- whether the id of a session has this text
abbrev pub is_named : IdsData → List ℕ → SessionData → Bool
is_named ids text x = bytes_eq (id_text ids x.number) text

-- the number of the open session with this id; where two have it, that of the older
abbrev pub number_named : NamedSessions → List ℕ → Option ℕ
number_named s text = option_map (λ x. x.number) (find (is_named s.ids text) s.sessions.live)

-- the ids of the open sessions, in the order in which they were made
abbrev pub ids_of : NamedSessions → List (List ℕ)
ids_of s = map (λ x. id_text s.ids x.number) s.sessions.live
