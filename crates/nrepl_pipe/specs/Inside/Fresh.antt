-- What the loop of `pipe` begins with, and with what each piece is heard.
use Rattle.std.specs.Prelude.{◌≡◌, [], None}
use Rattle.server_rules.specs.Ground.{Ground}
use Rattle.server_rules.specs.Hearing.{stream_fault}
use Rattle.server_rules.specs.LoneTurns.{LoneTenant}

-- nothing was heard, and no reply waits
abbrev pub IsFresh : LoneTenant → Type 0
IsFresh l = (l.state.heard ≡ []) × (l.state.replies ≡ [])

-- the stream has no fault so far, and no reply waits
abbrev pub IsReady : Ground → LoneTenant → Type 0
IsReady g l = (stream_fault g.readings l.state.heard ≡ None) × (l.state.replies ≡ [])
