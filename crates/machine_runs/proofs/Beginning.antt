-- Before the first piece.
use Rattle.std.proofs.Common.{ℕ, List, [], refl, Option}
use Rattle.std.proofs.KnownBytes.{Appends-nil, Consumes-nil}
use Rattle.server_rules.specs.Ground.{Ground}
use Rattle.server_rules.specs.LoneTurns.{LoneTenant}
use Rattle.nrepl_pipe.specs.Served.{Moves, BeginsToServe}

pub moves-none : (g : Ground) (l : LoneTenant) (unread held : Option (List ℕ))
    → Moves unread unread held held (λ read written. BeginsToServe g l read written)
moves-none g l unread held = (
  [],
  [],
  Consumes-nil unread,
  Appends-nil held,
  record {
    pieces = [];
    turns = [];
    are_pieces = tt;
    cutting = refl;
    schedule = refl;
    more = [];
    begins = refl;
  },
)
