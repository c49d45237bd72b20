-- What the messages of a piece make of a tenant, and the fault of the stream behind them.
use Rattle.std.specs.Prelude.{ℕ, List, [], ◌∷◌, Bool, true, false}
use Rattle.bencode_wire.specs.Tree.{Tree}
use Rattle.repl_replies.specs.Replies.{no_origin, malformed, ReplyData}
use Rattle.server_rules.specs.Ground.{Ground}
use Rattle.server_rules.specs.Hearing.{with_messages}
use Rattle.server_rules.specs.Replying.{reply}
use Rattle.server_rules.specs.Tenant.{TenantState, with_replies}

abbrev pub told_broken : Bool → List ReplyData
told_broken true = reply no_origin malformed ∷ []
told_broken false = []

abbrev pub with_piece : Ground → ℕ → List Tree → Bool → TenantState → TenantState
with_piece g t messages is_broken q =
    with_replies (told_broken is_broken) (with_messages g t messages q)
