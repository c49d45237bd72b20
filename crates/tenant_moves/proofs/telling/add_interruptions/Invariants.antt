use Rattle.std.proofs.Common.{◌≡◌, ◌++◌, map}
use Rattle.repl_replies.specs.Replies.{bytes_of}
use Rattle.server_rules.specs.Operating.{interruption}
use Rattle.tenant_parts.specs.View.{waiting_view}
use Rattle.tenant_parts.specs.Replies.{made_bytes}
use Rattle.tenant_moves.proofs.telling.add_interruptions.Given as goal

abbrev pub invariant-loop-request : goal.invariant-loop-request
invariant-loop-request l =
    made_bytes l.batch ≡ made_bytes l.fn.batch ++ map bytes_of (map interruption (map waiting_view (map (λ w. w.now) l.yielded)))
