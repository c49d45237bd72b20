use Rattle.repl_replies.specs.Inside.View.{origin_view, field_view}
use Rattle.repl_replies.proofs.Replies.{unknown_op_spelled}
use Rattle.repl_replies.proofs.reply.Origin.unknown_op_bytes.Goals as goal

pub returns : goal.returns
returns c =
    rw (c.in_ok-extend_from_slice-2.ensures.items, c.in_ok-extend_from_slice.ensures.items, c.in_ok-write_given-3.ensures, c.in_ok-write_given-2.ensures, c.in_ok-write_given.ensures, c.in_ok-bytes.ensures)
    (unknown_op_spelled (origin_view c.args.self.now) (field_view c.args.op.now))
