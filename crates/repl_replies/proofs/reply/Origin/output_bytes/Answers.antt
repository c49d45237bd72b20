use Rattle.repl_replies.specs.Inside.View.{origin_view}
use Rattle.repl_replies.proofs.Replies.{output_spelled}
use Rattle.repl_replies.proofs.reply.Origin.output_bytes.Goals as goal

pub returns : goal.returns
returns c =
    rw (c.in_ok-extend_from_slice.ensures.items, c.in_ok-write_given-2.ensures, c.in_ok-write_text.ensures, c.in_ok-write_given.ensures, c.in_ok-bytes.ensures)
    (output_spelled (origin_view c.args.self.now) c.args.text.now)
