use Rattle.repl_replies.specs.Inside.View.{origin_view}
use Rattle.repl_replies.proofs.Replies.{described_spelled}
use Rattle.repl_replies.proofs.reply.Origin.described_bytes.Goals as goal

pub returns : goal.returns
returns c =
    rw (c.in_ok-extend_from_slice-5.ensures.items, c.in_ok-extend_from_slice-4.ensures.items, c.in_ok-extend_from_slice-3.ensures.items, c.in_ok-write_given-2.ensures, c.in_ok-write_operations.ensures, c.all.ensures, c.in_ok-extend_from_slice-2.ensures.items, c.in_ok-write_given.ensures, c.in_ok-extend_from_slice.ensures.items, c.in_ok-bytes.ensures)
    (described_spelled (origin_view c.args.self.now))
