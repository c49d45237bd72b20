use Rattle.repl_replies.specs.Inside.View.{origin_view}
use Rattle.repl_replies.proofs.Replies.{exception_spelled}
use Rattle.repl_replies.proofs.reply.Origin.exception_bytes.Goals as goal

pub returns : goal.returns
returns c =
    rw (c.in_ok-extend_from_slice-2.ensures.items, c.in_ok-extend_from_slice.ensures.items, c.in_ok-write_given-2.ensures, c.in_ok-write_text-2.ensures, c.as_str-2.ensures.value, c.in_ok-write_given.ensures, c.in_ok-write_text.ensures, c.as_str.ensures.value, c.in_ok-text.ensures, c.in_ok-bytes.ensures)
    (exception_spelled (origin_view c.args.self.now) c.args.class.now)
