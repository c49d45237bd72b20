use Rattle.bencode_wire.specs.Inside.Reader.{open_view}
use Rattle.bencode_wire.proofs.digits.length_digits.Goals as goal

pub returns-in-Digit-clause-yields : goal.returns-in-Digit-clause-yields
returns-in-Digit-clause-yields c = rw c.in-Digit.is (c.more_length.ensures (open_view c.args.frames.now))
