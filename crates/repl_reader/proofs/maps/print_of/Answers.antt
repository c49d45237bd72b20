use Rattle.std.proofs.Common.{◌∙◌}
use Rattle.repl_reader.proofs.Rows.{print_at_inside, print_at_past}
use Rattle.repl_reader.proofs.maps.print_of.Goals as goal

pub returns-in_default : goal.returns-in_default
returns-in_default c = c.new-text.ensures.bytes ∙ print_at_past c.args.keys.now c.args.place c.in_default.ensures.lookup.3

pub returns : goal.returns
returns c = c.in_ok-print_into.ensures.ok ∙ rw c.new-text.ensures.bytes
    (print_at_inside c.args.keys.now c.args.place c.in-Some.key.now c.in-Some.ensures.lookup.3.0 c.in-Some.ensures.lookup.1)
